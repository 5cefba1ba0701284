-- The walk over an accepted text stands at the cells of its letters and digits, one after the other. Assumes nothing.
use Rattle.std.specs.Prelude.{◌≡◌, refl, Bool, true, false, cond, ℕ, suc, ◌+◌, ◌-◌, ◌*◌, ◌/◌, ◌<◌, length, drop}
use Rattle.std.proofs.Math.Path.{sym, ap}
use Rattle.std.proofs.Common.{ap₂, ◌∙◌, arith}
use mathlib.Core.List.{List, [], ◌∷◌, ◌++◌, map, map-append, append-nil, append_assoc}
use Rattle.logic.specs.Laws.Bools.{clash}
use Rattle.reading.specs.declared.Level.{Level}
use Rattle.reading.specs.declared.Level.TheVariants.{Faces, Digits}
use Rattle.reading.specs.Reading.{Nodes, end, whole, listed, first, many, room, render, Some, Good}
use Rattle.reading.specs.Prefix.{Name}
use Rattle.reading.specs.Loose.{Loose}
use Rattle.reading.proofs.Laws.Loose.{good-loose}
use Rattle.reading.specs.Letters.{letters, letter_cells, is_letter, letter_count}
use Rattle.reading.proofs.Laws.Letters.{letters-good}
use Rattle.reading.specs.TextReading.{nodes_of, is_text, body_start}
use Rattle.reading.proofs.Laws.TextReading.{good-nodes, body-nodes}
use Rattle.walk.specs.declared.Spot.{Spot}
use Rattle.walk.specs.Walk.{spot, origin, spot_of, after, opens, last_in}
use Rattle.walk.specs.Laws.Walk.{not-open, not-shut, below-nine, after-name, last-in, opens-nodes, named, named-one, named-all, named-cells}
use Rattle.walk.specs.LetterWalk.{letters_from, letters_in, Filled, Led}

-- ---- over one byte

is-letter : (c : ℕ) (l : Level) → is_letter (first l + c) ≡ true
unfolding is_letter
is-letter c l = rw (not-open c l, not-shut c l)

letters-name :
    (c : ℕ) (l : Level) → c < many l → (k p : ℕ) (bs : List ℕ) →
    letters_from (spot k p) ((first l + c) ∷ bs) ≡ spot k (p / 9 * 9 + c) ∷ letters_from (spot k (p / 9 * 9 + c)) bs
unfolding letters_from
letters-name c l h k p bs = rw (is-letter c l, after-name c l h k p)

letters-open : (k p : ℕ) (bs : List ℕ) → letters_from (spot k p) (40 ∷ bs) ≡ letters_from (spot (k + 1) (p * 9)) bs
unfolding letters_from after is_letter
letters-open k p bs = refl

letters-shut : (k p : ℕ) (bs : List ℕ) → letters_from (spot (k + 1) p) (41 ∷ bs) ≡ letters_from (spot k (p / 9)) bs
unfolding letters_from after is_letter
letters-shut k p bs = let e : k + 1 - 1 ≡ k = omega arith in rw e

-- ---- over nodes

letters-nodes :
    (ns : Nodes) (l : Level) (d k p : ℕ) (rest : List ℕ) → Loose l d ns →
    letters_from (spot k p) (render l ns ++ rest) ≡ letters_in k (p / 9) ns ++ letters_from (spot k (last_in p ns)) rest
unfolding letters_in last_in
letters-nodes end l d k p rest g = refl
letters-nodes (whole c ns) l d k p rest g =
    let n : ℕ = p / 9 * 9 + c in
    let q : n / 9 ≡ p / 9 = omega (arith, below-nine c l g.0) in
    letters-name c l g.0 k p (render l ns ++ rest)
    ∙ ap (λ (x : List Spot). spot k n ∷ x)
    (letters-nodes ns l d k n rest g.1 ∙ ap (λ (x : ℕ). letters_in k x ns ++ letters_from (spot k (last_in n ns)) rest) q)
letters-nodes (listed c is ns) l d k p rest g =
    let n : ℕ = p / 9 * 9 + c in
    let q : n / 9 ≡ p / 9 = omega (arith, below-nine c l g.0) in
    let r : n * 9 / 9 ≡ n = omega arith in
    let tail : List ℕ = 41 ∷ (render l ns ++ rest) in
    let shut : last_in (n * 9) is / 9 ≡ n = last-in is Digits (d - 1) (n * 9) g.2 ∙ r in
    ap (λ (x : List ℕ). letters_from (spot k p) ((first l + c) ∷ 40 ∷ x)) (append_assoc (render Digits is) (41 ∷ render l ns) rest)
    ∙ letters-name c l g.0 k p (40 ∷ (render Digits is ++ tail))
    ∙ ap (λ (x : List Spot). spot k n ∷ x)
    (letters-open k n (render Digits is ++ tail)
    ∙ letters-nodes is Digits (d - 1) (k + 1) (n * 9) tail g.2
    ∙ ap₂ (λ (x : ℕ) (y : List Spot). letters_in (k + 1) x is ++ y) r
    (letters-shut k (last_in (n * 9) is) (render l ns ++ rest)
    ∙ ap (λ (x : ℕ). letters_from (spot k x) (render l ns ++ rest)) shut
    ∙ letters-nodes ns l d k n rest g.3
    ∙ ap (λ (x : ℕ). letters_in k x ns ++ letters_from (spot k (last_in n ns)) rest) q)
    ∙ sym (append_assoc (letters_in (k + 1) n is) (letters_in k (p / 9) ns) (letters_from (spot k (last_in n ns)) rest)))

letters-named : (ns : Nodes) (k p : ℕ) → letters_in k p ns ≡ map (named k p) (letters ns)
unfolding letters_in
letters-named end k p = refl
letters-named (whole c ns) k p = ap₂ ◌∷◌ (named-one k p c) (letters-named ns k p)
letters-named (listed c is ns) k p =
    ap₂ ◌∷◌ (named-one k p c)
    (ap₂ ◌++◌ (letters-named is (k + 1) (p * 9 + c) ∙ named-all k p c (letters is)) (letters-named ns k p)
    ∙ sym (map-append (named k p) (map (λ (q : Name). c ∷ q) (letters is)) (letters ns)))

-- ---- how many

pub count-letter : (c : ℕ) (l : Level) (bs : List ℕ) → letter_count ((first l + c) ∷ bs) ≡ 1 + letter_count bs
unfolding letter_count
count-letter c l bs = rw (is-letter c l)

pub count-open : (bs : List ℕ) → letter_count (40 ∷ bs) ≡ letter_count bs
unfolding letter_count is_letter
count-open bs = omega arith

pub count-shut : (bs : List ℕ) → letter_count (41 ∷ bs) ≡ letter_count bs
unfolding letter_count is_letter
count-shut bs = omega arith

pub count-from : (bs : List ℕ) (s : Spot) → length (letters_from s bs) ≡ letter_count bs
unfolding letters_from letter_count
count-from [] s = refl
count-from (b ∷ bs) s = go (is_letter b) (count-from bs (after s b))
  where
    go :
        (x : Bool) → length (letters_from (after s b) bs) ≡ letter_count bs →
        length (cond x (after s b ∷ letters_from (after s b) bs) (letters_from (after s b) bs)) ≡ cond x 1 0 + letter_count bs
    go true h = omega arith
    go false h = omega arith

-- ---- no list is empty

filled-name : (c : ℕ) (l : Level) (bs : List ℕ) → Filled bs → Filled ((first l + c) ∷ bs)
filled-name c l bs f = ((λ e. clash (sym e ∙ not-open c l)), f)

some-letter : (is : Nodes) (l : Level) (rest : List ℕ) → Some is → 0 < letter_count (render l is ++ rest)
some-letter end l rest h = absurd h
some-letter (whole c ns) l rest h = omega (arith, count-letter c l (render l ns ++ rest))
some-letter (listed c is ns) l rest h = omega (arith, count-letter c l (40 ∷ ((render Digits is ++ (41 ∷ render l ns)) ++ rest)))

filled-nodes : (ns : Nodes) (l : Level) (d lo : ℕ) (rest : List ℕ) → Good l d lo ns → Filled rest → Filled (render l ns ++ rest)
filled-nodes end l d lo rest g f = f
filled-nodes (whole c ns) l d lo rest g f = filled-name c l (render l ns ++ rest) (filled-nodes ns l d (suc c) rest g.2 f)
filled-nodes (listed c is ns) l d lo rest g f =
    let tail : List ℕ = 41 ∷ (render l ns ++ rest) in
    let e : (render Digits is ++ (41 ∷ render l ns)) ++ rest ≡ render Digits is ++ tail = append_assoc (render Digits is) (41 ∷ render l ns) rest in
    let i : Filled (render Digits is ++ tail) =
    filled-nodes is Digits (room l c d - 1) 0 tail g.5 ((λ x. clash (sym x)), filled-nodes ns l d (suc c) rest g.6 f) in
    filled-name c l (40 ∷ ((render Digits is ++ (41 ∷ render l ns)) ++ rest))
    ((λ _. rw e (some-letter is Digits tail g.3)), rw e i)

-- ---- each list stands behind a letter or digit

led-name : (c : ℕ) (l : Level) (bs : List ℕ) → Led bs → Led ((first l + c) ∷ bs)
led-name c l bs f = ((λ e. clash (sym (is-letter c l) ∙ e)), f)

pub led-nodes : (ns : Nodes) (l : Level) (rest : List ℕ) → opens rest ≡ false → Led rest → Led (render l ns ++ rest)
led-nodes end l rest e f = f
led-nodes (whole c ns) l rest e f = led-name c l (render l ns ++ rest) (led-nodes ns l rest e f)
led-nodes (listed c is ns) l rest e f =
    let tail : List ℕ = 41 ∷ (render l ns ++ rest) in
    let a : (render Digits is ++ (41 ∷ render l ns)) ++ rest ≡ render Digits is ++ tail = append_assoc (render Digits is) (41 ∷ render l ns) rest in
    let i : Led (render Digits is ++ tail) = led-nodes is Digits tail refl ((λ _. opens-nodes ns l rest e), led-nodes ns l rest e f) in
    led-name c l (40 ∷ ((render Digits is ++ (41 ∷ render l ns)) ++ rest))
    ((λ _. rw a (opens-nodes is Digits tail refl)), rw a i)

-- ---- over an accepted text, of either version

module _ (t : List ℕ) (e : is_text t ≡ true) where
  pub letters-spots : letters_in 0 0 (nodes_of t) ≡ map spot_of (letter_cells (nodes_of t))
  unfolding letter_cells
  letters-spots =
      letters-named (nodes_of t) 0 0 ∙ named-cells (letters (nodes_of t)) (letters-good (nodes_of t) Faces 15 0 15 (good-nodes t e) (omega arith))

  -- the cells of the letters and digits, in the order they stand
  pub letters-text : letters_from origin (drop (body_start t) t) ≡ map spot_of (letter_cells (nodes_of t))
  unfolding letters_from
  letters-text =
      ap (letters_from origin) (body-nodes t e ∙ sym (append-nil (render Faces (nodes_of t))))
      ∙ letters-nodes (nodes_of t) Faces 15 0 0 [] (good-loose (nodes_of t) Faces 15 15 0 (omega arith) (good-nodes t e))
      ∙ append-nil (letters_in 0 0 (nodes_of t))
      ∙ letters-spots

  pub filled-text : Filled (drop (body_start t) t)
  filled-text = rw (body-nodes t e ∙ sym (append-nil (render Faces (nodes_of t)))) (filled-nodes (nodes_of t) Faces 15 0 [] (good-nodes t e) tt)

  pub led-text : (opens (drop (body_start t) t) ≡ false) × Led (drop (body_start t) t)
  led-text =
      let b : drop (body_start t) t ≡ render Faces (nodes_of t) ++ [] = body-nodes t e ∙ sym (append-nil (render Faces (nodes_of t))) in
      (rw b (opens-nodes (nodes_of t) Faces [] refl), rw b (led-nodes (nodes_of t) Faces [] refl tt))
