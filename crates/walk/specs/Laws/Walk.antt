-- The walk over an accepted text gives its whole cells. Over nodes it needs no order of theirs: these are laws of the looser form. Assumes nothing.
use Rattle.std.specs.Prelude.{◌≡◌, Bool, ◌&&◌, not, cond, ℕ, suc, ◌+◌, ◌-◌, ◌*◌, ◌/◌, ◌^◌, ◌≤◌, ◌<◌, length, get_or, eqb, ltb}
use Rattle.std.proofs.Math.Path.{refl, sym, ap}
use Rattle.std.proofs.Common.{ap₂, ◌∙◌, add-one, pow-suc, add-mul, mul_assoc, mul_comm, zero-mul, arith, drop_of_length-le, drop-cons, ne_eqb, lt-ltb, le-ltb, ltb-true}
use Rattle.std.proofs.Math.Bool.{true, false}
use mathlib.Core.List.{List, [], ◌∷◌, ◌++◌, map, map-append, append-nil, append_assoc}
use Rattle.std.proofs.Math.ListN.{drop}
use Rattle.logic.specs.Laws.Bools.{and_left, and_right}
use Rattle.ternary.specs.Digits.{value}
use Rattle.cell.specs.declared.Cell.{Cell}
use Rattle.code.specs.Code.{path_of, digits_of}
use Rattle.code.specs.Number.{number_of}
use Rattle.reading.specs.declared.Level.{Level}
use Rattle.reading.specs.declared.Level.TheVariants.{Faces, Belt, Digits}
use Rattle.reading.specs.Reading.{Nodes, end, whole, listed, first, many, render, names}
use Rattle.reading.specs.Loose.{Loose}
use Rattle.reading.specs.Ground.{cell_named, whole_cells}
use Rattle.reading.specs.Prefix.{Name, numbers_of, IsName, AreNames}
use Rattle.reading.proofs.Laws.Named.{name-named}
use Rattle.reading.proofs.Laws.Fewest.{names-good}
use Rattle.reading.specs.TextReading.{nodes_of, is_text, body_start}
use Rattle.reading.proofs.Laws.TextReading.{good-nodes, body-within, body-nodes}
use Rattle.reading.proofs.Laws.Loose.{good-loose}
use Rattle.walk.specs.declared.Spot.{Spot}
use Rattle.walk.specs.Walk.{spot, origin, spot_of, Fits, number_in, after, goes_on, opens, whole_at, walk, goes, Walks, spots_in, last_in}

-- ---- over one byte

-- a letter or digit of number c
module _ (c : ℕ) where
  pub name-number : (l : Level) → c < many l → number_in (first l + c) ≡ c
  unfolding number_in
  name-number Faces h = rw (le-ltb (78 + c) 78 (omega arith)) (omega arith)
  name-number Belt h = rw (le-ltb (78 + c) 78 (omega arith)) (omega arith)
  name-number Digits h = rw (lt-ltb (48 + c) 78 (omega arith)) (omega arith)

  pub not-open : (l : Level) → eqb (first l + c) 40 ≡ false
  not-open Faces = ne_eqb (78 + c) 40 (omega arith)
  not-open Belt = ne_eqb (78 + c) 40 (omega arith)
  not-open Digits = ne_eqb (48 + c) 40 (omega arith)

  pub not-shut : (l : Level) → eqb (first l + c) 41 ≡ false
  not-shut Faces = ne_eqb (78 + c) 41 (omega arith)
  not-shut Belt = ne_eqb (78 + c) 41 (omega arith)
  not-shut Digits = ne_eqb (48 + c) 41 (omega arith)

  pub whole-name : (l : Level) (bs : List ℕ) → whole_at ((first l + c) ∷ bs) ≡ not (opens bs)
  unfolding whole_at
  whole-name l bs = rw (not-open l, not-shut l)

  pub below-nine : (l : Level) → c < many l → c < 9
  below-nine Faces h = omega arith
  below-nine Belt h = omega arith
  below-nine Digits h = h

  module _ (l : Level) (h : c < many l) (k p : ℕ) where
    pub after-name : after (spot k p) (first l + c) ≡ spot k (p / 9 * 9 + c)
    unfolding after
    after-name = rw (not-open l, not-shut l, name-number l h)

    goes-on-name : goes_on (spot k p) (first l + c) ≡ true
    unfolding goes_on
    goes-on-name = rw (not-open l, not-shut l, name-number l h) (lt-ltb c 9 (below-nine l h))

    -- the walk over it, where it is whole and where it has a list
    walk-whole : (bs : List ℕ) → opens bs ≡ false → walk (spot k p) ((first l + c) ∷ bs) ≡ spot k (p / 9 * 9 + c) ∷ walk (spot k (p / 9 * 9 + c)) bs
    unfolding walk
    walk-whole bs e = rw (whole-name l bs, e, after-name)

    walk-listed : (bs : List ℕ) → walk (spot k p) ((first l + c) ∷ 40 ∷ bs) ≡ walk (spot (k + 1) ((p / 9 * 9 + c) * 9)) bs
    unfolding walk
    walk-listed bs = rw (whole-name l (40 ∷ bs), after-name)

    goes-name : (bs : List ℕ) → goes (spot k p) ((first l + c) ∷ bs) ≡ goes (spot k (p / 9 * 9 + c)) bs
    unfolding goes
    goes-name bs = rw (goes-on-name, after-name)

walk-shut : (k p : ℕ) (bs : List ℕ) → walk (spot (k + 1) p) (41 ∷ bs) ≡ walk (spot k (p / 9)) bs
unfolding walk
walk-shut k p bs = let e : k + 1 - 1 ≡ k = omega arith in rw e

goes-open : (k p : ℕ) (bs : List ℕ) → k < 15 → goes (spot k p) (40 ∷ bs) ≡ goes (spot (k + 1) (p * 9)) bs
unfolding goes
goes-open k p bs h = rw (lt-ltb k 15 h)

goes-shut : (k p : ℕ) (bs : List ℕ) → goes (spot (k + 1) p) (41 ∷ bs) ≡ goes (spot k (p / 9)) bs
unfolding goes
goes-shut k p bs = let e : k + 1 - 1 ≡ k = omega arith in rw (lt-ltb 0 (k + 1) (omega arith), e)

-- ---- over nodes

pub last-in : (ns : Nodes) (l : Level) (d p : ℕ) → Loose l d ns → last_in p ns / 9 ≡ p / 9
unfolding last_in
last-in end l d p g = refl
last-in (whole c ns) l d p g = let e = last-in ns l d (p / 9 * 9 + c) g.1 in omega (arith, below-nine c l g.0)
last-in (listed c is ns) l d p g = let e = last-in ns l d (p / 9 * 9 + c) g.3 in omega (arith, below-nine c l g.0)

pub opens-nodes : (ns : Nodes) (l : Level) (rest : List ℕ) → opens rest ≡ false → opens (render l ns ++ rest) ≡ false
opens-nodes end l rest e = e
opens-nodes (whole c ns) l rest e = not-open c l
opens-nodes (listed c is ns) l rest e = not-open c l

pub walk-nodes :
    (ns : Nodes) (l : Level) (d k p : ℕ) (rest : List ℕ) → Loose l d ns → opens rest ≡ false →
    walk (spot k p) (render l ns ++ rest) ≡ spots_in k (p / 9) ns ++ walk (spot k (last_in p ns)) rest
unfolding spots_in last_in
walk-nodes end l d k p rest g e = refl
walk-nodes (whole c ns) l d k p rest g e =
    let n : ℕ = p / 9 * 9 + c in
    let q : n / 9 ≡ p / 9 = omega (arith, below-nine c l g.0) in
    walk-whole c l g.0 k p (render l ns ++ rest) (opens-nodes ns l rest e)
    ∙ ap (λ (x : List Spot). spot k n ∷ x)
    (walk-nodes ns l d k n rest g.1 e ∙ ap (λ (x : ℕ). spots_in k x ns ++ walk (spot k (last_in n ns)) rest) q)
walk-nodes (listed c is ns) l d k p rest g e =
    let n : ℕ = p / 9 * 9 + c in
    let q : n / 9 ≡ p / 9 = omega (arith, below-nine c l g.0) in
    let r : n * 9 / 9 ≡ n = omega arith in
    let tail : List ℕ = 41 ∷ (render l ns ++ rest) in
    let shut : last_in (n * 9) is / 9 ≡ n = last-in is Digits (d - 1) (n * 9) g.2 ∙ r in
    ap (λ (x : List ℕ). walk (spot k p) ((first l + c) ∷ 40 ∷ x)) (append_assoc (render Digits is) (41 ∷ render l ns) rest)
    ∙ walk-listed c l g.0 k p (render Digits is ++ tail)
    ∙ walk-nodes is Digits (d - 1) (k + 1) (n * 9) tail g.2 refl
    ∙ ap₂ (λ (x : ℕ) (y : List Spot). spots_in (k + 1) x is ++ y) r
    (walk-shut k (last_in (n * 9) is) (render l ns ++ rest)
    ∙ ap (λ (x : ℕ). walk (spot k x) (render l ns ++ rest)) shut
    ∙ walk-nodes ns l d k n rest g.3 e
    ∙ ap (λ (x : ℕ). spots_in k x ns ++ walk (spot k (last_in n ns)) rest) q)
    ∙ sym (append_assoc (spots_in (k + 1) n is) (spots_in k (p / 9) ns) (walk (spot k (last_in n ns)) rest))

pub goes-nodes :
    (ns : Nodes) (l : Level) (d k p : ℕ) (rest : List ℕ) → Loose l d ns → k + d ≤ 15 →
    goes (spot k p) (render l ns ++ rest) ≡ goes (spot k (last_in p ns)) rest
unfolding last_in
goes-nodes end l d k p rest g h = refl
goes-nodes (whole c ns) l d k p rest g h =
    goes-name c l g.0 k p (render l ns ++ rest) ∙ goes-nodes ns l d k (p / 9 * 9 + c) rest g.1 h
goes-nodes (listed c is ns) l d k p rest g h =
    let n : ℕ = p / 9 * 9 + c in
    let r : n * 9 / 9 ≡ n = omega arith in
    let tail : List ℕ = 41 ∷ (render l ns ++ rest) in
    let shut : last_in (n * 9) is / 9 ≡ n = last-in is Digits (d - 1) (n * 9) g.2 ∙ r in
    ap (λ (x : List ℕ). goes (spot k p) ((first l + c) ∷ 40 ∷ x)) (append_assoc (render Digits is) (41 ∷ render l ns) rest)
    ∙ goes-name c l g.0 k p (40 ∷ (render Digits is ++ tail))
    ∙ goes-open k n (render Digits is ++ tail) (omega (arith, g.1))
    ∙ goes-nodes is Digits (d - 1) (k + 1) (n * 9) tail g.2 (omega (arith, g.1))
    ∙ goes-shut k (last_in (n * 9) is) (render l ns ++ rest)
    ∙ ap (λ (x : ℕ). goes (spot k x) (render l ns ++ rest)) shut
    ∙ goes-nodes ns l d k n rest g.3 h

-- ---- the spots are those of the whole cells

-- the spot of a name inside a cell of number p
unfoldable pub named : ℕ → ℕ → Name → Spot
named k p q = spot (k + length q - 1) (p * 9 ^ length q + value 9 q)

named-list : (k p c : ℕ) (q : Name) → named (k + 1) (p * 9 + c) q ≡ named k p (c ∷ q)
unfolding named value
named-list k p c q =
    let n : ℕ = 9 ^ length q in
    let e : k + 1 + length q - 1 ≡ k + suc (length q) - 1 = omega arith in
    let a : (p * 9 + c) * n ≡ p * 9 * n + c * n = add-mul (p * 9) c n in
    let b : p * 9 ^ suc (length q) ≡ p * 9 * n =
    ap (λ (x : ℕ). p * x) (pow-suc 9 (length q) ∙ mul_comm n 9) ∙ sym (mul_assoc p 9 n) in
    ap₂ spot e (omega arith)

pub named-one : (k p c : ℕ) → spot k (p * 9 + c) ≡ named k p (c ∷ [])
unfolding named value
named-one k p c = let e : k ≡ k + 1 - 1 = omega arith in ap₂ spot e (omega arith)

pub named-all : (k p c : ℕ) (qs : List Name) → map (named (k + 1) (p * 9 + c)) qs ≡ map (named k p) (map (λ (q : Name). c ∷ q) qs)
named-all k p c [] = refl
named-all k p c (q ∷ qs) = ap₂ ◌∷◌ (named-list k p c q) (named-all k p c qs)

spots-named : (ns : Nodes) (k p : ℕ) → spots_in k p ns ≡ map (named k p) (names ns)
unfolding spots_in
spots-named end k p = refl
spots-named (whole c ns) k p = ap₂ ◌∷◌ (named-one k p c) (spots-named ns k p)
spots-named (listed c is ns) k p =
    ap₂ ◌++◌ (spots-named is (k + 1) (p * 9 + c) ∙ named-all k p c (names is)) (spots-named ns k p)
    ∙ sym (map-append (named k p) (map (λ (q : Name). c ∷ q) (names is)) (names ns))

named-cell : (q : Name) → IsName 6 15 q → named 0 0 q ≡ spot_of (cell_named q)
unfolding named number_of path_of value numbers_of cell_named
named-cell [] h = absurd h
named-cell (f ∷ ds) h =
    let x : Cell = cell_named (f ∷ ds) in
    let e : f ∷ digits_of x.resolution x.row x.column ≡ f ∷ ds = name-named (f ∷ ds) h in
    let d : digits_of x.resolution x.row x.column ≡ ds = cc in
    let v : value 9 (digits_of x.resolution x.row x.column) ≡ value 9 ds = ap (value 9) d in
    let z : 0 * 9 ^ suc (length ds) ≡ 0 = zero-mul (9 ^ suc (length ds)) in
    let i : 0 + suc (length ds) - 1 ≡ length ds = omega arith in
    ap₂ spot i (omega arith)

pub named-cells : (qs : List Name) → AreNames 6 15 qs → map (named 0 0) qs ≡ map spot_of (map cell_named qs)
named-cells [] h = refl
named-cells (q ∷ qs) h = ap₂ ◌∷◌ (named-cell q h.0) (named-cells qs h.1)

pub spots-cells : (ns : Nodes) → AreNames 6 15 (names ns) → spots_in 0 0 ns ≡ map spot_of (whole_cells ns)
unfolding whole_cells
spots-cells ns h = spots-named ns 0 0 ∙ named-cells (names ns) h

-- ---- over a body

module _ (ns : Nodes) (g : Loose Faces 15 ns) where
  pub walk-body : walk origin (render Faces ns) ≡ spots_in 0 0 ns
  unfolding walk
  walk-body =
      ap (walk origin) (sym (append-nil (render Faces ns))) ∙ walk-nodes ns Faces 15 0 0 [] g refl ∙ append-nil (spots_in 0 0 ns)

  pub goes-body : goes origin (render Faces ns) ≡ true
  unfolding goes
  goes-body = ap (goes origin) (sym (append-nil (render Faces ns))) ∙ goes-nodes ns Faces 15 0 0 [] g (omega arith)

-- ---- over an accepted text

module _ (t : List ℕ) (e : is_text t ≡ true) where
  loose : Loose Faces 15 (nodes_of t)
  loose = good-loose (nodes_of t) Faces 15 15 0 (omega arith) (good-nodes t e)

  pub spots-text : spots_in 0 0 (nodes_of t) ≡ map spot_of (whole_cells (nodes_of t))
  spots-text = spots-cells (nodes_of t) (names-good (nodes_of t) Faces 15 0 15 (good-nodes t e) (omega arith))

  -- "with the whole cells in the order they stand"
  pub walk-text : walk origin (drop (body_start t) t) ≡ map spot_of (whole_cells (nodes_of t))
  walk-text = ap (walk origin) (body-nodes t e) ∙ walk-body (nodes_of t) loose ∙ spots-text

  -- the walk starts behind the heading
  pub walks-start : Walks t (body_start t) origin
  walks-start =
      record {
        within = body-within t e;
        fits = record { fine = omega arith; small = omega arith; beside = refl };
        goes = ap (goes origin) (body-nodes t e) ∙ goes-body (nodes_of t) loose;
      }

-- ---- one step on

fits_after : (s : Spot) (b : ℕ) → Fits s → goes_on s b ≡ true → Fits (after s b)
unfolding after goes_on
fits_after s b f g = go (eqb b 40) (eqb b 41) g
  where
    up : (i : ℕ) → 9 ^ (i + 1) ≡ 9 ^ i * 9
    up i = ap (λ (x : ℕ). 9 ^ x) (add-one i) ∙ pow-suc 9 i

    go :
        (x y : Bool) → cond x (ltb s.resolution 15) (cond y (ltb 0 s.resolution) (ltb (number_in b) 9)) ≡ true →
        Fits (cond x (spot (s.resolution + 1) (s.number * 9)) (cond y (spot (s.resolution - 1) (s.number / 9)) (spot s.resolution (s.number / 9 * 9 + number_in b))))
    go true y h = record { fine = omega (arith, ltb-true s.resolution 15 h); small = omega (arith, up (s.resolution + 1), f.small); beside = refl }
    go false true h =
        let l : 0 < s.resolution = ltb-true 0 s.resolution h in
        let e : 9 ^ (s.resolution - 1 + 1 + 1) ≡ 9 ^ (s.resolution + 1) = ap (λ (x : ℕ). 9 ^ x) (omega arith) in
        record { fine = omega (arith, f.fine); small = omega (arith, up (s.resolution - 1 + 1), f.small); beside = refl }
    go false false h =
        let l : number_in b < 9 = ltb-true (number_in b) 9 h in
        record { fine = f.fine; small = omega (arith, up s.resolution, f.small); beside = refl }

pub byte_at : (t : List ℕ) (i : ℕ) → i < length t → drop i t ≡ get_or t i 0 ∷ drop (i + 1) t
byte_at t i h = rw (add-one, drop-cons t i 0)

module _ {t : List ℕ} {i : ℕ} {s : Spot} (w : Walks t i s) (h : i < length t) where
  here : drop i t ≡ get_or t i 0 ∷ drop (i + 1) t
  here = byte_at t i h

  both : (goes_on s (get_or t i 0) && goes (after s (get_or t i 0)) (drop (i + 1) t)) ≡ true
  unfolding goes
  both = sym (ap (goes s) here) ∙ w.goes

  pub goes-here : goes_on s (get_or t i 0) ≡ true
  goes-here = and_left (goes_on s (get_or t i 0)) (goes (after s (get_or t i 0)) (drop (i + 1) t)) both

  pub walks-on : Walks t (i + 1) (after s (get_or t i 0))
  walks-on =
      record {
        within = omega arith;
        fits = fits_after s (get_or t i 0) w.fits goes-here;
        goes = and_right (goes_on s (get_or t i 0)) (goes (after s (get_or t i 0)) (drop (i + 1) t)) both;
      }

  -- past a whole cell, and past any other byte
  pub past-whole : whole_at (drop i t) ≡ true → walk s (drop i t) ≡ after s (get_or t i 0) ∷ walk (after s (get_or t i 0)) (drop (i + 1) t)
  unfolding walk
  past-whole e =
      let f : whole_at (get_or t i 0 ∷ drop (i + 1) t) ≡ true = sym (ap whole_at here) ∙ e in
      ap (walk s) here ∙ rw f

  pub past-other : whole_at (drop i t) ≡ false → walk s (drop i t) ≡ walk (after s (get_or t i 0)) (drop (i + 1) t)
  unfolding walk
  past-other e =
      let f : whole_at (get_or t i 0 ∷ drop (i + 1) t) ≡ false = sym (ap whole_at here) ∙ e in
      ap (walk s) here ∙ rw f

-- behind the last byte there is nothing more
pub walked : (t : List ℕ) (i : ℕ) (s : Spot) → length t ≤ i → walk s (drop i t) ≡ []
unfolding walk
walked t i s h = ap (walk s) (drop_of_length-le t {i = i} h)
