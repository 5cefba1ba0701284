-- Counting along the nodes of a text: all letters and digits, and those whose cells are no later than the asked one in code order. Assumes nothing.
use Rattle.std.specs.Prelude.{◌≡◌, Bool, true, false, ◌&&◌, ◌||◌, drop, leb, eqb}
use Rattle.std.proofs.Math.Path.{refl, sym, ap, ap₂}
use Rattle.std.proofs.Common.{◌∙◌, ⊎_elim, add-mul, mul_assoc, mul_comm, length-append, le-leb, lt-ltb, le-ltb, eq-eqb, ne_eqb}
use Rattle.std.proofs.Math.Bool.{cond}
use mathlib.Core.List.{List, [], ◌∷◌, ◌++◌, append-nil, append_assoc}
use Prim.Native.Nat.{ℕ, suc, ◌+◌, ◌-◌, ◌*◌, ◌/◌, ◌^◌, ◌≤◌, ◌<◌}
use Rattle.std.proofs.Math.Nat.{pow-suc, suc-mul, mul-le-mul_right, le_trans}
use native.Mathlib.Omega.{arith}
use Rattle.std.proofs.Math.ListN.{length, length-map}
use Rattle.std.proofs.lemmas.Bool.{lt-leb}
use Rattle.logic.specs.Laws.Bools.{and_none}
use Rattle.logic.specs.Laws.Order.{lt-or}
use Rattle.ternary.proofs.Laws.Powers.{nine-pos, nine-le}
use Rattle.code.specs.Code.{code_of, cell_of, arrangement_of, is_code}
use Rattle.code.specs.Inside.{start_of, end_of}
use Rattle.code.specs.Number.{start_as, end_as}
use Rattle.reading.specs.declared.Level.{Level}
use Rattle.reading.specs.declared.Level.TheVariants.{Faces, Digits}
use Rattle.reading.specs.Reading.{Nodes, end, whole, listed, first, many, room, render, Good}
use Rattle.reading.proofs.Laws.Reading.{room-le}
use Rattle.reading.specs.Letters.{letter_cells, letter_codes, letter_count}
use Rattle.reading.proofs.Laws.Letters.{letter-cells}
use Rattle.reading.specs.TextReading.{nodes_of, is_text, body_start, text_arrangement}
use Rattle.reading.proofs.Laws.TextReading.{reads-body, good-nodes, body-nodes}
use Rattle.walk.specs.Walk.{spot_of}
use Rattle.walk.specs.LetterWalk.{letters_in}
use Rattle.walk.specs.Laws.LetterWalk.{count-letter, count-open, count-shut, letters-spots}
use Rattle.asking.specs.Settle.{not_above}
use Rattle.asking.specs.Internal.CodeOrder.{no_later, no_later_at, count_no_later, count-append, above-spots}

-- how many letters and digits
unfoldable pub in_all : Nodes → ℕ
in_all end = 0
in_all (whole c ns) = 1 + in_all ns
in_all (listed c is ns) = 1 + (in_all is + in_all ns)

-- those that are no later, in nodes of size z, of which the first starts at a
unfoldable pub up_to : (from to a z : ℕ) → Nodes → ℕ
up_to from to a z end = 0
up_to from to a z (whole c ns) = cond (no_later from to (a + c * z) (a + c * z + z)) 1 0 + up_to from to a z ns
up_to from to a z (listed c is ns) =
    cond (no_later from to (a + c * z) (a + c * z + z)) 1 0 + (up_to from to (a + c * z) (z / 9) is + up_to from to a z ns)

pub one-most : (b : Bool) → cond b 1 0 ≤ 1
one-most true = omega arith
one-most false = omega arith

pub up-most : (from to a z : ℕ) (ns : Nodes) → up_to from to a z ns ≤ in_all ns
unfolding in_all up_to
up-most from to a z end = omega arith
up-most from to a z (whole c ns) = omega (arith, one-most (no_later from to (a + c * z) (a + c * z + z)), up-most from to a z ns)
up-most from to a z (listed c is ns) =
    omega (arith, one-most (no_later from to (a + c * z) (a + c * z + z)), up-most from to (a + c * z) (z / 9) is, up-most from to a z ns)

-- ---- of the bytes and of the codes

pub count-nodes : (ns : Nodes) (l : Level) (rest : List ℕ) → letter_count (render l ns ++ rest) ≡ in_all ns + letter_count rest
unfolding in_all
count-nodes end l rest = omega arith
count-nodes (whole c ns) l rest = omega (arith, count-letter c l (render l ns ++ rest), count-nodes ns l rest)
count-nodes (listed c is ns) l rest =
    let tail : List ℕ = 41 ∷ (render l ns ++ rest) in
    let e : letter_count (render l (listed c is ns) ++ rest) ≡ letter_count ((first l + c) ∷ 40 ∷ (render Digits is ++ tail)) =
    ap (λ (x : List ℕ). letter_count ((first l + c) ∷ 40 ∷ x)) (append_assoc (render Digits is) (41 ∷ render l ns) rest) in
    omega (
      arith,
      e,
      count-letter c l (40 ∷ (render Digits is ++ tail)),
      count-open (render Digits is ++ tail),
      count-nodes is Digits tail,
      count-shut (render l ns ++ rest),
      count-nodes ns l rest,
    )

all-letters : (ns : Nodes) (k p : ℕ) → length (letters_in k p ns) ≡ in_all ns
unfolding in_all letters_in
all-letters end k p = refl
all-letters (whole c ns) k p = omega (arith, all-letters ns k p)
all-letters (listed c is ns) k p =
    omega (arith, length-append (letters_in (k + 1) (p * 9 + c) is) (letters_in k p ns), all-letters is (k + 1) (p * 9 + c), all-letters ns k p)

up-letters :
    (from to : ℕ) (ns : Nodes) (l : Level) (d lo k p : ℕ) → Good l d lo ns → k + d ≤ 15 →
    up_to from to (p * 9 * 9 ^ (15 - k)) (9 ^ (15 - k)) ns ≡ count_no_later from to (letters_in k p ns)
unfolding up_to count_no_later no_later_at letters_in start_as end_as
up-letters from to end l d lo k p g h = refl
up-letters from to (whole c ns) l d lo k p g h =
    let z : ℕ = 9 ^ (15 - k) in
    ap₂ (λ (x n : ℕ). cond (no_later from to x (x + z)) 1 0 + n) (sym (add-mul (p * 9) c z)) (up-letters from to ns l d (suc c) k p g.2 h)
up-letters from to (listed c is ns) l d lo k p g h =
    let z : ℕ = 9 ^ (15 - k) in
    let y : ℕ = 9 ^ (15 - (k + 1)) in
    let u : z ≡ y * 9 = ap (λ (x : ℕ). 9 ^ x) (omega (arith, room-le l c d, g.2)) ∙ pow-suc 9 (15 - (k + 1)) in
    let s : p * 9 * z + c * z ≡ (p * 9 + c) * z = sym (add-mul (p * 9) c z) in
    let e : p * 9 * z + c * z ≡ (p * 9 + c) * 9 * y = s ∙ ap (λ (x : ℕ). (p * 9 + c) * x) (u ∙ mul_comm y 9) ∙ sym (mul_assoc (p * 9 + c) 9 y) in
    let i : up_to from to (p * 9 * z + c * z) (z / 9) is ≡ count_no_later from to (letters_in (k + 1) (p * 9 + c) is) =
    ap₂ (λ (a b : ℕ). up_to from to a b is) e (omega arith)
    ∙ up-letters from to is Digits (room l c d - 1) 0 (k + 1) (p * 9 + c) g.5 (omega (arith, room-le l c d, g.2)) in
    ap₂ (λ (x n : ℕ). cond (no_later from to x (x + z)) 1 0 + n) s
    (ap₂ ◌+◌ i (up-letters from to ns l d (suc c) k p g.6 h) ∙ sym (count-append from to (letters_in (k + 1) (p * 9 + c) is) (letters_in k p ns)))

module _ (t : List ℕ) (e : is_text t ≡ true) where
  pub text-count : letter_count (drop (body_start t) t) ≡ in_all (nodes_of t)
  unfolding letter_count
  text-count =
      ap letter_count (body-nodes t e ∙ sym (append-nil (render Faces (nodes_of t)))) ∙ count-nodes (nodes_of t) Faces [] ∙ omega arith

  pub text-all : in_all (nodes_of t) ≡ length (letter_codes (text_arrangement t) (nodes_of t))
  unfolding letter_codes
  text-all =
      sym (all-letters (nodes_of t) 0 0)
      ∙ ap length (letters-spots t e)
      ∙ length-map (letter_cells (nodes_of t)) spot_of
      ∙ sym (length-map (letter_cells (nodes_of t)) (code_of (text_arrangement t)))

  pub text-up :
      (code : ℕ) → is_code code ≡ true → arrangement_of code ≡ text_arrangement t →
      up_to (start_of (cell_of code)) (end_of (cell_of code)) 0 (9 ^ 15) (nodes_of t) ≡ not_above code (letter_codes (text_arrangement t) (nodes_of t))
  unfolding letter_codes
  text-up code c a =
      let from : ℕ = start_of (cell_of code) in
      let to : ℕ = end_of (cell_of code) in
      up-letters from to (nodes_of t) Faces 15 0 0 0 (good-nodes t e) (omega arith)
      ∙ ap (count_no_later from to) (letters-spots t e)
      ∙ sym (above-spots code c a (letter_cells (nodes_of t)) (letter-cells tt (omega arith) (reads-body t e)).0)

-- ---- nodes of which none is counted, and nodes of which all are

module _ (from to s e : ℕ) where
  pub later-behind : from < s → no_later from to s e ≡ false
  later-behind h = ap₂ (λ (a b : Bool). a || (b && leb to e)) (le-ltb s from (omega arith)) (ne_eqb s from (omega arith))

  later-short : from ≤ s → e < to → no_later from to s e ≡ false
  later-short h l = ap₂ (λ (a b : Bool). a || (eqb s from && b)) (le-ltb s from h) (lt-leb to e l) ∙ and_none (eqb s from)

  pub no-later-before : s < from → no_later from to s e ≡ true
  no-later-before h = ap (λ (a : Bool). a || (eqb s from && leb to e)) (lt-ltb s from h)

  -- it starts no later, and ends no sooner
  pub no-later-around : s ≤ from → to ≤ e → no_later from to s e ≡ true
  no-later-around h k =
      ⊎_elim no-later-before
      (λ l. ap₂ (λ (a b : Bool). a || b) (le-ltb s from l) (ap₂ ◌&&◌ (eq-eqb s from (omega arith)) (le-leb to e k)))
      (lt-or s from)

-- it starts no sooner, and is smaller
later-finer : (from to s z : ℕ) → from ≤ s → from + z < to → no_later from to s (s + z) ≡ false
later-finer from to s z h k = ⊎_elim (later-behind from to s (s + z)) (λ l. later-short from to s (s + z) h (omega arith)) (lt-or from s)

module _ (from to : ℕ) where
  -- they start behind its start
  pub up-behind : (ns : Nodes) (l : Level) (d lo a z : ℕ) → Good l d lo ns → from < a + lo * z → up_to from to a z ns ≡ 0
  unfolding up_to
  up-behind end l d lo a z g h = refl
  up-behind (whole c ns) l d lo a z g h =
      let k : from < a + c * z = omega (arith, mul-le-mul_right z g.0) in
      ap₂ (λ (b : Bool) (n : ℕ). cond b 1 0 + n) (later-behind from to (a + c * z) (a + c * z + z) k) (up-behind ns l d (suc c) a z g.2 (omega (arith, suc-mul c z)))
  up-behind (listed c is ns) l d lo a z g h =
      let k : from < a + c * z = omega (arith, mul-le-mul_right z g.0) in
      ap₂ (λ (b : Bool) (n : ℕ). cond b 1 0 + n) (later-behind from to (a + c * z) (a + c * z + z) k)
      (ap₂ ◌+◌ (up-behind is Digits (room l c d - 1) 0 (a + c * z) (z / 9) g.5 (omega arith)) (up-behind ns l d (suc c) a z g.6 (omega (arith, suc-mul c z))))

  -- they start no sooner, and are smaller
  pub up-finer : (ns : Nodes) (l : Level) (d lo a z : ℕ) → Good l d lo ns → from ≤ a + lo * z → from + z < to → up_to from to a z ns ≡ 0
  unfolding up_to
  up-finer end l d lo a z g h f = refl
  up-finer (whole c ns) l d lo a z g h f =
      let k : from ≤ a + c * z = omega (arith, mul-le-mul_right z g.0) in
      ap₂ (λ (b : Bool) (n : ℕ). cond b 1 0 + n) (later-finer from to (a + c * z) z k f) (up-finer ns l d (suc c) a z g.2 (omega (arith, suc-mul c z)) f)
  up-finer (listed c is ns) l d lo a z g h f =
      let k : from ≤ a + c * z = omega (arith, mul-le-mul_right z g.0) in
      ap₂ (λ (b : Bool) (n : ℕ). cond b 1 0 + n) (later-finer from to (a + c * z) z k f)
      (ap₂ ◌+◌ (up-finer is Digits (room l c d - 1) 0 (a + c * z) (z / 9) g.5 (omega arith) (omega arith)) (up-finer ns l d (suc c) a z g.6 (omega (arith, suc-mul c z)) f))

  -- they end before it starts
  pub up-all : (ns : Nodes) (l : Level) (d lo a z : ℕ) → Good l d lo ns → 9 ^ d ≤ z → a + many l * z ≤ from → up_to from to a z ns ≡ in_all ns
  unfolding in_all up_to
  up-all end l d lo a z g w h = refl
  up-all (whole c ns) l d lo a z g w h =
      let k : a + c * z < from = omega (arith, mul-le-mul_right z g.1, suc-mul c z, nine-pos d) in
      ap₂ (λ (b : Bool) (n : ℕ). cond b 1 0 + n) (no-later-before from to (a + c * z) (a + c * z + z) k) (up-all ns l d (suc c) a z g.2 w h)
  up-all (listed c is ns) l d lo a z g w h =
      let i : a + suc c * z ≤ from = omega (arith, mul-le-mul_right z g.1) in
      let k : a + c * z < from = omega (arith, suc-mul c z, nine-pos d) in
      let r : ℕ = room l c d - 1 in
      let e : 9 ^ suc r ≤ z = le_trans (nine-le {i = suc r} {j = d} (omega (arith, room-le l c d, g.2))) w in
      let j : 9 ^ r ≤ z / 9 = omega (arith, pow-suc 9 r) in
      ap₂ (λ (b : Bool) (n : ℕ). cond b 1 0 + n) (no-later-before from to (a + c * z) (a + c * z + z) k)
      (ap₂ ◌+◌ (up-all is Digits r 0 (a + c * z) (z / 9) g.5 j (omega (arith, suc-mul c z))) (up-all ns l d (suc c) a z g.6 w h))
