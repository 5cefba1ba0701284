-- Asking along the nodes of a text: the answer, as definitions that follow the nodes. Assumes nothing.
use Rattle.std.specs.Prelude.{◌≡◌, Bool, true, false, ◌&&◌}
use Rattle.std.proofs.Math.Path.{refl, sym, ap, ap₂}
use Rattle.std.proofs.Common.{◌∙◌, ⊎_elim, add-mul, mul_assoc, arith}
use Rattle.std.proofs.Math.Bool.{◌||◌}
use mathlib.Core.List.{List, [], ◌∷◌, ◌++◌, map}
use Prim.Native.Nat.{ℕ, suc, ◌+◌, ◌-◌, ◌*◌, ◌/◌, ◌^◌, ◌≤◌, ◌<◌}
use Rattle.std.proofs.Math.Nat.{pow-suc, suc-mul, mul_comm, mul-le-mul_right}
use Rattle.std.proofs.Math.Dec.{leb}
use Rattle.std.proofs.lemmas.Bool.{lt-leb}
use Rattle.logic.specs.Laws.Bools.{and_none, or_assoc}
use Rattle.logic.specs.Laws.Order.{lt-or}
use Rattle.cell.specs.declared.Cell.{Cell}
use Rattle.code.specs.Inside.{start_of, end_of, lies_within}
use Rattle.code.specs.Number.{start_as, end_as}
use Rattle.code.proofs.Laws.Number.{start-as, end-as}
use Rattle.reading.specs.declared.Level.{Level}
use Rattle.reading.specs.declared.Level.TheVariants.{Digits}
use Rattle.reading.specs.Reading.{Nodes, end, whole, listed, many, room, Good}
use Rattle.reading.proofs.Laws.Reading.{room-le}
use Rattle.reading.specs.Ground.{whole_cells, Cells}
use Rattle.reading.specs.TextReading.{nodes_of, is_text}
use Rattle.reading.proofs.Laws.TextReading.{reads-body, good-nodes}
use Rattle.reading.proofs.Laws.Demand.{whole_cells_lem}
use Rattle.walk.specs.declared.Spot.{Spot}
use Rattle.walk.specs.Walk.{spot_of, spots_in}
use Rattle.walk.specs.Laws.Walk.{spots-text}
use Rattle.asking.specs.Ask.{any_within}

-- ---- the answer

-- one of the whole cells in nodes of size z, of which the first starts at a, has the finest cells from one number to before another
unfoldable pub any_in : (from to a z : ℕ) → Nodes → Bool
any_in from to a z end = false
any_in from to a z (whole c ns) = (leb (a + c * z) from && leb to (a + c * z + z)) || any_in from to a z ns
any_in from to a z (listed c is ns) = any_in from to (a + c * z) (z / 9) is || any_in from to a z ns

-- the same of the cells where the walk stands
abbrev pub holds : (from to : ℕ) → Spot → Bool
holds from to s = leb (start_as s.resolution s.number) from && leb to (end_as s.resolution s.number)

unfoldable pub any_holds : (from to : ℕ) → List Spot → Bool
any_holds from to [] = false
any_holds from to (s ∷ ss) = holds from to s || any_holds from to ss

pub any-spots : (qs : List Cell) (x : Cell) → Cells qs → any_holds (start_of x) (end_of x) (map spot_of qs) ≡ any_within qs x
unfolding any_holds any_within lies_within
any-spots [] x c = refl
any-spots (q ∷ qs) x c =
    ap₂ ◌||◌ (ap₂ (λ (a b : ℕ). leb a (start_of x) && leb (end_of x) b) (start-as q c.0) (end-as q c.0)) (any-spots qs x c.1)

module _ (from to : ℕ) where
  any_append : (xs ys : List Spot) → any_holds from to (xs ++ ys) ≡ (any_holds from to xs || any_holds from to ys)
  unfolding any_holds
  any_append [] ys = refl
  any_append (x ∷ xs) ys =
      ap (λ (b : Bool). holds from to x || b) (any_append xs ys) ∙ or_assoc (holds from to x) (any_holds from to xs) (any_holds from to ys)

  any-in : (ns : Nodes) (l : Level) (d lo k p : ℕ) → Good l d lo ns → k + d ≤ 15 →
      any_in from to (p * 9 * 9 ^ (15 - k)) (9 ^ (15 - k)) ns ≡ any_holds from to (spots_in k p ns)
  unfolding any_in any_holds spots_in start_as end_as
  any-in end l d lo k p g h = refl
  any-in (whole c ns) l d lo k p g h =
      let z : ℕ = 9 ^ (15 - k) in
      ap₂ ◌||◌ (ap (λ (x : ℕ). leb x from && leb to (x + z)) (sym (add-mul (p * 9) c z))) (any-in ns l d (suc c) k p g.2 h)
  any-in (listed c is ns) l d lo k p g h =
      let z : ℕ = 9 ^ (15 - k) in
      let y : ℕ = 9 ^ (15 - (k + 1)) in
      let u : z ≡ y * 9 = ap (λ (x : ℕ). 9 ^ x) (omega (arith, room-le l c d, g.2)) ∙ pow-suc 9 (15 - (k + 1)) in
      let e : p * 9 * z + c * z ≡ (p * 9 + c) * 9 * y =
      sym (add-mul (p * 9) c z) ∙ ap (λ (x : ℕ). (p * 9 + c) * x) (u ∙ mul_comm y 9) ∙ sym (mul_assoc (p * 9 + c) 9 y) in
      ap₂ ◌||◌
      (ap₂ (λ (a b : ℕ). any_in from to a b is) e (omega arith) ∙ any-in is Digits (room l c d - 1) 0 (k + 1) (p * 9 + c) g.5 (omega (arith, room-le l c d, g.2)))
      (any-in ns l d (suc c) k p g.6 h)
      ∙ sym (any_append (spots_in (k + 1) (p * 9 + c) is) (spots_in k p ns))

-- of the whole text
pub nodes-asked : (t : List ℕ) → is_text t ≡ true → (x : Cell) → any_in (start_of x) (end_of x) 0 (9 ^ 15) (nodes_of t) ≡ any_within (whole_cells (nodes_of t)) x
nodes-asked t e x =
    any-in (start_of x) (end_of x) (nodes_of t) _ 15 0 0 0 (good-nodes t e) (omega arith)
    ∙ ap (any_holds (start_of x) (end_of x)) (spots-text t e)
    ∙ any-spots (whole_cells (nodes_of t)) x (whole_cells_lem tt (omega arith) (reads-body t e)).0

-- ---- nodes that cannot hold it

module _ (from to : ℕ) where
  finer : (s z : ℕ) → from ≤ s → from + z < to → (leb s from && leb to (s + z)) ≡ false
  finer s z h k =
      ⊎_elim (λ l. ap (λ (b : Bool). b && leb to (s + z)) (lt-leb s from l))
      (λ l. ap (λ (b : Bool). leb s from && b) (lt-leb to (s + z) (omega arith)) ∙ and_none (leb s from))
      (lt-or from s)

  -- they end before it does
  pub in-short : (ns : Nodes) (l : Level) (d lo a z : ℕ) → Good l d lo ns → a + many l * z < to → any_in from to a z ns ≡ false
  unfolding any_in
  in-short end l d lo a z g h = refl
  in-short (whole c ns) l d lo a z g h =
      let k : a + c * z + z < to = omega (arith, mul-le-mul_right z g.1, suc-mul c z) in
      ap₂ ◌||◌ (ap (λ (b : Bool). leb (a + c * z) from && b) (lt-leb to (a + c * z + z) k) ∙ and_none (leb (a + c * z) from)) (in-short ns l d (suc c) a z g.2 h)
  in-short (listed c is ns) l d lo a z g h =
      let k : a + c * z + 9 * (z / 9) < to = omega (arith, mul-le-mul_right z g.1, suc-mul c z) in
      ap₂ ◌||◌ (in-short is Digits (room l c d - 1) 0 (a + c * z) (z / 9) g.5 k) (in-short ns l d (suc c) a z g.6 h)

  -- they start behind its start
  pub in-behind : (ns : Nodes) (l : Level) (d lo a z : ℕ) → Good l d lo ns → from < a + lo * z → any_in from to a z ns ≡ false
  unfolding any_in
  in-behind end l d lo a z g h = refl
  in-behind (whole c ns) l d lo a z g h =
      let k : from < a + c * z = omega (arith, mul-le-mul_right z g.0) in
      ap₂ ◌||◌ (ap (λ (b : Bool). b && leb to (a + c * z + z)) (lt-leb (a + c * z) from k)) (in-behind ns l d (suc c) a z g.2 (omega (arith, suc-mul c z)))
  in-behind (listed c is ns) l d lo a z g h =
      let k : from < a + c * z = omega (arith, mul-le-mul_right z g.0) in
      ap₂ ◌||◌ (in-behind is Digits (room l c d - 1) 0 (a + c * z) (z / 9) g.5 (omega arith)) (in-behind ns l d (suc c) a z g.6 (omega (arith, suc-mul c z)))

  -- they start no sooner than it does, and are smaller
  pub in-finer : (ns : Nodes) (l : Level) (d lo a z : ℕ) → Good l d lo ns → from ≤ a + lo * z → from + z < to → any_in from to a z ns ≡ false
  unfolding any_in
  in-finer end l d lo a z g h f = refl
  in-finer (whole c ns) l d lo a z g h f =
      let k : from ≤ a + c * z = omega (arith, mul-le-mul_right z g.0) in
      ap₂ ◌||◌ (finer (a + c * z) z k f) (in-finer ns l d (suc c) a z g.2 (omega (arith, suc-mul c z)) f)
  in-finer (listed c is ns) l d lo a z g h f =
      let k : from ≤ a + c * z = omega (arith, mul-le-mul_right z g.0) in
      ap₂ ◌||◌ (in-finer is Digits (room l c d - 1) 0 (a + c * z) (z / 9) g.5 (omega arith) (omega arith)) (in-finer ns l d (suc c) a z g.6 (omega (arith, suc-mul c z)) f)
