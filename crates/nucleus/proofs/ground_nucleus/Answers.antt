-- `nucleus::ground_nucleus` meets its contract, by the face. Assumes nothing.
use mathlib.Core.Path.{◌≡◌, sym, ap, ap₂, ◌∙◌}
use mathlib.Core.Bool.{true, false}
use mathlib.Core.Logic.{◌⊎◌, inl, inr, ⊎_elim}
use Prim.Native.Nat.{ℕ, ◌+◌, ◌-◌, ◌*◌, ◌≤◌, ◌<◌}
use native.Mathlib.Nat.{mul-pos}
use native.Mathlib.Omega.{arith}
use lib.Dec.{ltb}
use lib.IntN.{sub_ℕ}
use borrow.Author.Tests.{lt-ltb, le-ltb}
use Rattle.ternary.proofs.Laws.Powers.{power_le, power_pos}
use Rattle.signed.specs.Laws.Sign.{back_as}
use Rattle.cell.specs.declared.Cell.{Cell}
use Rattle.cell.specs.declared.Arrangement.{Arrangement}
use Rattle.cell.specs.Cell.{IsCell}
use Rattle.cell.specs.Neighbour.{rows}
use Rattle.cell.proofs.Laws.Cell.{row_small, column-small}
use Rattle.locate.specs.Fix.{quarter}
use Rattle.nucleus.specs.Nucleus.{fix, belt_longitude, belt_z, ground_nucleus}
use Rattle.nucleus.specs.Internal.Caps.{first_in, cap_nucleus}
use Rattle.nucleus.specs.Internal.Triangle.{middle, InFace}
use Rattle.nucleus.specs.Internal.PlaceLaws.{first_small, on-cap, on-belt}
use Rattle.nucleus.proofs.Laws.{up-times, finer-along, finer-z, finer-lt}
use Rattle.nucleus.proofs.ground_nucleus.Goals as goal
use Rattle.nucleus.proofs.ground_nucleus.Goals.{After-power-up, then-face-gt0+else-face-lt5, else-face-gt0}

-- the middle, and the finest resolution
abbrev cell : (c : After-power-up) → Cell
cell c = c.args.cell

abbrev m : (c : After-power-up) → ℕ
m c = c.power-m.result

abbrev up : (c : After-power-up) → ℕ
up c = c.power-up.result

abbrev a : (c : After-power-up) → ℕ
a c = 2 * (cell c).column + 1

abbrev b : (c : After-power-up) → ℕ
b c = 2 * (cell c).row + 1

side : (c : After-power-up) → (m c) ≡ rows (cell c)
side c = c.power-m.ensures

inside : (c : After-power-up) → InFace (m c) (a c) (b c)
inside c =
    let e = (side c) in
    let v = c.requires.cell in
    let l = power_le {j = 15} v.fine in
    let i = v.rowed in
    let j = v.columned in
    record { small = omega arith; left = omega arith; right = omega arith; top = omega arith; bottom = omega arith }

up_pos : (c : After-power-up) → 0 < (up c)
up_pos c = rw c.power-up.ensures (power_pos (15 - (cell c).resolution))

m-pos : (c : After-power-up) → 0 < (m c)
m-pos c = rw (side c) (power_pos (cell c).resolution)

finest : (c : After-power-up) → (up c) * (m c) ≡ 14348907
finest c = ap₂ ◌*◌ c.power-up.ensures (side c) ∙ up-times (cell c).resolution c.requires.cell.fine

along-lt : (c : After-power-up) → (up c) * (a c) < 28697814
along-lt c = finer-lt (up c) (m c) (up_pos c) (m-pos c) (finest c) (a c) (inside c).right

down_lt : (c : After-power-up) → (up c) * (b c) < 28697814
down_lt c = finer-lt (up c) (m c) (up_pos c) (m-pos c) (finest c) (b c) (inside c).bottom

-- the nucleus of either cap
capped :
    (a : Arrangement) (c : Cell) → IsCell c → (c.face ≤ 0) ⊎ (5 ≤ c.face) →
    let south = ltb 4 c.face in cap_nucleus south (first_in south a) (rows c) (middle (rows c) (2 * c.column + 1) (2 * c.row + 1)) ≡ ground_nucleus a c
capped a c v f =
    ⊎_elim (λ h. rw (le-ltb 4 c.face (omega arith)) (sym (on-cap a c false (omega arith))))
    (λ h. rw (lt-ltb 4 c.face h) (sym (on-cap a c true (omega (arith, v.faced))))) f

pub overflow_mul-a : goal.overflow_mul-a
overflow_mul-a c = omega (arith, column-small c.requires.cell)

pub overflow_add-a : goal.overflow_add-a
overflow_add-a c = omega (arith, column-small c.requires.cell)

pub overflow_mul-b : goal.overflow_mul-b
overflow_mul-b c = omega (arith, row_small c.requires.cell)

pub overflow_add-b : goal.overflow_add-b
overflow_add-b c = omega (arith, row_small c.requires.cell)

pub overflow_mul-up : goal.overflow_mul-up
overflow_mul-up c = let w = (goal.at.overflow_mul-up c).After-power-up in omega (arith, along-lt w, down_lt w)

pub longitude_at-requires : goal.longitude_at-requires
longitude_at-requires c = let w = (goal.at.longitude_at-requires c).After-power-up in omega (arith, along-lt w, down_lt w)

pub overflow_mul-up-then-face-lt5 : goal.overflow_mul-up-then-face-lt5
overflow_mul-up-then-face-lt5 c = omega (arith, down_lt (goal.at.overflow_mul-up-then-face-lt5 c).After-power-up)

pub belt_z-requires : goal.belt_z-requires
belt_z-requires c =
    let w = (goal.at.belt_z-requires c).After-power-up in
    record { b_nonzero = mul-pos (up_pos w) (omega arith); b_bound = down_lt w }

pub returns-then-face-lt5 : goal.returns-then-face-lt5
unfolding belt_longitude belt_z
returns-then-face-lt5 c =
    let w = (goal.at.returns-then-face-lt5 c).After-power-up in
    let s = c.args in
    let f : ℕ = s.cell.face - 1 in
    let x = ap (λ (y : ℕ). sub_ℕ (f * quarter + y) 1800000000) (finer-along (up w) (m w) (up_pos w) (m-pos w) (finest w) (a w)) in
    let y = finer-z (up w) (m w) (up_pos w) (m-pos w) (finest w) (b w) in
    (λ i.
    record {
      longitude = back_as c.longitude_at.type_inv (c.longitude_at.ensures ∙ x) i;
      z = back_as c.belt_z.type_inv (c.belt_z.ensures ∙ y) i;
    })
    ∙ ap (λ (x : ℕ). fix (belt_longitude x f s.cell.column) (belt_z x s.cell.row)) (side w)
    ∙ sym (on-belt s.arrangement s.cell f (omega arith) (omega arith))

pub cap_nucleus-requires : goal.cap_nucleus-requires
cap_nucleus-requires c =
    let w = (goal.at.cap_nucleus-requires c).After-power-up in
    record {
      first_bound = rw c.first_of.ensures (first_small c.requires.arrangement (ltb 4 (cell w).face));
      in_face = inside w;
      up_nonzero = (up_pos w, finest w);
    }

pub returns : goal.returns
returns c =
    let w = (goal.at.returns c).After-power-up in
    c.cap_nucleus.ensures
    ∙ ap₂ (λ (n x : ℕ). cap_nucleus (ltb 4 (cell w).face) n x (middle x (a w) (b w))) c.first_of.ensures (side w)
    ∙ capped c.args.arrangement (cell w) c.requires.cell
    (elim c.if-face-gt0.branch [ then-face-gt0+else-face-lt5 w ↦ inr (omega arith) | else-face-gt0 w ↦ inl (omega arith) ])
