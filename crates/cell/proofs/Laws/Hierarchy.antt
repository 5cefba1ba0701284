-- Parents and children: the parent of a child is the cell, and each cell above resolution 0 is exactly one child of its parent. Assumes nothing.
use Rattle.std.specs.Prelude.{◌≡◌, ℕ, ◌+◌, ◌-◌, ◌*◌, ◌/◌, ◌%◌, ◌^◌, ◌≤◌, ◌<◌}
use Rattle.std.proofs.Common.{sym, ap, ◌∙◌, pos_of_ne-zero, arith, ltb-false}
use Rattle.std.proofs.lemmas.Bool.{eqb-false}
use Rattle.logic.specs.Laws.Refusal.{both, allowed}
use Rattle.ternary.proofs.Laws.Powers.{next_power}
use Rattle.cell.specs.declared.Cell.{Cell}
use Rattle.cell.specs.Cell.{IsCell}
use Rattle.cell.proofs.Laws.Cell.{is-cell}
use Rattle.cell.specs.Hierarchy.{parent_of, child_of, last_digit, parent_refusal, child_refusal}

pub child-is-cell : (c : Cell) (d : ℕ) → IsCell c → c.resolution < 15 → d ≤ 8 → IsCell (child_of c d)
unfolding child_of
child-is-cell c d v h l =
    let p : 3 ^ (c.resolution + 1) ≡ 3 ^ c.resolution * 3 = next_power c.resolution in
    record { fine = omega arith; faced = v.faced; rowed = omega (arith, v.rowed); columned = omega (arith, v.columned) }

pub parent-is-cell : (c : Cell) → IsCell c → 0 < c.resolution → IsCell (parent_of c)
unfolding parent_of
parent-is-cell c v h =
    let e : c.resolution - 1 + 1 ≡ c.resolution = omega arith in
    let p : 3 ^ c.resolution ≡ 3 ^ (c.resolution - 1) * 3 = ap (λ (x : ℕ). 3 ^ x) (sym e) ∙ next_power (c.resolution - 1) in
    record { fine = omega (arith, v.fine); faced = v.faced; rowed = omega (arith, v.rowed); columned = omega (arith, v.columned) }

-- the parent of a child is the cell
pub parent-child : (c : Cell) (d : ℕ) → d ≤ 8 → parent_of (child_of c d) ≡ c
unfolding parent_of child_of
parent-child c d h =
    let k : c.resolution + 1 - 1 ≡ c.resolution = omega arith in
    let i : (3 * c.row + d / 3) / 3 ≡ c.row = omega arith in
    let j : (3 * c.column + d % 3) / 3 ≡ c.column = omega arith in
    λ t. record { face = c.face; resolution = k t; row = i t; column = j t }

pub last-small : (c : Cell) → last_digit c ≤ 8
unfolding last_digit
last-small c = omega arith

-- a cell above resolution 0 is a child of its parent
pub child-parent : (c : Cell) → 0 < c.resolution → child_of (parent_of c) (last_digit c) ≡ c
unfolding parent_of child_of last_digit
child-parent c h =
    let k : c.resolution - 1 + 1 ≡ c.resolution = omega arith in
    let i : 3 * (c.row / 3) + (3 * (c.row % 3) + c.column % 3) / 3 ≡ c.row = omega arith in
    let j : 3 * (c.column / 3) + (3 * (c.row % 3) + c.column % 3) % 3 ≡ c.column = omega arith in
    λ t. record { face = c.face; resolution = k t; row = i t; column = j t }

-- two digits name two children
pub child-one : (c : Cell) (d e : ℕ) → d ≤ 8 → e ≤ 8 → child_of c d ≡ child_of c e → d ≡ e
unfolding child_of
child-one c d e h l p =
    let i : 3 * c.row + d / 3 ≡ 3 * c.row + e / 3 = ap (λ (x : Cell). x.row) p in
    let j : 3 * c.column + d % 3 ≡ 3 * c.column + e % 3 = ap (λ (x : Cell). x.column) p in
    omega arith

-- so it is its parent's child of one digit only
pub only_child : (c : Cell) (d : ℕ) → 0 < c.resolution → d ≤ 8 → child_of (parent_of c) d ≡ c → d ≡ last_digit c
only_child c d h l p = child-one (parent_of c) d (last_digit c) l (last-small c) (p ∙ sym (child-parent c h))

-- ---- where nothing is refused, the answer is a cell

pub parent-allowed : (c : Cell) → parent_refusal c ≡ 0 → IsCell (parent_of c)
unfolding parent_refusal
parent-allowed c e =
    let p = both _ _ e in
    let h = eqb-false c.resolution 0 (allowed 11 _ p.1) in
    parent-is-cell c (is-cell p.0) (pos_of_ne-zero h)

pub child-allowed : (c : Cell) (d : ℕ) → child_refusal c d ≡ 0 → IsCell (child_of c d)
unfolding child_refusal
child-allowed c d e =
    let p = both _ _ e in
    let q = both _ _ p.1 in
    let v = is-cell p.0 in
    let h = eqb-false c.resolution 15 (allowed 11 _ q.1) in
    child-is-cell c d v (omega (arith, v.fine)) (ltb-false 8 d (allowed 2 _ q.0))
