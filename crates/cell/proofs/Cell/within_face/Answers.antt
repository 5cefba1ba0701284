-- `Cell::within_face` meets its contract: each arm is the case that its key picks, and no row or column falls below 0. Assumes nothing.
use mathlib.Core.Path.{◌≡◌, ◌∙◌}
use Prim.Native.Nat.{suc, ◌-◌}
use native.Mathlib.Omega.{arith}
use borrow.Author.Tests.{eqb-false}
use Rattle.cell.proofs.Laws.Cell.{row_small, column-small}
use Rattle.cell.specs.Neighbour.{leaves, within_face}
use Rattle.cell.proofs.Laws.{fourth}
use Rattle.cell.proofs.Cell.within_face.Goals as goal

pub overflow_sub-row : goal.overflow_sub-row
unfolding leaves
overflow_sub-row c = let s = c in let h = eqb-false s.args.self.row 0 (rw c.in-0.is at s.requires.direction_value) in omega arith

pub overflow_add-column : goal.overflow_add-column
overflow_add-column c = omega (arith, column-small c.requires.cell)

pub overflow_add-row : goal.overflow_add-row
overflow_add-row c = omega (arith, row_small c.requires.cell)

pub overflow_sub-column : goal.overflow_sub-column
unfolding leaves
overflow_sub-column c =
    let s = c in
    let e : s.args.direction ≡ suc (suc (suc (s.args.direction - 3))) = fourth s.args.direction (omega arith) in
    let h = eqb-false s.args.self.column 0 (rw e at s.requires.direction_value) in
    omega arith

pub returns-in-0 : goal.returns-in-0
unfolding within_face
returns-in-0 c = c.at.ensures ∙ simp c.in-0.is

pub returns-in-1 : goal.returns-in-1
unfolding within_face
returns-in-1 c = c.at-in-1.ensures ∙ simp c.in-1.is

pub returns-in-2 : goal.returns-in-2
unfolding within_face
returns-in-2 c = c.at-in-2.ensures ∙ simp c.in-2.is

pub returns-in_default : goal.returns-in_default
unfolding within_face
returns-in_default c = c.at-in_default.ensures ∙ rw (fourth c.args.direction (omega arith))
