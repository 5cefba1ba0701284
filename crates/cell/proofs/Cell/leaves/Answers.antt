-- `Cell::leaves` meets its contract: each arm is the case that its key picks. Assumes nothing.
use native.Mathlib.Omega.{arith}
use Rattle.ternary.proofs.Laws.Powers.{power_pos}
use Rattle.cell.specs.Neighbour.{leaves, rows}
use Rattle.cell.proofs.Laws.{fourth, eqb-last}
use Rattle.cell.proofs.Cell.leaves.Goals as goal

pub returns-in-0 : goal.returns-in-0
unfolding leaves
returns-in-0 c = simp c.in-0.is

pub returns-in-1 : goal.returns-in-1
unfolding leaves
returns-in-1 c =
    let s = c in
    simp c.in-1.is (eqb-last s.args.self.column s.args.last (rows s.args.self) (power_pos s.args.self.resolution) s.requires.last_value)

pub returns-in-2 : goal.returns-in-2
unfolding leaves
returns-in-2 c =
    let s = c in
    simp c.in-2.is (eqb-last s.args.self.row s.args.last (rows s.args.self) (power_pos s.args.self.resolution) s.requires.last_value)

pub returns-in_default : goal.returns-in_default
unfolding leaves
returns-in_default c = rw (fourth c.args.direction (omega arith))
