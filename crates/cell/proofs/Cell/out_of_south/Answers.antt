-- `Cell::out_of_south` meets its contract: each arm is the case that its key picks. Assumes nothing.
use mathlib.Core.Path.{◌∙◌}
use native.Mathlib.Omega.{arith}
use Rattle.cell.specs.Neighbour.{out_of_south}
use Rattle.cell.proofs.Laws.{fourth, unturned}
use Rattle.cell.proofs.Cell.out_of_south.Goals as goal

pub returns-in-0 : goal.returns-in-0
unfolding out_of_south
returns-in-0 c = let s = c in c.at.ensures ∙ simp (c.in-0.is, s.requires.last_value, unturned s.args.arrangement.south s.requires.arrangement.southern)

pub returns-in-1 : goal.returns-in-1
unfolding out_of_south
returns-in-1 c = c.at-in-1.ensures ∙ simp (c.in-1.is, c.requires.last_value)

pub returns-in-2 : goal.returns-in-2
unfolding out_of_south
returns-in-2 c = c.at-in-2.ensures ∙ simp (c.in-2.is, c.requires.last_value)

pub returns-in_default : goal.returns-in_default
unfolding out_of_south
returns-in_default c = c.at-in_default.ensures ∙ rw (fourth c.args.direction (omega arith), c.requires.last_value)
