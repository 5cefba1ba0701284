-- `Cell::out_of_belt` meets its contract: each arm is the case that its keys pick. Assumes nothing.
use mathlib.Core.Path.{◌∙◌}
use native.Mathlib.Omega.{arith}
use Rattle.cell.specs.Neighbour.{turn_of, out_of_belt}
use Rattle.cell.proofs.Laws.{fourth}
use Rattle.cell.proofs.Cell.out_of_belt.Goals as goal

pub returns-in-0-turn : goal.returns-in-0-turn
unfolding out_of_belt
returns-in-0-turn c = c.at.ensures ∙ simp (c.in-0.is, c.in-0-turn.is, c.requires.last_value)

pub returns-in-1-turn : goal.returns-in-1-turn
unfolding out_of_belt
returns-in-1-turn c = c.at-in-1-turn.ensures ∙ simp (c.in-0.is, c.in-1-turn.is, c.requires.last_value)

pub returns-in-2-turn : goal.returns-in-2-turn
unfolding out_of_belt
returns-in-2-turn c = c.at-in-2-turn.ensures ∙ simp (c.in-0.is, c.in-2-turn.is, c.requires.last_value)

pub returns-in_default-turn : goal.returns-in_default-turn
unfolding out_of_belt
returns-in_default-turn c =
    let s = c in
    c.at-in_default-turn.ensures ∙ rw (c.in-0.is, fourth (turn_of s.args.b s.args.arrangement.north) (omega arith))

pub returns-in-1 : goal.returns-in-1
unfolding out_of_belt
returns-in-1 c = c.at-in-1.ensures ∙ simp c.in-1.is

pub returns-in-0-turn-2 : goal.returns-in-0-turn-2
unfolding out_of_belt
returns-in-0-turn-2 c = c.at-in-0-turn-2.ensures ∙ simp (c.in-2.is, c.in-0-turn-2.is)

pub returns-in-1-turn-2 : goal.returns-in-1-turn-2
unfolding out_of_belt
returns-in-1-turn-2 c = c.at-in-1-turn-2.ensures ∙ simp (c.in-2.is, c.in-1-turn-2.is, c.requires.last_value)

pub returns-in-2-turn-2 : goal.returns-in-2-turn-2
unfolding out_of_belt
returns-in-2-turn-2 c = c.at-in-2-turn-2.ensures ∙ simp (c.in-2.is, c.in-2-turn-2.is, c.requires.last_value)

pub returns-in_default-turn-2 : goal.returns-in_default-turn-2
unfolding out_of_belt
returns-in_default-turn-2 c =
    let s = c in
    c.at-in_default-turn-2.ensures ∙ rw (c.in-2.is, fourth (turn_of s.args.b s.args.arrangement.south) (omega arith), s.requires.last_value)

pub returns-in_default : goal.returns-in_default
unfolding out_of_belt
returns-in_default c = c.at-in_default.ensures ∙ rw (fourth c.args.direction (omega arith), c.requires.last_value)
