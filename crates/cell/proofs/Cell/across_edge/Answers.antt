-- `Cell::across_edge` meets its contract: each arm is the case that the face picks. Assumes nothing.
use mathlib.Core.Path.{◌∙◌}
use native.Mathlib.Omega.{arith}
use borrow.Author.Tests.{lt-ltb, le-ltb}
use Rattle.cell.specs.Neighbour.{across_edge}
use Rattle.cell.proofs.Cell.across_edge.Goals as goal

pub returns-in-0 : goal.returns-in-0
unfolding across_edge
returns-in-0 c = c.out_of_north.ensures ∙ rw c.in-0.is

pub returns-in-1-to-4 : goal.returns-in-1-to-4
unfolding across_edge
returns-in-1-to-4 c =
    let face = c.args.self.face in
    c.out_of_belt.ensures ∙ rw (le-ltb face 1 (omega arith), lt-ltb face 5 (omega arith))

pub returns-in_default : goal.returns-in_default
unfolding across_edge
returns-in_default c =
    let face = c.args.self.face in
    c.out_of_south.ensures ∙ rw (le-ltb face 1 (omega arith), le-ltb face 5 (omega arith))
