-- `plane::cell_on_belt` meets its contract. Assumes nothing.
use Rattle.std.specs.Prelude.{Ok}
use mathlib.Core.Path.{ap}
use Prim.Native.Nat.{◌*◌}
use native.Mathlib.Omega.{arith}
use borrow.Author.Tests.{lt-ltb, le-ltb}
use Rattle.cell.specs.Cell.{found}
use Rattle.plane.specs.Plane.{face_side}
use Rattle.plane.specs.Internal.Depth.{found_on_belt}
use Rattle.plane.proofs.cell_on_belt.Goals as goal

pub returns-then-right : goal.returns-then-right
unfolding found_on_belt found
returns-then-right c = simp (le-ltb c.args.right (4 * face_side) (omega arith))

pub returns : goal.returns
unfolding found_on_belt found
returns c = simp (lt-ltb c.args.right (4 * face_side) (omega arith)) (ap Ok c.cell_at.ensures)
