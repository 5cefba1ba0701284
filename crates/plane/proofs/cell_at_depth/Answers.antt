-- `plane::cell_at_depth` meets its contract: each return is the case that the tests before it pick. Assumes nothing.
use Prim.Native.Nat.{◌*◌}
use native.Mathlib.Omega.{arith}
use borrow.Author.Tests.{lt-ltb, le-ltb, le-leb, lt-leb}
use Rattle.plane.specs.Plane.{face_side}
use Rattle.plane.specs.Internal.Depth.{found_at}
use Rattle.plane.proofs.cell_at_depth.Goals as goal

pub returns-then-depth-lt-FACE : goal.returns-then-depth-lt-FACE
unfolding found_at
returns-then-depth-lt-FACE c = simp (lt-ltb c.args.depth face_side (omega arith)) c.cell_on_cap.ensures

pub returns-then-depth-le-SOUTH : goal.returns-then-depth-le-SOUTH
unfolding found_at
returns-then-depth-le-SOUTH c =
    let d = c.args.depth in
    simp (le-ltb d face_side (omega arith), le-leb d (2 * face_side) (omega arith)) c.cell_on_belt.ensures

pub returns : goal.returns
unfolding found_at
returns c =
    let d = c.args.depth in
    simp (le-ltb d face_side (omega arith), lt-leb d (2 * face_side) (omega arith)) c.cell_on_cap-2.ensures
