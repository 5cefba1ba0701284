-- `plane::cell_on_cap` meets its contract: each return is the case that the tests before it pick. Assumes nothing.
use Rattle.std.specs.Prelude.{Ok}
use mathlib.Core.Path.{ap}
use mathlib.Core.Bool.{and-false}
use Prim.Native.Nat.{◌+◌}
use native.Mathlib.Omega.{arith}
use borrow.Author.Tests.{lt-ltb, le-ltb}
use Rattle.cell.specs.Cell.{found}
use Rattle.plane.specs.Plane.{face_side}
use Rattle.plane.specs.Internal.Depth.{found_on_cap}
use Rattle.plane.proofs.cell_on_cap.Goals as goal

pub returns-then-right-left : goal.returns-then-right-left
unfolding found_on_cap found
returns-then-right-left c = let a = c.args in simp (le-ltb a.left a.right (omega arith))

pub returns-then-right-left-2 : goal.returns-then-right-left-2
unfolding found_on_cap found
returns-then-right-left-2 c = let a = c.args in simp (le-ltb a.right (a.left + face_side) (omega arith), and-false)

pub returns-then-down-lt1 : goal.returns-then-down-lt1
unfolding found_on_cap found
returns-then-down-lt1 c = let a = c.args in simp (le-ltb 0 a.down (omega arith), and-false)

pub returns-then-down-ge-FACE : goal.returns-then-down-ge-FACE
unfolding found_on_cap found
returns-then-down-ge-FACE c = let a = c.args in simp (le-ltb a.down face_side (omega arith), and-false)

pub returns : goal.returns
unfolding found_on_cap found
returns c =
    let a = c.args in
    simp
    (lt-ltb a.left a.right (omega arith), lt-ltb a.right (a.left + face_side) (omega arith), lt-ltb 0 a.down (omega arith), lt-ltb a.down face_side (omega arith))
    (ap Ok c.cell_at.ensures)
