-- `nucleus::start_of` meets its contract: each return is one of the four triangles. Assumes nothing.
use Prim.Native.Nat.{◌+◌, ◌*◌, ◌≤◌, ◌<◌}
use native.Mathlib.Omega.{arith}
use Rattle.nucleus.specs.Internal.TriangleLaws.{before-centre, start-0, start-1, start-2, start-3}
use Rattle.nucleus.proofs.start_of.Goals as goal
use Rattle.nucleus.proofs.start_of.Goals.{then-a-b+else-side-sum, else-a-b}

pub returns-then-side-sum : goal.returns-then-side-sum
returns-then-side-sum c =
    let a = c.args in
    let p = c.requires.in_face in
    start-0 a.m a.a a.b p.left p.right p.top p.bottom (omega arith) (omega arith)

pub returns-then-side-sum-2 : goal.returns-then-side-sum-2
returns-then-side-sum-2 c =
    let a = c.args in
    let p = c.requires.in_face in
    let l : a.b ≤ a.a = elim c.if-a-b.branch [ then-a-b+else-side-sum w ↦ omega arith | else-a-b w ↦ omega arith ] in
    start-1 a.m a.a a.b p.left p.right p.top p.bottom (omega arith) l

pub returns-then-b-a : goal.returns-then-b-a
returns-then-b-a c =
    let a = c.args in
    let p = c.requires.in_face in
    start-2 a.m a.a a.b p.left p.right p.top p.bottom (omega arith) (omega arith)

pub returns : goal.returns
returns c =
    let a = c.args in
    let p = c.requires.in_face in
    let l : a.a + a.b < 2 * a.m =
    elim c.if-a-b.branch [ then-a-b+else-side-sum w ↦ omega arith | else-a-b w ↦ before-centre a.m a.a a.b (omega arith) (omega arith) c.requires.off_centre ]
    in
    start-3 a.m a.a a.b p.left p.right p.top p.bottom l (omega arith)
