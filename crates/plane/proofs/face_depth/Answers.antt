-- `plane::face_depth` meets its contract: each return is the case that the tests before it pick. Assumes nothing.
use borrow.Author.Tests.{lt-ltb, le-ltb}
use Rattle.plane.specs.Internal.Depth.{face_depth}
use Rattle.plane.proofs.face_depth.Goals as goal

pub returns-then-face-lt1 : goal.returns-then-face-lt1
unfolding face_depth
returns-then-face-lt1 c = simp (lt-ltb _ _ c.if-face-lt1.true)

pub returns-then-face-lt5 : goal.returns-then-face-lt5
unfolding face_depth
returns-then-face-lt5 c = simp (le-ltb _ _ c.if-face-lt1.false, lt-ltb _ _ c.if-face-lt5.true)

pub returns : goal.returns
unfolding face_depth
returns c = simp (le-ltb _ _ c.if-face-lt1.false, le-ltb _ _ c.if-face-lt5.false)
