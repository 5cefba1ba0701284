-- Where the faces O to R begin: the left edge and the depth of face b of O to R. Assumes nothing.
use Rattle.std.specs.Prelude.{◌≡◌, ℕ, ◌-◌, ◌*◌, ◌<◌}
use Rattle.std.proofs.Common.{arith, le-ltb, lt-ltb}
use Rattle.cell.specs.declared.Arrangement.{Arrangement}
use Rattle.cell.specs.Neighbour.{belt}
use Rattle.plane.specs.Plane.{face_side, face_left}
use Rattle.plane.specs.Internal.Depth.{face_depth}

pub left-belt : (a : Arrangement) {f : ℕ} (b : ℕ) → b < 4 → f ≡ belt b → face_left a f ≡ b * face_side
unfolding face_left
left-belt a b h e =
    let r : belt b - 1 ≡ b = omega arith in
    rw (e, le-ltb (belt b) 1 (omega arith), lt-ltb (belt b) 5 (omega arith), r)

pub depth-belt : {f : ℕ} (b : ℕ) → b < 4 → f ≡ belt b → face_depth f ≡ face_side
unfolding face_depth
depth-belt b h e = rw (e, le-ltb (belt b) 1 (omega arith), lt-ltb (belt b) 5 (omega arith))
