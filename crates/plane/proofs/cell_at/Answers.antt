-- `plane::cell_at` meets its contract. Assumes nothing.
use Prim.Native.Nat.{◌/◌}
use native.Mathlib.Omega.{arith}
use Rattle.plane.specs.Plane.{cell_at}
use Rattle.plane.specs.Internal.SideLaws.{side-pos}
use Rattle.plane.proofs.cell_at.Goals as goal

pub nonzero_div-result : goal.nonzero_div-result
nonzero_div-result c = omega (arith, c.side_of.ensures, side-pos c.args.resolution)

pub returns : goal.returns
unfolding cell_at
returns c =
    let a = c.args in
    λ i. record { face = a.face; resolution = a.resolution; row = c.row_at.ensures i; column = a.right / c.side_of.ensures i }
