-- `plane::row_at` meets its contract. Assumes nothing.
use Prim.Native.Nat.{◌-◌}
use native.Mathlib.Omega.{arith}
use Rattle.ternary.proofs.Laws.Powers.{power_pos}
use Rattle.plane.specs.Internal.SideLaws.{side-pos}
use Rattle.plane.proofs.row_at.Goals as goal

pub overflow_sub-result : goal.overflow_sub-result
overflow_sub-result c = omega (arith, c.power.ensures, power_pos c.args.resolution)

pub nonzero_div-result : goal.nonzero_div-result
nonzero_div-result c = omega (arith, c.side_of.ensures, side-pos c.args.resolution)
