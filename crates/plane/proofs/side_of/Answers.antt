-- `plane::side_of` meets its contract. Assumes nothing.
use Prim.Native.Nat.{◌-◌}
use native.Mathlib.Omega.{arith}
use Rattle.ternary.proofs.Laws.Powers.{power_le}
use Rattle.plane.proofs.side_of.Goals as goal

pub overflow_mul-result : goal.overflow_mul-result
overflow_mul-result c = let h = power_le {i = 15 - c.args.resolution} {j = 15} (omega arith) in omega arith
