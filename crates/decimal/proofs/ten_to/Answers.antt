-- One more factor in each turn; nothing wraps up to 10^15. Assumes nothing.
use Prim.Native.Nat.{◌^◌, ◌≤◌}
use native.Mathlib.Omega.{arith}
use Rattle.decimal.proofs.Laws.{ten-le}
use Rattle.decimal.proofs.ten_to.Goals as goal

pub overflow_mul-power : goal.overflow_mul-power
overflow_mul-power c =
    let l = c.loop in
    let t : 10 ^ l.counter ≤ 10 ^ 15 = ten-le {i = l.counter} {j = 15} (omega (arith, c.requires)) in
    omega (arith, l.invariant)
