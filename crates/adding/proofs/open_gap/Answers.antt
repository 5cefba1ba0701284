-- `adding::open_gap` meets its contract. Assumes nothing.
use Prim.Native.Nat.{◌-◌}
use Rattle.adding.proofs.Moves.{opened-more}
use native.Mathlib.Omega.{arith}
use Rattle.adding.proofs.open_gap.Goals as goal

pub loop-i-preserved : goal.loop-i-preserved
loop-i-preserved c =
    let l = c.loop-i in
    let a = c.args in
    (omega arith, l.invariant.1, opened-more a.text.now a.end a.gap l.text l.i (l.i - 1) (omega arith) l.invariant.2 l.invariant.1)
