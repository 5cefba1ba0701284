-- Assumes nothing.
use native.Mathlib.Omega.{arith}
use Prim.Native.Nat.{◌-◌}
use Rattle.rescue.proofs.Internal.Marking.{count-length, count-on, count-end}
use Rattle.rescue.proofs.count.Goals as goal

pub loop-i-preserved : goal.loop-i-preserved
loop-i-preserved c =
    let a = c in
    let l = a.loop-i.invariant in (
      omega arith,
      omega (arith, count-on a.args.marks.now a.loop-i.i c.loop-i-test.true, l.1, c.kinds-n.ensures.0),
      omega (arith, l.2, c.kinds-n.ensures.1),
    )

pub returns : goal.returns
returns c =
    let l = c.loop-i.invariant in
    let t = c.args.marks.now in
    (omega (arith, l.1, count-end t c.loop-i.i c.loop-i-test.false, count-length t 7), omega (arith, l.2, l.0))
