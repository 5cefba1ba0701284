-- `write` meets its contract: what is written, and what is left to write, are all the changes. Assumes nothing.
use native.Mathlib.Omega.{arith}
use mathlib.Core.Path.{refl}
use Prim.Native.Nat.{◌-◌}
use Rattle.rescue.proofs.Internal.Marking.{left-begin, left-room, left-skip, left_step, left-done}
use Rattle.rescue.proofs.write.Goals as goal

pub loop-i-init : goal.loop-i-init
loop-i-init c = let s = c in (refl, s.requires.0, omega arith, left-begin s.args.marks.now s.args.out.now s.requires.1)

pub loop-i-preserved-then-marks-i-eq0 : goal.loop-i-preserved-then-marks-i-eq0
loop-i-preserved-then-marks-i-eq0 c =
    let l = c.loop-i in
    (l.invariant.0, l.invariant.1, omega arith, left-skip c.args.marks.now l.i l.invariant.3 c.loop-i-test.true c.if-marks-i-eq0.true)

pub put_kinds-n-requires : goal.put_kinds-n-requires
put_kinds-n-requires c =
    let a = c in
    let l = a.loop-i in
    left-room a.args.marks.now l.i l.invariant.3 c.loop-i-test.true

pub loop-i-preserved : goal.loop-i-preserved
loop-i-preserved c =
    let a = c in
    let l = a.loop-i in
    let w = left_step a.args.marks.now l.i l.invariant.3 a.loop-i-test.true c.put_kinds-n.ensures in
    (w.long, l.invariant.1, omega arith, w)

pub returns : goal.returns
returns c = let l = c.loop-i in left-done c.args.marks.now l.i l.invariant.3 c.loop-i-test.false
