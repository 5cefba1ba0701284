-- `leave` meets its contract: those left so far, and those of the rest, are those of all. Assumes nothing.
use mathlib.Core.Path.{sym, ◌∙◌}
use Prim.Native.Nat.{◌-◌}
use Rattle.rescue.specs.Internal.Lack.{leave-out, leave-in, leave-end}
use Rattle.rescue.proofs.leave.Goals as goal

pub loop-i-preserved-then-holds : goal.loop-i-preserved-then-holds
loop-i-preserved-then-holds c = let l = c.loop-i.invariant in (l.0, leave-out l.1 c.loop-i-test.true (c.holds.ensures.k_in_bounds c.if-holds.true).2)

pub loop-i-preserved-then-holds-2 : goal.loop-i-preserved-then-holds-2
loop-i-preserved-then-holds-2 c =
    let l = c.loop-i.invariant in
    (l.0, leave-out l.1 c.loop-i-test.true (c.holds-in-loop-i.ensures.k_in_bounds c.if-holds-2.true).2)

pub loop-i-preserved : goal.loop-i-preserved
loop-i-preserved c =
    let l = c.loop-i.invariant in
    (l.0, leave-in l.1 c.loop-i-test.true (sym (c.holds-in-loop-i.ensures.value c.place_in-near.ensures) ∙ c.if-holds-2.false))

pub returns : goal.returns
returns c = let r = leave-end c.loop-i.invariant.1 c.loop-i-test.false in record { value = r.0; codes_after = r.1 }
