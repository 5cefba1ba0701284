-- `thin` meets its contract: those kept so far, and what is left of the rest, are what is left of all. Assumes nothing.
use native.Mathlib.Omega.{arith}
use Rattle.proper.specs.Internal.Thinning.{hand-code, hand_end, thin-skip, thin-put, thin-end}
use Rattle.proper.proofs.thin.Goals as goal

pub start_in-start-requires : goal.start_in-start-requires
start_in-start-requires c = hand-code c.loop-i.invariant c.loop-i-test.true

pub loop-i-preserved-then-start-end : goal.loop-i-preserved-then-start-end
loop-i-preserved-then-start-end c =
    let b = c in
    thin-skip b.loop-i.invariant b.loop-i-test.true (omega (arith, c.start_in-start.ensures, c.if-start-end.true))

pub overflow_add-end : goal.overflow_add-end
overflow_add-end c =
    let b = c in
    omega (arith, c.size_in.ensures, c.start_in-start.ensures, hand_end b.loop-i.invariant b.loop-i-test.true)

pub loop-i-preserved : goal.loop-i-preserved
loop-i-preserved c =
    let b = c in
    thin-put b.loop-i.invariant b.loop-i-test.true c.start_in-start.ensures c.size_in.ensures c.if-start-end.false

pub returns : goal.returns
returns c = let r = thin-end c.loop-i.invariant c.loop-i-test.false in record { value = r.0; codes_after = r.1 }
