-- `summary::all_full` meets its contract. Assumes nothing.
use mathlib.Core.Path.{refl, sym}
use Rattle.summary.specs.Summary.{all_full}
use Rattle.summary.proofs.Answers.{full-fails, full-more}
use native.Mathlib.Omega.{arith}
use Rattle.summary.proofs.all_full.Goals as goal

pub loop-i-init : goal.loop-i-init
unfolding all_full
loop-i-init c = (omega arith, c.requires, refl)

pub returns-then-counters-first-ne-DISTRICT_SIZE : goal.returns-then-counters-first-ne-DISTRICT_SIZE
returns-then-counters-first-ne-DISTRICT_SIZE c =
    let a = c.args in
    sym (full-fails a.counters.now a.first c.loop-i.i a.count c.loop-i-test.true c.if-counters-first-ne-DISTRICT_SIZE.true)

pub loop-i-preserved : goal.loop-i-preserved
loop-i-preserved c =
    let a = c.args in
    let l = c.loop-i in
    (omega arith, l.invariant.1, full-more a.counters.now a.first l.i l.invariant.2 c.if-counters-first-ne-DISTRICT_SIZE.false)
