-- `adding::run_at` meets its contract. Assumes nothing.
use mathlib.Core.Path.{sym, ◌∙◌}
use Rattle.adding.proofs.Runs.{runs-end, runs-stop, runs_on}
use native.Mathlib.Omega.{arith}
use Rattle.adding.proofs.run_at.Goals as goal

pub returns-then-not-whole_at : goal.returns-then-not-whole_at
returns-then-not-whole_at c =
    let v = c.loop-i.invariant in
    (runs-stop v c.loop-i-test.true (sym c.whole_at.ensures ∙ c.if-not-whole_at.true), omega (arith, v.from, v.to))

pub loop-i-preserved : goal.loop-i-preserved
loop-i-preserved c = runs_on c.loop-i.invariant c.loop-i-test.true (sym c.whole_at.ensures ∙ c.if-not-whole_at.false)

pub returns : goal.returns
returns c =
    let v = c.loop-i.invariant in
    (runs-end v c.loop-i-test.false, omega (arith, v.from, v.to))
