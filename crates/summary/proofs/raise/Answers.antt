-- `summary::raise` meets its contract: the counters before i have the amount. Assumes nothing.
use Rattle.summary.proofs.Raising.{raising-end}
use native.Mathlib.Omega.{arith}
use Rattle.summary.proofs.raise.Goals as goal

pub returns : goal.returns
returns c =
    let l = c.loop-i.invariant in
    let t = c.loop-i-test.false in
    raising-end _ _ (omega arith) l.4
