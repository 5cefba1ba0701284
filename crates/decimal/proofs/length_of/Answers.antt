-- `decimal::length_of` meets its contract: the digits taken off, with those of what is left, are all. A number below 2^64 is below 10^20, so the
-- printing has fuel left where a digit is left. Assumes nothing.
use native.Mathlib.Omega.{arith}
use Rattle.decimal.specs.Decimal.{printed}
use Rattle.decimal.proofs.Laws.{counted}
use Rattle.decimal.proofs.length_of.Goals as goal

pub loop-rest-init : goal.loop-rest-init
unfolding printed
loop-rest-init c = (omega arith, omega arith, omega arith, omega arith)

pub loop-rest-preserved : goal.loop-rest-preserved
loop-rest-preserved c =
    let l = c.loop-rest in
    let k = counted l.n l.rest l.invariant.1 (omega arith) l.invariant.2 in
    (omega arith, omega arith, k.1, omega arith)
