-- `ternary::woven_by` meets its contract: each turn has three digits more. Assumes nothing.
use native.Mathlib.Omega.{arith}
use Rattle.ternary.proofs.Shares.{fits-path, goes_on, goes_end}
use Rattle.ternary.proofs.woven_by.Goals as goal

pub overflow_mul-path : goal.overflow_mul-path
overflow_mul-path c = omega (arith, fits-path c.three_woven-digits.ensures c.loop-left-test.true c.loop-left.invariant)

pub overflow_add-path : goal.overflow_add-path
overflow_add-path c = omega (arith, fits-path c.three_woven-digits.ensures c.loop-left-test.true c.loop-left.invariant)

pub loop-left-preserved : goal.loop-left-preserved
loop-left-preserved c = goes_on c.three_woven-digits.ensures c.loop-left-test.true c.loop-left.invariant

pub returns : goal.returns
returns c = goes_end c.loop-left.invariant (omega arith)
