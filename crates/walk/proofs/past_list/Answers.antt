-- `walk::past_list` meets its contract: the bytes gone over, and those that it takes from here on, are the list's. Assumes nothing.
use native.Mathlib.Omega.{arith}
use Rattle.walk.proofs.Past.{shuts-end, shuts-done, shuts-on}
use Rattle.walk.proofs.past_list.Goals as goal

pub returns-then-depth-eq0 : goal.returns-then-depth-eq0
returns-then-depth-eq0 c = shuts-done c.loop-i.invariant.0 (omega arith) c.open_past-depth.ensures c.if-depth-eq0.true

pub loop-i-preserved : goal.loop-i-preserved
loop-i-preserved c = (shuts-on c.loop-i.invariant.0 (omega arith) c.open_past-depth.ensures c.if-depth-eq0.false, omega arith)

pub returns : goal.returns
returns c = omega (arith, shuts-end c.loop-i.invariant.0 (omega arith))
