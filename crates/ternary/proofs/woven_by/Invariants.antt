-- `ternary::woven_by` meets its contract: each turn has three digits more. Assumes nothing.
use Rattle.ternary.proofs.Shares.{Goes}
use Rattle.ternary.proofs.woven_by.Given as goal

abbrev pub invariant-loop-left : goal.invariant-loop-left
invariant-loop-left l = Goes l.row l.column l.left l.rest l.path

abbrev pub decreases-loop-left : goal.decreases-loop-left
decreases-loop-left l = l.left
