-- `report::put_history` meets its contract: what is put so far, and the last revisions, are all lines. Assumes nothing.
use Rattle.report.proofs.Revisions.{Listing}
use Rattle.report.proofs.put_history.Given as goal

abbrev pub invariant-loop-left : goal.invariant-loop-left
invariant-loop-left l = Listing l.history l.initial.out l.out l.left l.end
