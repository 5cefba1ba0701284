-- `writing::whole_until` meets its contract: the codes up to the place i cover the cell up to the position. Assumes nothing.
use Rattle.writing.specs.Internal.Whole.{CoveredTo}
use Rattle.writing.proofs.WholeSteps as ws
use Rattle.writing.proofs.whole_until.Given as goal

abbrev pub invariant-loop-i : goal.invariant-loop-i
invariant-loop-i l = CoveredTo l.codes l.at l.start l.size l.i l.position
