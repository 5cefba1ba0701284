-- `corner::put_corners` meets its contract: the codes of the corners passed stand in front. Assumes nothing.
use Rattle.corner.proofs.Fill.{Filled}
use Rattle.corner.proofs.put_corners.Given as goal

abbrev pub invariant-loop-direction : goal.invariant-loop-direction
invariant-loop-direction l = Filled l.arrangement l.cell l.initial.codes l.codes l.count l.direction
