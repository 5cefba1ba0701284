-- `place` meets its contract: what the scan has still to go over is tied to the whole. Assumes nothing.
use Rattle.place.proofs.Laws.{Inv}
use Rattle.place.proofs.place.Given as goal

abbrev pub invariant-loop-i : goal.invariant-loop-i
invariant-loop-i l = Inv l.text l.from l.level l.depth l.lo l.whole l.k l.named l.i
