-- Assumes nothing.
use Rattle.loose.specs.Internal.Stop.{Tied}
use Rattle.loose.proofs.stop_of.Given as goal

abbrev pub invariant-loop-i : goal.invariant-loop-i
invariant-loop-i l = Tied l.text l.from l.i l.lists l.named
