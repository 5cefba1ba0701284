-- `put_wholes` meets its contract: the codes put so far, and those of what is left, are the text's. Assumes nothing.
use Prim.Native.Nat.{◌-◌, ◌≤◌}
use lib.ListN.{length}
use Rattle.proper.specs.Wholes.{loose_codes}
use Rattle.proper.proofs.Internal.Wholes.{Lists}
use Rattle.proper.proofs.put_wholes.Given as goal

abbrev pub invariant-loop-i : goal.invariant-loop-i
invariant-loop-i l = (length (loose_codes l.arrangement l.text) ≤ length l.initial.codes) × Lists l.arrangement l.text l.initial.codes l.codes l.count l.i l.spot

abbrev pub decreases-loop-i : goal.decreases-loop-i
decreases-loop-i l = length l.text - l.i
