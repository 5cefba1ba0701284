-- `asking::letters_before` meets its contract. Assumes nothing.
use Prim.Native.Nat.{◌-◌}
use Rattle.asking.proofs.Counts.{Part}
use Rattle.asking.proofs.letters_before.Given as goal

abbrev pub invariant-loop-i : goal.invariant-loop-i
invariant-loop-i l = Part l.text l.from l.at l.count l.i

abbrev pub decreases-loop-i : goal.decreases-loop-i
decreases-loop-i l = l.at - l.i
