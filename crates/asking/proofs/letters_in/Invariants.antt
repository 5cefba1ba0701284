-- `asking::letters_in` meets its contract. Assumes nothing.
use Rattle.asking.proofs.Counts.{Part}
use Rattle.asking.proofs.letters_in.Given as goal

abbrev pub invariant-loop-i : goal.invariant-loop-i
invariant-loop-i l = Part l.text l.from l.to l.count l.i
