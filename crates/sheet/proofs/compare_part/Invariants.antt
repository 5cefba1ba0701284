-- `sheet::compare_part` meets its contract: before each byte that a record starts with, those before it are ours. Assumes nothing.
use Prim.Native.Nat.{◌-◌}
use lib.ListN.{length}
use Rattle.sheet.proofs.Beside.{Over}
use Rattle.sheet.proofs.compare_part.Given as goal

abbrev pub invariant-loop-i : goal.invariant-loop-i
invariant-loop-i l = Over l.text l.part l.initial.records l.records l.at l.i l.spot

abbrev pub decreases-loop-i : goal.decreases-loop-i
decreases-loop-i l = length l.part - l.i
