-- `summary::count_cells` meets its contract: what was counted and what is left make up the text's counters. Assumes nothing.
use Prim.Native.Nat.{◌-◌}
use lib.ListN.{length}
use Rattle.summary.proofs.Filling.{Counts}
use Rattle.summary.proofs.count_cells.Given as goal

abbrev pub invariant-loop-i : goal.invariant-loop-i
invariant-loop-i l = Counts l.text l.counters l.i l.spot

abbrev pub decreases-loop-i : goal.decreases-loop-i
decreases-loop-i l = length l.text - l.i
