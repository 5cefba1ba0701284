-- `adding::open_gap` meets its contract. Assumes nothing.
use Prim.Native.Nat.{◌+◌, ◌≤◌}
use lib.ListN.{length}
use Rattle.adding.proofs.Moves.{Opened}
use Rattle.adding.proofs.open_gap.Given as goal

abbrev pub invariant-loop-i : goal.invariant-loop-i
invariant-loop-i l = (l.at ≤ l.i) × (l.end + l.gap ≤ length l.initial.text) × Opened l.initial.text l.end l.gap l.text l.i

abbrev pub decreases-loop-i : goal.decreases-loop-i
decreases-loop-i l = l.i
