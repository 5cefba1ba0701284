-- `adding::close_gap` meets its contract. Assumes nothing.
use mathlib.Core.Path.{◌≡◌}
use Prim.Native.Nat.{◌+◌, ◌-◌, ◌≤◌}
use lib.ListN.{length}
use Rattle.adding.proofs.Moves.{Closed}
use Rattle.adding.proofs.close_gap.Given as goal

abbrev pub invariant-loop-i : goal.invariant-loop-i
invariant-loop-i l = (l.from ≤ l.to) × (l.to + l.count ≤ length l.initial.text) × (length l.text ≡ length l.initial.text) × Closed l.initial.text l.from l.to l.count l.text l.i

abbrev pub decreases-loop-i : goal.decreases-loop-i
decreases-loop-i l = l.count - l.i
