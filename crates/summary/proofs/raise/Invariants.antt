-- `summary::raise` meets its contract: the counters before i have the amount. Assumes nothing.
use mathlib.Core.Path.{◌≡◌}
use Prim.Native.Nat.{◌+◌, ◌-◌, ◌≤◌}
use lib.ListN.{length}
use Rattle.summary.specs.Internal.Raised.{Room}
use Rattle.summary.proofs.Raising.{Raising}
use Rattle.summary.proofs.raise.Given as goal

abbrev pub invariant-loop-i : goal.invariant-loop-i
invariant-loop-i l = (l.first ≤ l.i) × (l.i ≤ l.first + l.count) × (length l.initial.counters ≡ 486) × Room l.initial.counters l.first l.count l.amount × Raising l.initial.counters l.first l.i l.amount l.counters

abbrev pub decreases-loop-i : goal.decreases-loop-i
decreases-loop-i l = l.first + l.count - l.i
