-- `say_changes` meets its contract: each turn puts the line of one change behind those that wait. Assumes nothing.
use mathlib.Core.Path.{◌≡◌}
use mathlib.Core.List.{List}
use Prim.Native.Nat.{◌-◌, ◌≤◌}
use lib.ListN.{length}
use Rattle.proper.specs.Changes.{Change}
use Rattle.rescue.specs.Rescue.{flat}
use Rattle.coverage.proofs.Said.{Waiting}
use Rattle.coverage.proofs.say_changes.Given as goal

abbrev pub invariant-loop-i : goal.invariant-loop-i
invariant-loop-i l = (l.i ≤ length l.list) × (l.end ≤ length l.lines) × (length l.lines ≡ length l.initial.lines) × ((a : List Change) → l.list ≡ flat a → Waiting a l.lines l.i l.end)

abbrev pub decreases-loop-i : goal.decreases-loop-i
decreases-loop-i l = length l.list - l.i
