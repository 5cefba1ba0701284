-- `console::next_line` meets its contract: in each turn a line ends, or more of it stands in its room. Assumes nothing.
use mathlib.Core.Path.{◌≡◌}
use Prim.Native.Nat.{◌≤◌}
use lib.ListN.{length}
use Rattle.console.specs.Input.{unread}
use Rattle.console.proofs.Laws.{Begun}
use Rattle.console.proofs.next_line.Given as goal

abbrev pub invariant-loop : goal.invariant-loop
invariant-loop l = (l.at ≤ l.stop) × (l.stop ≤ length l.bytes) × (l.kept ≤ length l.room) × (length l.bytes ≡ length l.initial.bytes) × (length l.room ≡ length l.initial.room)
    × Begun (unread l.initial.bytes l.from l.end) (unread l.bytes l.at l.stop) l.room l.kept
