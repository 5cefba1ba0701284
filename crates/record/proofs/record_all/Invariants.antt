-- `record_all` meets its contract: each turn records the line that it was handed. Assumes nothing.
use mathlib.Core.Path.{◌≡◌}
use Prim.Native.Nat.{◌-◌, ◌≤◌}
use lib.ListN.{length, take}
use Rattle.lines.specs.Fold.{OfEnded}
use Rattle.adding.specs.InMind.{InMind}
use Rattle.flight.specs.Recording.{Records, with_line, started}
use Rattle.record.specs.Recorded.{flown_of, line_count}
use Rattle.record.proofs.record_all.Given as goal

abbrev pub invariant-loop-number : goal.invariant-loop-number
invariant-loop-number l =
    (l.from ≤ l.end) × (l.end ≤ length l.bytes) × Records l.text l.flight.recording × (length l.bytes ≡ length l.initial.bytes)
    × (length l.room ≡ length l.initial.room) × (length l.text ≡ length l.initial.text) × (line_count l.flight ≡ l.number)
    × OfEnded (with_line l.setting (length l.initial.text)) (started l.setting) (flown_of l.text l.flight) × (length l.waits ≡ length l.initial.waits)
    × (length l.near ≡ length l.initial.near) × InMind (take l.flight.recording.length l.text) l.near

abbrev pub decreases-loop-number : goal.decreases-loop-number
decreases-loop-number l = 18446744073709551615 - l.number
