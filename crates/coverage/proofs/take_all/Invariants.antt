-- `take_all` meets its contract: each turn takes the line that it was handed, or stops there. Assumes nothing.
use mathlib.Core.Path.{◌≡◌}
use mathlib.Core.List.{List, []}
use Prim.Native.Nat.{ℕ, ◌-◌, ◌≤◌}
use lib.ListN.{length, take}
use Rattle.lines.specs.Fold.{OfEnded}
use Rattle.coverage.specs.Names.{read, with_name}
use Rattle.coverage.proofs.take_all.Given as goal

abbrev pub invariant-loop-line : goal.invariant-loop-line
invariant-loop-line l =
    (l.from ≤ l.end) × (l.end ≤ length l.bytes) × (l.count ≤ length l.codes) × (length l.bytes ≡ length l.initial.bytes) × (length l.room ≡ length l.initial.room)
    × (length l.codes ≡ length l.initial.codes)
    × (all : List ℕ) × OfEnded (with_name l.arrangement (length l.codes)) (read [] []) (read all (take l.count l.codes))

abbrev pub decreases-loop-line : goal.decreases-loop-line
decreases-loop-line l = 18446744073709551615 - l.line
