-- `sheet_parts::put_parts` meets its contract: each turn prints what waits and puts the next records. Assumes nothing.
use mathlib.Core.Path.{◌≡◌}
use Prim.Native.Nat.{◌-◌, ◌≤◌}
use lib.ListN.{length}
use Rattle.sheet.specs.Sheet.{records_of}
use Rattle.sheet.specs.Parts.{StandsAt}
use Rattle.sheet_parts.proofs.Written.{Waits}
use Rattle.sheet_parts.proofs.put_parts.Given as goal

abbrev pub invariant-loop-standing : goal.invariant-loop-standing
invariant-loop-standing l = StandsAt l.text l.standing × (l.standing.records ≤ length (records_of l.text)) × (l.end ≤ length l.out) × (length l.out ≡ length l.initial.out) × Waits l.text l.out l.standing.records l.end

abbrev pub decreases-loop-standing : goal.decreases-loop-standing
decreases-loop-standing l = length (records_of l.text) - l.standing.records
