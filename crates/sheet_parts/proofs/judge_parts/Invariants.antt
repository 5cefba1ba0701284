-- `sheet_parts::judge_parts` meets its contract: before each part whole records of ours lie behind. Assumes nothing.
use mathlib.Core.Path.{◌≡◌}
use Prim.Native.Nat.{◌-◌}
use lib.ListN.{length}
use Rattle.sheet.specs.Sheet.{records_of}
use Rattle.sheet_parts.proofs.Read.{Reads}
use Rattle.sheet_parts.proofs.judge_parts.Given as goal

abbrev pub invariant-loop-count : goal.invariant-loop-count
invariant-loop-count l = (length l.part ≡ length l.initial.part) × Reads l.text l.standing

abbrev pub decreases-loop-count : goal.decreases-loop-count
decreases-loop-count l = length (records_of l.text) - l.standing.records
