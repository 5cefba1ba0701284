-- The bytes passed over are not the one looked for. Assumes nothing.
use Rattle.std.proofs.Common.{◌≡◌, ◌+◌, drop}
use Rattle.lines.specs.Find.{index_of}
use Rattle.lines.proofs.find.Given as goal

abbrev pub invariant-loop-i : goal.invariant-loop-i
invariant-loop-i l = l.at + index_of l.byte (drop l.at l.part) ≡ l.i + index_of l.byte (drop l.i l.part)
