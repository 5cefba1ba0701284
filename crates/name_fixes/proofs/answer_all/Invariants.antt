-- `answer_all` meets its contract: each turn answers the line that it was handed. Assumes nothing.
use mathlib.Core.Path.{◌≡◌}
use mathlib.Core.List.{[]}
use Prim.Native.Nat.{◌≤◌}
use lib.ListN.{length}
use Rattle.lines.specs.Fold.{OfEnded}
use Rattle.name_fixes.specs.Answers.{with_answer, Written}
use Rattle.name_fixes.proofs.answer_all.Given as goal

abbrev pub invariant-loop : goal.invariant-loop
invariant-loop l =
    (l.from ≤ l.end) × (l.end ≤ length l.bytes) × (l.waiting ≤ length l.out) × (length l.bytes ≡ length l.initial.bytes) × (length l.room ≡ length l.initial.room)
    × (length l.out ≡ length l.initial.out) × Written (OfEnded (with_answer l.setting) []) l.out l.waiting × (l.waiting ≡ 0 → l.out ≡ l.initial.out)
