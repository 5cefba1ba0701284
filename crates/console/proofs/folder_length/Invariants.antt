-- `console::folder_length` meets its contract: no byte behind is a slash. Assumes nothing.
use mathlib.Core.Path.{◌≡◌}
use Prim.Native.Nat.{ℕ, ◌≤◌, ◌<◌}
use lib.ListN.{length, get_or}
use Rattle.console.proofs.folder_length.Given as goal

abbrev pub invariant-loop-before : goal.invariant-loop-before
invariant-loop-before l = (i : ℕ) → l.before ≤ i → i < length l.path → get_or l.path i 0 ≡ 47 → ⊥
