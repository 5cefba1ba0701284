-- `console::put_all_names` meets its contract: each turn prints what waits, and where that is done puts the next names. Assumes nothing.
use mathlib.Core.Path.{◌≡◌}
use Prim.Native.Nat.{◌-◌, ◌≤◌}
use lib.ListN.{length}
use Rattle.console.proofs.Parts.{Waits}
use Rattle.console.proofs.put_all_names.Given as goal

abbrev pub invariant-loop-from : goal.invariant-loop-from
invariant-loop-from l = (l.from ≤ length l.codes) × (l.end ≤ length l.out) × (length l.out ≡ length l.initial.out) × Waits l.codes l.out l.from l.end

abbrev pub decreases-loop-from : goal.decreases-loop-from
decreases-loop-from l = length l.codes - l.from
