-- `sheet::next_whole` meets its contract. Assumes nothing.
use mathlib.Core.Path.{◌≡◌}
use Prim.Native.Nat.{◌-◌}
use lib.ListN.{length, drop}
use Rattle.walk.specs.Walk.{walk, Walks}
use Rattle.sheet.proofs.next_whole.Given as goal

abbrev pub invariant-loop-i : goal.invariant-loop-i
invariant-loop-i l = (walk l.initial.here (drop l.initial.i l.text) ≡ walk l.here (drop l.i l.text)) × Walks l.text l.i l.here

abbrev pub decreases-loop-i : goal.decreases-loop-i
decreases-loop-i l = length l.text - l.i
