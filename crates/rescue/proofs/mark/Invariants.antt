-- `mark` meets its contract: the numbers put so far, and those of what is left, are the body's. Assumes nothing.
use mathlib.Core.Path.{◌≡◌}
use Prim.Native.Nat.{◌-◌}
use lib.ListN.{length}
use Rattle.logic.specs.Rise.{Rise}
use Rattle.rescue.proofs.Internal.Marking.{Marking}
use Rattle.rescue.proofs.mark.Given as goal

abbrev pub invariant-loop-i : goal.invariant-loop-i
invariant-loop-i l = Rise l.largest × Rise l.fresh × (length l.marks ≡ length l.initial.marks) × (length l.named ≡ length l.initial.named) × (length l.stood ≡ length l.initial.stood)
    × Marking l.arrangement l.largest l.fresh l.body l.marks l.named l.stood l.before l.i l.spot

abbrev pub decreases-loop-i : goal.decreases-loop-i
decreases-loop-i l = length l.body - l.i
