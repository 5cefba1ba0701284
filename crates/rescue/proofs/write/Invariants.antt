-- `write` meets its contract: what is written, and what is left to write, are all the changes. Assumes nothing.
use mathlib.Core.Path.{◌≡◌}
use Prim.Native.Nat.{◌-◌, ◌≤◌}
use lib.ListN.{length}
use Rattle.rescue.specs.Internal.Marks.{changes_in}
use Rattle.rescue.specs.Rescue.{flat}
use Rattle.rescue.proofs.Internal.Marking.{Wrote, left_at}
use Rattle.rescue.proofs.write.Given as goal

abbrev pub invariant-loop-i : goal.invariant-loop-i
invariant-loop-i l = (length l.out ≡ length l.initial.out) × (length l.marks ≤ 65536) × (l.i ≤ length l.marks) × Wrote l.initial.out (flat (changes_in 7 l.marks)) l.out l.n (left_at l.marks l.i)

abbrev pub decreases-loop-i : goal.decreases-loop-i
decreases-loop-i l = length l.marks - l.i
