-- `say_waiting` reads within its room, and ends. Assumes nothing.
use Prim.Native.Nat.{◌+◌, ◌-◌, ◌≤◌}
use lib.ListN.{length}
use Rattle.record.proofs.say_waiting.Given as goal

abbrev pub invariant-loop-i : goal.invariant-loop-i
invariant-loop-i l = l.i ≤ length l.waits + 1

abbrev pub decreases-loop-i : goal.decreases-loop-i
decreases-loop-i l = length l.waits - l.i
