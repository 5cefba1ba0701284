-- `walk::past_list` meets its contract: the bytes gone over, and those that it takes from here on, are the list's. Assumes nothing.
use Prim.Native.Nat.{◌≤◌, max}
use lib.ListN.{length}
use Rattle.walk.proofs.Past.{Shuts}
use Rattle.walk.proofs.past_list.Given as goal

abbrev pub invariant-loop-i : goal.invariant-loop-i
invariant-loop-i l = Shuts l.text l.at l.depth l.i × (l.i ≤ max (length l.text) l.at)
