-- `root::whole_root` meets its contract: the guess stays at or above the root and falls to it. Assumes nothing.
use Prim.Native.Nat.{◌+◌, ◌*◌, ◌≤◌, ◌<◌}
use Rattle.root.proofs.whole_root.Given as goal

abbrev pub invariant-loop-r : goal.invariant-loop-r
invariant-loop-r l = (l.radicand < (l.r + 1) * (l.r + 1)) × (l.r ≤ 1000000000)

abbrev pub decreases-loop-r : goal.decreases-loop-r
decreases-loop-r l = l.r
