-- `follows` meets its contract: each call tests one code, from the last one on. Assumes nothing.
use Prim.Native.Nat.{◌-◌}
use Rattle.gathering.proofs.+follows.Given as goal

abbrev pub decreases-follows : goal.decreases-follows
decreases-follows l = l.left
