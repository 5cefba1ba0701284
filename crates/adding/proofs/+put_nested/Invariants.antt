-- `adding::put_nested` meets its contract. Assumes nothing.
use Prim.Native.Nat.{◌-◌}
use lib.ListN.{length}
use Rattle.adding.proofs.+put_nested.Given as goal

abbrev pub decreases-put_nested : goal.decreases-put_nested
decreases-put_nested l = length l.name.now - l.k
