-- `thin` meets its contract: those kept so far, and what is left of the rest, are what is left of all. Assumes nothing.
use Prim.Native.Nat.{◌-◌}
use Rattle.proper.specs.Internal.Thinning.{Thinning}
use Rattle.proper.proofs.thin.Given as goal

abbrev pub invariant-loop-i : goal.invariant-loop-i
invariant-loop-i l = Thinning l.initial.codes l.codes l.count l.kept l.end l.i

abbrev pub decreases-loop-i : goal.decreases-loop-i
decreases-loop-i l = l.count - l.i
