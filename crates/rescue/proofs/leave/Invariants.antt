-- `leave` meets its contract: those left so far, and those of the rest, are those of all. Assumes nothing.
use Prim.Native.Nat.{◌-◌}
use Rattle.logic.specs.Rise.{Rise}
use Rattle.rescue.specs.Internal.Lack.{Leaving}
use Rattle.rescue.proofs.leave.Given as goal

abbrev pub invariant-loop-i : goal.invariant-loop-i
invariant-loop-i l = Rise l.keys × Leaving l.keys l.initial.codes l.codes l.count l.kept l.i

abbrev pub decreases-loop-i : goal.decreases-loop-i
decreases-loop-i l = l.count - l.i
