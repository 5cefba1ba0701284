-- `sheet::put_part` meets its contract: before each record the part so far, and what is still to be put, are the records that have room. Assumes nothing.
use Prim.Native.Nat.{◌-◌}
use lib.ListN.{length}
use Rattle.sheet.proofs.Beside.{Puts}
use Rattle.sheet.proofs.put_part.Given as goal

abbrev pub invariant-loop-buffer : goal.invariant-loop-buffer
invariant-loop-buffer l = Puts l.text l.initial.buffer l.buffer l.initial.records l.records l.at l.i l.spot

abbrev pub decreases-loop-buffer : goal.decreases-loop-buffer
decreases-loop-buffer l = length l.buffer - l.i
