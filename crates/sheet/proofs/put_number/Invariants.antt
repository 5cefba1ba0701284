-- `sheet::put_number` meets its contract. Assumes nothing.
use mathlib.Core.Path.{◌≡◌}
use Prim.Native.Nat.{◌+◌, ◌≤◌}
use lib.ListN.{length}
use lib.Seq.{sets}
use Rattle.sheet.specs.Sheet.{low}
use Rattle.sheet.proofs.put_number.Given as goal

abbrev pub invariant-loop-n : goal.invariant-loop-n
invariant-loop-n l = (l.i + l.n ≤ length l.buffer) × (length l.buffer ≡ length l.initial.buffer) × (sets l.initial.buffer l.at (low 8 l.number) ≡ sets l.buffer l.i (low l.n l.rest))

abbrev pub decreases-loop-n : goal.decreases-loop-n
decreases-loop-n l = l.n
