-- `batch::put_codes` meets its contract: before each cell the codes put, and those still to be put, are the whole. Assumes nothing.
use mathlib.Core.Path.{◌≡◌}
use Prim.Native.Nat.{◌*◌}
use Rattle.batch.proofs.Batches.{CodesPut}
use Rattle.batch.proofs.put_codes.Given as goal

abbrev pub invariant-loop : goal.invariant-loop
invariant-loop l = (l.from ≡ 6 * l.counter) × CodesPut l.numbers l.initial.codes l.codes l.from l.at
