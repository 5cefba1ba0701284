-- `batch::put_cells` meets its contract: before each code the cells put, and those still to be put, are the whole. Assumes nothing.
use Rattle.batch.proofs.Batches.{CellsPut}
use Rattle.batch.proofs.put_cells.Given as goal

abbrev pub invariant-loop-i : goal.invariant-loop-i
invariant-loop-i l = CellsPut l.codes l.initial.numbers l.numbers l.i l.at
