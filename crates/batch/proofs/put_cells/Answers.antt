-- `batch::put_cells` meets its contract: before each code the cells put, and those still to be put, are the whole. Assumes nothing.
use native.Mathlib.Omega.{arith}
use Rattle.batch.proofs.Batches.{cells-on, cells-end}
use Rattle.batch.proofs.put_cells.Goals as goal

pub loop-i-preserved : goal.loop-i-preserved
loop-i-preserved c = cells-on c.loop-i.invariant (omega arith) c.put_code.ensures

pub returns : goal.returns
returns c = cells-end c.loop-i.invariant (omega arith)
