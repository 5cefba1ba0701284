-- `batch::code_cells` meets its contract: nothing is put before the room is known to be enough. Assumes nothing.
use lib.ListN.{length}
use Rattle.batch.specs.Batch.{cells_of}
use Rattle.batch.proofs.Laws.Batch.{cells-long}
use Rattle.batch.proofs.Batches.{refused-eight, answered, cells-short, cells-enough}
use native.Mathlib.Omega.{arith}
use Rattle.batch.proofs.code_cells.Goals as goal

pub returns-then-numbers-codes : goal.returns-then-numbers-codes
returns-then-numbers-codes c =
    let a = c.args in let r = refused-eight (length a.codes.now) _ a.numbers.now (cells-short a.codes.now (length a.numbers.now) c.if-numbers-codes.true) in record { value = r.0; numbers_after = r.1 }

pub returns : goal.returns
returns c =
    let i = c in
    let a = i.args in let r = answered (length a.codes.now) (cells_of a.codes.now) a.numbers.now (cells-enough a.codes.now (length a.numbers.now) i.if-numbers-codes.false) c.put_cells.ensures
    (omega (arith, cells-long a.codes.now, i.if-numbers-codes.false)) in record { value = r.0; numbers_after = r.1 }
