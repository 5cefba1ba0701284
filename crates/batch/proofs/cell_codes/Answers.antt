-- `batch::cell_codes` meets its contract: nothing is put before the room is known to be enough. Assumes nothing.
use lib.ListN.{length}
use Rattle.batch.specs.Batch.{cells_in, codes_of}
use Rattle.batch.proofs.Laws.Batch.{codes-long}
use Rattle.batch.proofs.Batches.{refused-eight, answered, codes-short, codes-enough}
use native.Mathlib.Omega.{arith}
use Rattle.batch.proofs.cell_codes.Goals as goal

pub returns-then-codes-count : goal.returns-then-codes-count
returns-then-codes-count c =
    let a = c.args in let r = refused-eight (cells_in a.numbers.now) _ a.codes.now (codes-short a.numbers.now (length a.codes.now) c.if-codes-count.true) in record { value = r.0; codes_after = r.1 }

pub returns : goal.returns
returns c =
    let i = c in
    let a = i.args in let r = answered (cells_in a.numbers.now) (codes_of a.numbers.now) a.codes.now (codes-enough a.numbers.now (length a.codes.now) i.if-codes-count.false) c.put_codes.ensures
    (omega (arith, codes-long a.numbers.now, i.if-codes-count.false)) in record { value = r.0; codes_after = r.1 }
