-- `put_number` meets its contract: the byte stands where the number ends. Assumes nothing.
use Rattle.decimal.specs.Decimal.{printed}
use Rattle.report.proofs.Laws.Put.{then-byte}
use native.Mathlib.Omega.{arith}
use Rattle.report.proofs.put_number.Goals as goal

pub returns : goal.returns
returns c =
    let a = c.args in
    let q = c.put_whole-end.ensures in record { put = then-byte a.at (printed a.x) a.out.now a.byte q.value q.out_after (omega (arith, q.upper_bound)); upper_bound = omega (arith, q.upper_bound) }
