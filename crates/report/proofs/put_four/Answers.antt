-- `put_four` meets its contract: four numbers one behind the other. Assumes nothing.
use Rattle.report.proofs.Laws.Put.{then-put}
use native.Mathlib.Omega.{arith}
use Rattle.report.proofs.put_four.Goals as goal

pub returns : goal.returns
returns c =
    let n4 = c.put_number.ensures in
    let c3 = c in
    let n3 = c3.put_number-fourth.ensures in
    let c2 = c3 in
    let n2 = c2.put_number-third.ensures in
    let c1 = c2 in
    let n1 = c1.put_number-second.ensures in
    let rest3 = then-put n3.put (omega (arith, n3.upper_bound, n2.upper_bound, n1.upper_bound)) n4.put in
    let rest2 = then-put n2.put (omega (arith, n2.upper_bound, n1.upper_bound)) rest3 in record { put = then-put n1.put (omega (arith, n1.upper_bound)) rest2; upper_bound = omega (arith, n4.upper_bound, n3.upper_bound, n2.upper_bound, n1.upper_bound) }
