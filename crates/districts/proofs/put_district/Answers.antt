-- `districts::put_district` meets its contract: name, count and share one behind the other. Assumes nothing.
use Rattle.report.proofs.Laws.Put.{then-put}
use Rattle.districts.proofs.Lines.{put_as, put-nothing, no_line, a-line}
use native.Mathlib.Omega.{arith}
use Rattle.districts.proofs.put_district.Goals as goal

pub returns-then-count-eq0 : goal.returns-then-count-eq0
returns-then-count-eq0 c =
    let a = c.args in record { put = put_as (no_line a.number a.count c.if-count-eq0.true) (put-nothing a.at a.out.now); upper_bound = omega arith }

pub returns : goal.returns
returns c =
    let n3 = c.put_share.ensures in
    let n2 = c.put_number-counted.ensures in
    let n1 = c.put_name_and-named.ensures in
    let rest = then-put n2.put (omega (arith, n2.upper_bound, n1.upper_bound, c.requires.at_in_bounds)) n3.put in
    let line = then-put n1.put (omega (arith, n1.upper_bound, c.requires.at_in_bounds)) rest in record { put = put_as (a-line c.args.number c.args.count c.requires.arrangement c.requires.number_bound.0 c.code_as-code.ensures c.if-count-eq0.false) line; upper_bound = omega (arith, n3.upper_bound, n2.upper_bound, n1.upper_bound) }
