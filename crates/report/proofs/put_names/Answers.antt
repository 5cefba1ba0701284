-- `report::put_names` meets its contract: one name more after each turn. Assumes nothing.
use Rattle.report.proofs.Laws.Put.{then-put}
use Rattle.report.proofs.Facts.{name-more, put_as}
use native.Mathlib.Omega.{arith}
use borrow.Author.Rules.{rules}
use Rattle.report.proofs.put_names.Goals as goal

pub loop-count-preserved : goal.loop-count-preserved
loop-count-preserved c =
    let l = c.loop-count in
    let a = c.args in
    let q = c.put_name_and-end.ensures in
    (put_as (name-more a.codes.now l.count (omega arith)) (then-put l.invariant.0 l.invariant.1 q.put), omega (arith, q.upper_bound), search rules)
