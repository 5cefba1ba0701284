-- `districts::put_districts` meets its contract: one line more, or none, after each turn. Assumes nothing.
use Rattle.report.proofs.Laws.Put.{then-put}
use Rattle.districts.proofs.Lines.{put_as, lines_more}
use native.Mathlib.Omega.{arith}
use borrow.Author.Rules.{rules}
use Rattle.districts.proofs.put_districts.Goals as goal

pub loop-i-preserved : goal.loop-i-preserved
loop-i-preserved c =
    let s = c in
    let l = c.loop-i in
    let q = c.put_district-end.ensures in
    let e = lines_more s.args.counters.now l.i (omega (arith, s.requires.at_most_full.long)) in
    (put_as e (then-put l.invariant.0 (omega (arith, l.invariant.1, s.requires.in_bounds)) q.put), omega (arith, q.upper_bound, l.invariant.1), search rules)
