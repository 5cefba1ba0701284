-- `adding::close_gap` meets its contract. Assumes nothing.
use Rattle.adding.proofs.Moves.{closed-long, closed-more}
use Rattle.adding.proofs.close_gap.Goals as goal

pub loop-i-preserved : goal.loop-i-preserved
loop-i-preserved c =
    let l = c.loop-i in
    let a = c.args in
    let n = closed-more a.text.now a.from a.to a.count l.invariant.0 l.invariant.1 l.text l.i c.loop-i-test.true l.invariant.3 in
    (l.invariant.0, l.invariant.1, closed-long a.text.now a.from a.to a.count l.invariant.0 l.invariant.1 n, n)
