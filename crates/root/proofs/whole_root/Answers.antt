-- `root::whole_root` meets its contract: the guess stays at or above the root and falls to it. Assumes nothing.
use native.Mathlib.Omega.{arith}
use Rattle.root.proofs.Newton.{newton_above, newton_below, square-pos}
use Rattle.root.proofs.whole_root.Goals as goal

pub loop-r-preserved : goal.loop-r-preserved
loop-r-preserved c =
    let radicand = c.args.radicand in
    let r = c.loop-r.r in
    let h = newton_below radicand r c.loop-r-test.true in
    (newton_above radicand r (square-pos radicand r c.loop-r-test.true), omega arith)
