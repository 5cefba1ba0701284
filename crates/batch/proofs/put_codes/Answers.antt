-- `batch::put_codes` meets its contract: before each cell the codes put, and those still to be put, are the whole. Assumes nothing.
use native.Mathlib.Omega.{arith}
use Rattle.batch.proofs.Batches.{codes-start, codes-on, codes-end}
use Rattle.batch.proofs.put_codes.Goals as goal

pub loop-init : goal.loop-init
loop-init c = (omega arith, codes-start c.requires.1)

pub loop-preserved : goal.loop-preserved
loop-preserved c =
    let l = c.loop in
    (omega (arith, l.invariant.0), codes-on l.invariant.1 (omega (arith, l.invariant.0)) c.put_at.ensures)

pub returns : goal.returns
returns c = codes-end c.loop.invariant.1 (omega (arith, c.loop.invariant.0))
