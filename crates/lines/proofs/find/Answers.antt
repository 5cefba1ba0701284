-- Assumes nothing.
use Rattle.std.proofs.Common.{sym, ◌∙◌}
use native.Mathlib.Omega.{arith}
use borrow.Author.Tests.{eq-eqb, ne_eqb}
use Rattle.lines.proofs.Laws.{passed_over, found_there, found_nowhere}
use Rattle.lines.proofs.find.Goals as goal

pub returns-then-part-i-clause-place : goal.returns-then-part-i-clause-place
returns-then-part-i-clause-place c =
    sym (c.loop-i.invariant ∙ found_there c.args.part.now c.loop-i.i c.args.byte (omega arith) (eq-eqb _ c.args.byte c.if-part-i.true))

pub loop-i-preserved : goal.loop-i-preserved
loop-i-preserved c = c.loop-i.invariant ∙ passed_over c.args.part.now c.loop-i.i c.args.byte (omega arith) (ne_eqb _ c.args.byte c.if-part-i.false)

pub returns-clause-place : goal.returns-clause-place
returns-clause-place c =
    let n = found_nowhere c.args.part.now c.loop-i.i c.args.byte (omega arith) in
    omega (arith, n, c.loop-i.invariant)
