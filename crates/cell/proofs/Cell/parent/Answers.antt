-- `Cell::parent` meets its contract. Assumes nothing.
use Rattle.std.specs.Prelude.{Ok}
use mathlib.Core.Path.{ap}
use borrow.Author.Tests.{eq-eqb, ne_eqb}
use Rattle.cell.specs.Cell.{found}
use Rattle.cell.specs.Hierarchy.{parent_refusal}
use Rattle.cell.proofs.Laws.Found.{refused, then}
use Rattle.cell.proofs.Cell.parent.Goals as goal

pub returns-then-refusal-ne0 : goal.returns-then-refusal-ne0
unfolding parent_refusal
returns-then-refusal-ne0 c = refused _ _ c.refusal-refusal.ensures c.if-refusal-ne0.true

pub returns-then-self-eq0 : goal.returns-then-self-eq0
unfolding parent_refusal found
returns-then-self-eq0 c = then _ _ c.refusal-refusal.ensures c.if-refusal-ne0.false (simp (eq-eqb _ _ c.if-self-eq0.true))

pub returns : goal.returns
unfolding parent_refusal found
returns c =
    let q = c in
    then _ _ q.refusal-refusal.ensures q.if-refusal-ne0.false
    (rw (ne_eqb _ _ q.if-self-eq0.false) (ap Ok c.parent_cell.ensures))
