-- `Cell::child` meets its contract. Assumes nothing.
use Rattle.std.specs.Prelude.{Ok}
use mathlib.Core.Path.{sym, ap, ◌∙◌}
use native.Mathlib.Omega.{arith}
use borrow.Author.Tests.{lt-ltb, le-ltb, eq-eqb, ne_eqb}
use Rattle.logic.specs.Refusal.{◌otherwise◌}
use Rattle.cell.specs.Cell.{IsCell, found}
use Rattle.cell.proofs.Laws.Cell.{is-cell}
use Rattle.cell.specs.Hierarchy.{child_refusal}
use Rattle.cell.proofs.Laws.Found.{refused, then}
use Rattle.cell.proofs.Cell.child.Goals as goal
use Rattle.cell.proofs.Cell.child.Goals.{Else-refusal-ne0}

cell_at : (c : Else-refusal-ne0) → IsCell c.args.self
cell_at c = is-cell (sym c.refusal-refusal.ensures ∙ c.if-refusal-ne0.false)

pub returns-then-refusal-ne0 : goal.returns-then-refusal-ne0
unfolding child_refusal
returns-then-refusal-ne0 c = refused _ _ c.refusal-refusal.ensures c.if-refusal-ne0.true

pub returns-then-digit-gt8 : goal.returns-then-digit-gt8
unfolding child_refusal found ◌otherwise◌
returns-then-digit-gt8 c = then _ _ c.refusal-refusal.ensures c.if-refusal-ne0.false (simp (lt-ltb _ _ c.if-digit-gt8.true))

pub returns-then-self-eq15 : goal.returns-then-self-eq15
unfolding child_refusal found ◌otherwise◌
returns-then-self-eq15 c =
    let f = c in
    then _ _ f.refusal-refusal.ensures f.if-refusal-ne0.false (simp (le-ltb _ _ c.if-digit-gt8.false, eq-eqb _ _ c.if-self-eq15.true))

pub child_cell-requires : goal.child_cell-requires
child_cell-requires c = record { cell = cell_at (goal.at.child_cell-requires c).Else-refusal-ne0; digit_bound = omega arith }

pub returns : goal.returns
unfolding child_refusal found ◌otherwise◌
returns c =
    let g = c in
    let f = g in
    then _ _ f.refusal-refusal.ensures f.if-refusal-ne0.false
    (rw (le-ltb _ _ g.if-digit-gt8.false, ne_eqb _ _ g.if-self-eq15.false) (ap Ok c.child_cell.ensures))
