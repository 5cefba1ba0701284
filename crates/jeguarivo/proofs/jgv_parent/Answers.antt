-- `jgv_parent` meets its contract. Assumes nothing.
use native.Mathlib.Omega.{arith}
use mathlib.Core.Path.{sym, ap, ap₂, ◌∙◌, subst}
use mathlib.Core.Bool.{Bool}
use borrow.Author.Tests.{eq-eqb, ne_eqb}
use Rattle.logic.specs.Refusal.{refuse}
use Rattle.cell.specs.declared.Cell.{Cell}
use Rattle.cell.specs.Cell.{IsCell}
use Rattle.cell.specs.Hierarchy.{parent_of, parent_refusal}
use Rattle.cell.proofs.Laws.Hierarchy.{parent-is-cell}
use Rattle.code.specs.Code.{code_of, arrangement_of}
use Rattle.code.proofs.Laws.Decoded.{decoded, undecoded}
use Rattle.entries.specs.Entries.{code_answer, parent_code}
use Rattle.jeguarivo.proofs.Laws.{four-first, code-refused, cell-next}
use Rattle.jeguarivo.proofs.jgv_parent.Goals as goal

pub returns-in_default : goal.returns-in_default
unfolding parent_code
returns-in_default c = code-refused _ (four-first _ (undecoded _ c.cell_of.ensures c.in_default.is)) (λ z. omega arith)

pub returns-then-cell-eq0 : goal.returns-then-cell-eq0
unfolding parent_code parent_refusal
returns-then-cell-eq0 c =
    let x = c in
    let d = decoded _ x.cell_of.ensures x.in-Ok.is in
    let face = ap (λ (b : Bool). refuse b 12) (eq-eqb _ _ (ap (λ (y : Cell). y.resolution) (sym d.is) ∙ c.if-cell-eq0.true)) in
    code-refused _ (sym (cell-next d _ ∙ face)) (λ z. omega arith)

pub kept-requires : goal.kept-requires
kept-requires c =
    let x = c in
    let d = decoded _ x.cell_of.ensures x.in-Ok.is in
    subst IsCell (sym c.parent_cell.ensures) (parent-is-cell _ d.cell (omega (arith, c.if-cell-eq0.false)))

pub returns : goal.returns
unfolding parent_code parent_refusal
returns c =
    let t = c in
    let x = t in
    let code = x.args.code in
    let d = decoded code x.cell_of.ensures x.in-Ok.is in
    let face = ap (λ (b : Bool). refuse b 12) (ne_eqb _ _ (λ z. t.if-cell-eq0.false (ap (λ (y : Cell). y.resolution) d.is ∙ z))) in
    c.kept.ensures ∙ ap₂ code_answer (sym (cell-next d _ ∙ face)) (ap (code_of (arrangement_of code)) (c.parent_cell.ensures ∙ ap parent_of d.is))
