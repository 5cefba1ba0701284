-- `jgv_child` meets its contract. Assumes nothing.
use native.Mathlib.Omega.{arith}
use mathlib.Core.Path.{◌≡◌, sym, ap, ap₂, ◌∙◌, subst}
use mathlib.Core.Bool.{Bool}
use lib.Dec.{ltb}
use borrow.Author.Tests.{lt-ltb, le-ltb, eq-eqb, ne_eqb}
use Rattle.logic.specs.Refusal.{refuse, ◌otherwise◌}
use Rattle.logic.specs.Laws.Refusal.{passes}
use Rattle.cell.specs.declared.Cell.{Cell}
use Rattle.cell.specs.Cell.{IsCell}
use Rattle.cell.specs.Hierarchy.{child_of, child_refusal}
use Rattle.cell.proofs.Laws.Hierarchy.{child-is-cell}
use Rattle.code.specs.Code.{coded, code_of, arrangement_of}
use Rattle.code.proofs.Laws.Decoded.{decoded, undecoded}
use Rattle.entries.specs.Entries.{code_answer, child_code}
use Rattle.jeguarivo.proofs.Laws.{four-first, code-refused, next-code, cell-next}
use Rattle.jeguarivo.proofs.jgv_child.Goals as goal
use Rattle.jeguarivo.proofs.jgv_child.Goals.{Else-digit-gt8}

-- the digit names a child
named : (c : Else-digit-gt8) → refuse (ltb 8 c.args.digit) 3 ≡ 0
named c = ap (λ (b : Bool). refuse b 3) (le-ltb _ _ c.if-digit-gt8.false)

pub returns-then-digit-gt8 : goal.returns-then-digit-gt8
unfolding child_code code_answer coded ◌otherwise◌
returns-then-digit-gt8 c = simp (lt-ltb _ _ c.if-digit-gt8.true)

pub returns-in_default : goal.returns-in_default
unfolding child_code
returns-in_default c =
    let u = c in
    code-refused _ (four-first _ (undecoded _ u.cell_of.ensures c.in_default.is)) (λ z. omega arith)
    ∙ next-code _ _ (named (goal.at.returns-in_default c).Else-digit-gt8)

pub returns-then-cell-eq15 : goal.returns-then-cell-eq15
unfolding child_code child_refusal
returns-then-cell-eq15 c =
    let x = c in
    let u = x in
    let d = decoded _ u.cell_of.ensures x.in-Ok.is in
    let finest = ap (λ (b : Bool). refuse b 12) (eq-eqb _ _ (ap (λ (y : Cell). y.resolution) (sym d.is) ∙ c.if-cell-eq15.true)) in
    code-refused _ (sym (passes _ (named (goal.at.returns-then-cell-eq15 c).Else-digit-gt8) ∙ cell-next d _ ∙ passes _ (named (goal.at.returns-then-cell-eq15 c).Else-digit-gt8) ∙ finest)) (λ z. omega arith)

pub child_cell-requires : goal.child_cell-requires
child_cell-requires c =
    let x = c in
    record { cell = (decoded _ x.cell_of.ensures x.in-Ok.is).cell; digit_bound = x.if-digit-gt8.false }

pub kept-requires : goal.kept-requires
kept-requires c =
    let x = c in
    let d = decoded _ x.cell_of.ensures x.in-Ok.is in
    subst IsCell (sym c.child_cell.ensures) (child-is-cell _ _ d.cell (omega (arith, d.cell.fine, c.if-cell-eq15.false)) x.if-digit-gt8.false)

pub returns : goal.returns
unfolding child_code child_refusal
returns c =
    let t = c in
    let x = t in
    let u = x in
    let a = u.args in
    let d = decoded a.code u.cell_of.ensures x.in-Ok.is in
    let finest = ap (λ (b : Bool). refuse b 12) (ne_eqb _ _ (λ z. t.if-cell-eq15.false (ap (λ (y : Cell). y.resolution) d.is ∙ z))) in
    c.kept.ensures
    ∙ ap₂ code_answer (sym (passes _ (named (goal.at.returns c).Else-digit-gt8) ∙ cell-next d _ ∙ passes _ (named (goal.at.returns c).Else-digit-gt8) ∙ finest))
    (ap (code_of (arrangement_of a.code)) (c.child_cell.ensures ∙ ap (λ (y : Cell). child_of y a.digit) d.is))
