-- `code::coded_cell` meets its contract. Assumes nothing.
use mathlib.Core.Path.{◌≡◌, sym, ◌∙◌}
use Rattle.logic.specs.Laws.Refusal.{stops, passes}
use Rattle.cell.specs.Cell.{arrangement_refusal}
use Rattle.cell.proofs.Laws.Cell.{is-cell, is-arrangement}
use Rattle.code.proofs.Laws.Coded.{refused, answered}
use Rattle.code.proofs.coded_cell.Goals as goal
use Rattle.code.proofs.coded_cell.Goals.{Else-unarranged-ne0}

-- nothing is wrong with the arrangement
passed : (c : Else-unarranged-ne0) → arrangement_refusal c.args.arrangement ≡ 0
passed c = sym c.refusal-unarranged.ensures ∙ c.if-unarranged-ne0.false

pub returns-then-unarranged-ne0 : goal.returns-then-unarranged-ne0
returns-then-unarranged-ne0 c =
    let e = c.refusal-unarranged.ensures in
    refused _ (e ∙ sym (stops _ _ (λ z. c.if-unarranged-ne0.true (e ∙ z)))) c.if-unarranged-ne0.true

pub returns-then-refusal-ne0 : goal.returns-then-refusal-ne0
returns-then-refusal-ne0 c = refused _ (c.refusal-refusal.ensures ∙ sym (passes _ (passed (goal.at.returns-then-refusal-ne0 c).Else-unarranged-ne0))) c.if-refusal-ne0.true

pub code_of-requires : goal.code_of-requires
code_of-requires c =
    record { arrangement = is-arrangement (passed (goal.at.code_of-requires c).Else-unarranged-ne0); cell = is-cell (sym c.refusal-refusal.ensures ∙ c.if-refusal-ne0.false) }

pub returns : goal.returns
returns c =
    let f = c in
    answered (f.refusal-refusal.ensures ∙ sym (passes _ (passed (goal.at.returns c).Else-unarranged-ne0))) f.if-refusal-ne0.false c.code_of.ensures
