-- `batch::coded_by` meets its contract, which is that of `code::coded_cell`. Assumes nothing.
use mathlib.Core.Path.{◌≡◌, sym, ◌∙◌}
use Rattle.logic.specs.Laws.Refusal.{stops, passes}
use Rattle.cell.specs.Cell.{IsCell, arrangement_refusal}
use Rattle.cell.proofs.Laws.Cell.{is-cell, is-arrangement, row_small, column-small}
use Rattle.code.proofs.Laws.Code.{path-small}
use Rattle.code.proofs.Laws.Coded.{refused, answered}
use Rattle.batch.proofs.Fifteen.{path-fifteen, woven-code}
use Rattle.batch.proofs.coded_by.Goals as goal
use Rattle.batch.proofs.coded_by.Goals.{Else-refusal-ne0, Else-unarranged-ne0}

-- nothing is wrong with the arrangement
passed : (c : Else-unarranged-ne0) → arrangement_refusal c.args.arrangement ≡ 0
passed c = sym c.refusal-unarranged.ensures ∙ c.if-unarranged-ne0.false

-- nor with the cell
good : (c : Else-refusal-ne0) → IsCell c.args.cell
good c = is-cell (sym c.refusal-refusal.ensures ∙ c.if-refusal-ne0.false)

pub returns-then-unarranged-ne0 : goal.returns-then-unarranged-ne0
returns-then-unarranged-ne0 c =
    let e = c.refusal-unarranged.ensures in
    refused _ (e ∙ sym (stops _ _ (λ z. c.if-unarranged-ne0.true (e ∙ z)))) c.if-unarranged-ne0.true

pub returns-then-refusal-ne0 : goal.returns-then-refusal-ne0
returns-then-refusal-ne0 c = refused _ (c.refusal-refusal.ensures ∙ sym (passes _ (passed (goal.at.returns-then-refusal-ne0 c).Else-unarranged-ne0))) c.if-refusal-ne0.true

pub woven_by-path-requires : goal.woven_by-path-requires
woven_by-path-requires c = (c.requires, row_small (good (goal.at.woven_by-path-requires c).Else-refusal-ne0), column-small (good (goal.at.woven_by-path-requires c).Else-refusal-ne0))

pub code_at-requires : goal.code_at-requires
code_at-requires c =
    let f = c in
    let v = good (goal.at.code_at-requires c).Else-refusal-ne0 in
    let x = f.args.cell in
    record { arrangement = is-arrangement (passed (goal.at.code_at-requires c).Else-unarranged-ne0); face_bound = (v.faced, v.fine, rw (c.woven_by-path.ensures ∙ path-fifteen x v) (path-small x)) }

pub returns : goal.returns
returns c =
    let f = c in
    let a = f.args in
    answered (f.refusal-refusal.ensures ∙ sym (passes _ (passed (goal.at.returns c).Else-unarranged-ne0))) f.if-refusal-ne0.false
    (c.code_at.ensures ∙ woven-code a.cell (good (goal.at.returns c).Else-refusal-ne0) a.arrangement c.woven_by-path.ensures)
