-- `writing::asked_refusal` meets its contract: the refusals in their order. Assumes nothing.
use mathlib.Core.Path.{◌≡◌, sym, ◌∙◌}
use Rattle.cell.specs.Cell.{arrangement_refusal}
use Rattle.cell.proofs.Laws.Cell.{is-arrangement}
use Rattle.writing.specs.Write.{codes_refusal}
use Rattle.writing.proofs.Internal.AskedLaws.{asked-five, asked-two, asked-four, asked-ten, asked-list}
use native.Mathlib.Omega.{arith}
use Rattle.writing.proofs.asked_refusal.Goals as goal
use Rattle.writing.proofs.asked_refusal.Goals.{Else-refused-eq4, Else-wrong-ne0}

-- past the tests of the arrangement, of the depth and of the codes
arranged : (c : Else-wrong-ne0) → arrangement_refusal c.args.arrangement ≡ 0
arranged c = sym c.refusal-wrong.ensures ∙ c.if-wrong-ne0.false

coded : (c : Else-refused-eq4) → let a = c.args in codes_refusal a.arrangement a.codes.now ≡ 4 → ⊥
coded c e = c.if-refused-eq4.false (c.list_refusal-refused.ensures ∙ e)

pub returns-then-wrong-ne0 : goal.returns-then-wrong-ne0
returns-then-wrong-ne0 c =
    let a = c.args in
    let e = c.refusal-wrong.ensures in
    sym (asked-five a.version a.depth a.arrangement a.codes.now (λ z. c.if-wrong-ne0.true (e ∙ z)) ∙ sym e)

pub returns-then-depth-gt15 : goal.returns-then-depth-gt15
returns-then-depth-gt15 c =
    let a = c.args in
    sym (asked-two a.version a.depth a.arrangement a.codes.now (arranged (goal.at.returns-then-depth-gt15 c).Else-wrong-ne0) (omega (arith, c.if-depth-gt15.true)))

pub list_refusal-refused-requires : goal.list_refusal-refused-requires
list_refusal-refused-requires c = is-arrangement (arranged (goal.at.list_refusal-refused-requires c).Else-wrong-ne0)

pub returns-then-refused-eq4 : goal.returns-then-refused-eq4
returns-then-refused-eq4 c =
    let a = c.args in
    sym (asked-four a.version a.depth a.arrangement a.codes.now (arranged (goal.at.returns-then-refused-eq4 c).Else-wrong-ne0) (omega (arith, c.if-depth-gt15.false))
    (sym c.list_refusal-refused.ensures ∙ c.if-refused-eq4.true))

pub returns-then-not-is_version : goal.returns-then-not-is_version
returns-then-not-is_version c =
    let a = c.args in
    sym (asked-ten a.version a.depth a.arrangement a.codes.now (arranged (goal.at.returns-then-not-is_version c).Else-wrong-ne0) (omega (arith, c.if-depth-gt15.false))
    (coded (goal.at.returns-then-not-is_version c).Else-refused-eq4) (sym c.is_version.ensures ∙ c.if-not-is_version.true))

pub returns : goal.returns
returns c =
    let a = c.args in
    c.list_refusal-refused.ensures
    ∙ sym (asked-list a.version a.depth a.arrangement a.codes.now (arranged (goal.at.returns c).Else-wrong-ne0) (omega (arith, c.if-depth-gt15.false))
    (coded (goal.at.returns c).Else-refused-eq4) (sym c.is_version.ensures ∙ c.if-not-is_version.false))
