-- `asking::ask` meets its contract. Assumes nothing.
use Rattle.logic.specs.Laws.Answer.{handed-on}
use mathlib.Core.Path.{◌≡◌, sym, subst, ◌∙◌}
use mathlib.Core.Bool.{true}
use Rattle.cell.specs.Cell.{IsArrangement}
use Rattle.code.specs.Code.{is_code}
use Rattle.code.proofs.Laws.Code.{code-passes, code-stops, of-arrangement}
use Rattle.reading.proofs.Laws.TextReading.{text-arranged}
use Rattle.reader.specs.Laws.Answer.{TextChecked, checked-arrangement, text-checked, text-refused}
use Rattle.asking.proofs.Answers.{no_code, not-read, another, answered}
use Rattle.asking.proofs.ask.Goals as goal
use Rattle.asking.proofs.ask.Goals.{Else-not-is_code, In_ok-checked}

-- the code is a cell's where the first test let it pass
a-code : (c : Else-not-is_code) → is_code c.args.code ≡ true
a-code c = sym c.is_code.ensures ∙ c.if-not-is_code.false

-- the text was read
read-in :
    (c : In_ok-checked) →
    let t = c.args.text.now in
    TextChecked t c.in_ok-checked.checked.profile c.in_ok-checked.checked.arrangement.north c.in_ok-checked.checked.arrangement.south c.in_ok-checked.checked.cells c.in_ok-checked.checked.size c.in_ok-checked.checked.body
read-in c = text-checked _ (sym c.in_ok-checked.was ∙ c.check.ensures)

pub returns-then-not-is_code : goal.returns-then-not-is_code
returns-then-not-is_code c =
    let a = c.args in
    no_code a.text.now a.code (code-stops a.code (sym c.is_code.ensures ∙ c.if-not-is_code.true))

pub is_of-requires : goal.is_of-requires
is_of-requires c =
    let r = read-in (goal.at.is_of-requires c).In_ok-checked in
    subst IsArrangement (sym (checked-arrangement r)) (text-arranged _ r.text)

pub returns-then-not-is_of : goal.returns-then-not-is_of
returns-then-not-is_of c =
    let n = c in
    let t = n in
    let a = t.args in
    another a.text.now a.code (code-passes a.code (a-code (goal.at.returns-then-not-is_of c).Else-not-is_code)) (read-in (goal.at.returns-then-not-is_of c).In_ok-checked) (sym c.is_of.ensures ∙ c.if-not-is_of.true)

pub answered-requires : goal.answered-requires
answered-requires c =
    let o = c in
    let n = o in
    let r = read-in (goal.at.answered-requires c).In_ok-checked in
    let a = n.args in
    (r.text, r.start, a-code (goal.at.answered-requires c).Else-not-is_code, of-arrangement _ a.code (sym o.is_of.ensures ∙ c.if-not-is_of.false) ∙ checked-arrangement r)

pub returns-in_err-checked : goal.returns-in_err-checked
returns-in_err-checked c =
    let k = c in
    let a = k.args in
    handed-on _ c.from_residual.ensures.1 ∙ not-read a.text.now a.code (code-passes a.code (a-code (goal.at.returns-in_err-checked c).Else-not-is_code)) (text-refused a.text.now (sym c.in_err-checked.was ∙ k.check.ensures))

pub returns : goal.returns
returns c =
    let o = c in
    let n = o in
    let t = n in
    let a = t.args in
    c.answered.ensures ∙ answered a.text.now a.code (code-passes a.code (a-code (goal.at.returns c).Else-not-is_code)) (read-in (goal.at.returns c).In_ok-checked) (sym o.is_of.ensures ∙ c.if-not-is_of.false)
