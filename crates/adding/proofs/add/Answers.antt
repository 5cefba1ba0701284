-- `adding::add` meets its contract. Assumes nothing.
use Rattle.logic.specs.Laws.Answer.{handed-on}
use mathlib.Core.Path.{◌≡◌, sym, subst, ◌∙◌}
use mathlib.Core.Bool.{true}
use lib.ListN.{take}
use Rattle.cell.specs.Cell.{IsArrangement}
use Rattle.code.specs.Code.{is_code}
use Rattle.code.proofs.Laws.Code.{code-passes, code-stops}
use Rattle.reading.proofs.Laws.TextReading.{text-arranged}
use Rattle.reader.specs.Laws.Answer.{TextChecked, checked-arrangement, text-checked, text-refused}
use Rattle.adding.proofs.Answers.{no_code, too_long, not-lent, not-read, another, gained}
use native.Mathlib.Omega.{arith}
use Rattle.adding.proofs.add.Goals as goal
use Rattle.adding.proofs.add.Goals.{Else-not-is_code, In_ok-checked}

-- the code is a cell's where the first test let it pass
a-code : (c : Else-not-is_code) → is_code c.args.code ≡ true
a-code c = sym c.is_code.ensures ∙ c.if-not-is_code.false

-- the text was read
read-in :
    (c : In_ok-checked) →
    let a = c.args in
    TextChecked (take a.end a.text.now) c.in_ok-checked.checked.profile c.in_ok-checked.checked.arrangement.north c.in_ok-checked.checked.arrangement.south c.in_ok-checked.checked.cells c.in_ok-checked.checked.size c.in_ok-checked.checked.body
read-in c = text-checked _ (sym c.in_ok-checked.was ∙ c.check.ensures)

pub returns-then-not-is_code : goal.returns-then-not-is_code
returns-then-not-is_code c =
    let a = c.args in let r = no_code a.text.now a.end a.code c.refused.ensures (code-stops a.code (sym c.is_code.ensures ∙ c.if-not-is_code.true)) in record { value = r.0; text_after = r.1 }

pub returns-then-end-gt-LONGEST : goal.returns-then-end-gt-LONGEST
returns-then-end-gt-LONGEST c =
    let a = c.args in let r = too_long a.text.now a.end a.code (code-passes a.code (a-code (goal.at.returns-then-end-gt-LONGEST c).Else-not-is_code)) c.refused-then-end-gt-LONGEST.ensures (omega (arith, c.if-end-gt-LONGEST.true)) in record { value = r.0; text_after = r.1 }

pub returns-then-end-text : goal.returns-then-end-text
returns-then-end-text c =
    let a = c.args in let r = not-lent a.text.now a.end a.code (code-passes a.code (a-code (goal.at.returns-then-end-text c).Else-not-is_code)) (omega (arith, c.if-end-gt-LONGEST.false)) c.refused-then-end-text.ensures
    (omega (arith, c.if-end-text.true)) in record { value = r.0; text_after = r.1 }

pub is_of-requires : goal.is_of-requires
is_of-requires c =
    let r = read-in (goal.at.is_of-requires c).In_ok-checked in
    subst IsArrangement (sym (checked-arrangement r)) (text-arranged _ r.text)

pub returns-then-not-is_of : goal.returns-then-not-is_of
returns-then-not-is_of c =
    let p = c in
    let a = c.args in let r = another a.text.now a.end a.code (code-passes a.code (a-code (goal.at.returns-then-not-is_of c).Else-not-is_code))
    (omega (arith, c.if-end-gt-LONGEST.false))
    (omega (arith, c.if-end-text.false))
    (read-in (goal.at.returns-then-not-is_of c).In_ok-checked) c.refused-then-not-is_of.ensures (sym c.is_of.ensures ∙ c.if-not-is_of.true) in record { value = r.0; text_after = r.1 }

pub add_to-requires : goal.add_to-requires
add_to-requires c =
    let r = read-in (goal.at.add_to-requires c).In_ok-checked in (
      record {
        fits = omega (arith, c.if-end-text.false);
        small = omega
            (arith, c.if-end-gt-LONGEST.false);
        text = r.text;
        profiled = sym r.profile;
      },
      a-code (goal.at.add_to-requires c).Else-not-is_code,
    )

pub returns-in_err-checked : goal.returns-in_err-checked
returns-in_err-checked c =
    let a = c.args in let r = not-read a.text.now a.end a.code (code-passes a.code (a-code (goal.at.returns-in_err-checked c).Else-not-is_code))
    (omega (arith, c.if-end-gt-LONGEST.false)) (omega (arith, c.if-end-text.false))
    (text-refused (take a.end a.text.now) (sym c.in_err-checked.was ∙ c.check.ensures)) in record { value = handed-on _ c.from_residual.ensures.1 ∙ r.0; text_after = r.1 }

pub returns : goal.returns
returns c =
    let a = c.args in let r = gained a.text.now a.end a.code (code-passes a.code
    (a-code (goal.at.returns c).Else-not-is_code))
    (omega (arith, c.if-end-gt-LONGEST.false))
    (omega (arith, c.if-end-text.false))
    (read-in (goal.at.returns c).In_ok-checked)
    (sym c.is_of.ensures ∙ c.if-not-is_of.false) c.add_to.ensures.gains in record { value = r.0; text_after = r.1 }
