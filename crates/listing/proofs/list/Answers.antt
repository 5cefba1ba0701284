-- `listing::list` meets its contract: nothing is written before every test. Assumes nothing.
use Rattle.logic.specs.Laws.Answer.{handed-on}
use mathlib.Core.Path.{refl, sym, ◌∙◌}
use lib.ListN.{length}
use Rattle.listing.specs.List.{codes_in}
use Rattle.reader.specs.Laws.Answer.{TextChecked, checked-arrangement, text-checked, text-refused}
use Rattle.listing.proofs.Answers.{counted, short, enough, unread, nothing-listed, all_listed}
use native.Mathlib.Omega.{arith}
use Rattle.listing.proofs.list.Goals as goal
use Rattle.listing.proofs.list.Goals.{In_ok-checked}

-- the text was read
read-in :
    (c : In_ok-checked) →
    let t = c.args.text.now in
    TextChecked t c.in_ok-checked.checked.profile c.in_ok-checked.checked.arrangement.north c.in_ok-checked.checked.arrangement.south c.in_ok-checked.checked.cells c.in_ok-checked.checked.size c.in_ok-checked.checked.body
read-in c = text-checked _ (sym c.in_ok-checked.was ∙ c.check.ensures)

pub returns-then-codes-cells : goal.returns-then-codes-cells
returns-then-codes-cells c =
    let r = read-in (goal.at.returns-then-codes-cells c).In_ok-checked in
    let a = c.args in let r = nothing-listed a.text.now _ a.codes.now (short r (length a.codes.now) c.if-codes-cells.true) (λ z. omega arith) refl in record { value = r.0; codes_after = r.1 }

pub put_codes-requires : goal.put_codes-requires
put_codes-requires c =
    let r = read-in (goal.at.put_codes-requires c).In_ok-checked in
    let e = counted r in
    (r.text, checked-arrangement r, r.start, omega arith)

pub returns-in_err-checked : goal.returns-in_err-checked
returns-in_err-checked c =
    let a = c.args in
    let u = text-refused a.text.now (sym c.in_err-checked.was ∙ c.check.ensures) in let r = nothing-listed a.text.now _ a.codes.now (unread (length a.codes.now) u) u.some u.place in record { value = handed-on _ c.from_residual.ensures.1 ∙ r.0; codes_after = r.1 }

pub returns : goal.returns
unfolding codes_in
returns c =
    let w = c in
    let r = read-in (goal.at.returns c).In_ok-checked in
    let a = w.args in let r = all_listed a.text.now a.codes.now (enough r (length a.codes.now) w.if-codes-cells.false) (counted r) w.put_codes.ensures in record { value = r.0; codes_after = r.1 }
