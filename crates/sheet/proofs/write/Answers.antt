-- `sheet::write` meets its contract: nothing is written before every test, and one part holds the whole sheet. Assumes nothing.
use Rattle.logic.specs.Laws.Answer.{handed-on}
use mathlib.Core.Path.{refl, sym, subst, ◌∙◌}
use lib.ListN.{length}
use Rattle.reader.specs.Laws.Answer.{TextChecked, checked-arrangement, text-checked, text-refused}
use Rattle.sheet.specs.Parts.{StandsAt}
use Rattle.sheet.proofs.Laws.Stands.{stands-start}
use Rattle.sheet.proofs.Answers.{sheet-long, short, enough, in_one, unread, nothing_written, all-written}
use native.Mathlib.Omega.{arith}
use Rattle.sheet.proofs.write.Goals as goal
use Rattle.sheet.proofs.write.Goals.{In_ok-checked}

-- the text was read
read-in :
    (c : In_ok-checked) →
    let t = c.args.text.now in
    TextChecked t c.in_ok-checked.checked.profile c.in_ok-checked.checked.arrangement.north c.in_ok-checked.checked.arrangement.south c.in_ok-checked.checked.cells c.in_ok-checked.checked.size c.in_ok-checked.checked.body
read-in c = text-checked _ (sym c.in_ok-checked.was ∙ c.check.ensures)

pub returns-then-buffer-cells : goal.returns-then-buffer-cells
returns-then-buffer-cells c =
    let r = read-in (goal.at.returns-then-buffer-cells c).In_ok-checked in
    let a = c.args in let r = nothing_written a.text.now _ a.buffer.now (short r (length a.buffer.now) c.if-buffer-cells.true) (λ z. omega arith) refl in record { value = r.0; buffer_after = r.1 }

pub put_part-requires : goal.put_part-requires
put_part-requires c =
    let r = read-in (goal.at.put_part-requires c).In_ok-checked in
    let t = c.args.text.now in
    (checked-arrangement r, subst (StandsAt t) (sym c.start.ensures) (stands-start t r.text r.start))

pub returns-in_err-checked : goal.returns-in_err-checked
returns-in_err-checked c =
    let a = c.args in
    let u = text-refused a.text.now (sym c.in_err-checked.was ∙ c.check.ensures) in let r = nothing_written a.text.now _ a.buffer.now (unread (length a.buffer.now) u) u.some u.place in record { value = handed-on _ c.from_residual.ensures.1 ∙ r.0; buffer_after = r.1 }

pub returns : goal.returns
returns c =
    let i = c in
    let r = read-in (goal.at.returns c).In_ok-checked in
    let a = i.args in
    let b = a.buffer.now in let r = all-written a.text.now b (enough r (length b) i.if-buffer-cells.false) (sym (sheet-long r))
    (in_one r b _ c.start.ensures c.put_part.ensures i.if-buffer-cells.false) in record { value = r.0; buffer_after = r.1 }
