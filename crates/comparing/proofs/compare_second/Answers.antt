-- `comparing::compare_second` meets its contract. Assumes nothing.
use Rattle.logic.specs.Laws.Answer.{handed-on}
use mathlib.Core.Path.{sym, ◌∙◌}
use Rattle.reader.specs.Laws.Answer.{TextChecked, text-checked, text-refused}
use Rattle.comparing.proofs.Answers.{second-refused, other-north, other-south, same-arrangement, was_read}
use Rattle.comparing.proofs.compare_second.Goals as goal
use Rattle.comparing.proofs.compare_second.Goals.{In_ok-checked}

-- the text was read
read-in :
    (c : In_ok-checked) →
    let t = c.args.second.now in
    TextChecked t c.in_ok-checked.checked.profile c.in_ok-checked.checked.arrangement.north c.in_ok-checked.checked.arrangement.south c.in_ok-checked.checked.cells c.in_ok-checked.checked.size c.in_ok-checked.checked.body
read-in c = text-checked _ (sym c.in_ok-checked.was ∙ c.check.ensures)

pub returns-then-arrangement-checked : goal.returns-then-arrangement-checked
returns-then-arrangement-checked c =
    let r = c in
    other-north r.requires (read-in (goal.at.returns-then-arrangement-checked c).In_ok-checked) c.if-arrangement-checked.true

pub returns-then-arrangement-checked-2 : goal.returns-then-arrangement-checked-2
returns-then-arrangement-checked-2 c =
    let r = c in
    other-south r.requires (read-in (goal.at.returns-then-arrangement-checked-2 c).In_ok-checked) c.if-arrangement-checked-2.true

pub list_both-requires : goal.list_both-requires
list_both-requires c =
    let w = c in
    let p = w.requires in
    let r = read-in (goal.at.list_both-requires c).In_ok-checked in
    (p, was_read r, same-arrangement p r c.if-arrangement-checked.false c.if-arrangement-checked-2.false)

pub returns-in_err-checked : goal.returns-in_err-checked
returns-in_err-checked c =
    let k = c in
    let e = handed-on _ c.from_residual.ensures.1 in
    rw e (second-refused k.requires.allowed (text-refused _ (sym c.in_err-checked.was ∙ k.check.ensures)))
