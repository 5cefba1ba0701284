-- `comparing::compare` meets its contract: the first text is read first. Assumes nothing.
use Rattle.logic.specs.Laws.Answer.{handed-on}
use mathlib.Core.Path.{sym, ◌∙◌}
use Rattle.reader.specs.Laws.Answer.{TextChecked, text-checked, text-refused}
use Rattle.comparing.proofs.Answers.{first-refused, was_read}
use Rattle.comparing.proofs.compare.Goals as goal
use Rattle.comparing.proofs.compare.Goals.{In_ok-checked}

-- the text was read
read-in :
    (c : In_ok-checked) →
    let t = c.args.first.now in
    TextChecked t c.in_ok-checked.checked.profile c.in_ok-checked.checked.arrangement.north c.in_ok-checked.checked.arrangement.south c.in_ok-checked.checked.cells c.in_ok-checked.checked.size c.in_ok-checked.checked.body
read-in c = text-checked _ (sym c.in_ok-checked.was ∙ c.check.ensures)

pub compare_second-requires : goal.compare_second-requires
compare_second-requires c = was_read (read-in (goal.at.compare_second-requires c).In_ok-checked)

pub returns-in_err-checked : goal.returns-in_err-checked
returns-in_err-checked c =
    let e = handed-on _ c.from_residual.ensures.1 in rw e (first-refused (text-refused _ (sym c.in_err-checked.was ∙ c.check.ensures)))
