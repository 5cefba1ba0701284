-- `sheet::check` meets its contract: the text's refusals come first. Assumes nothing.
use mathlib.Core.Path.{sym, ◌∙◌}
use Rattle.reader.specs.Laws.Answer.{TextChecked, checked-arrangement, text-checked, text-refused}
use Rattle.sheet.proofs.Answers.{judged-text, judged-refused}
use Rattle.sheet.proofs.check.Goals as goal
use Rattle.sheet.proofs.check.Goals.{In-Ok}

-- the text was read
read-in :
    (c : In-Ok) →
    let t = c.args.text.now in
    TextChecked t c.in-Ok.checked.profile c.in-Ok.checked.arrangement.north c.in-Ok.checked.arrangement.south c.in-Ok.checked.cells c.in-Ok.checked.size c.in-Ok.checked.body
read-in c = text-checked _ (sym c.in-Ok.is ∙ c.check.ensures)

pub judge-requires : goal.judge-requires
judge-requires c = let r = read-in (goal.at.judge-requires c).In-Ok in (r.text, checked-arrangement r, r.start)

pub returns-in-Err : goal.returns-in-Err
returns-in-Err c =
    let a = c.args in
    judged-refused a.sheet.now (text-refused a.text.now (sym c.in-Err.is ∙ c.check.ensures))

pub returns-in-Ok : goal.returns-in-Ok
returns-in-Ok c = judged-text c.args.sheet.now (read-in (goal.at.returns-in-Ok c).In-Ok) c.judge.ensures
