-- `sheet_parts::judge_file` meets its contract: the text's refusals come first. Assumes nothing.
use mathlib.Core.Path.{sym, ◌∙◌}
use Rattle.reader.specs.Laws.Answer.{TextChecked, checked-arrangement, text-checked, text-refused}
use Rattle.sheet_parts.proofs.Read.{text-judged, text-not-judged}
use Rattle.sheet_parts.proofs.judge_file.Goals as goal
use Rattle.sheet_parts.proofs.judge_file.Goals.{In-Ok}

-- the text was read
read-in :
    (c : In-Ok) →
    let t = c.args.text.now in
    TextChecked t c.in-Ok.checked.profile c.in-Ok.checked.arrangement.north c.in-Ok.checked.arrangement.south c.in-Ok.checked.cells c.in-Ok.checked.size c.in-Ok.checked.body
read-in c = text-checked _ (sym c.in-Ok.is ∙ c.check.ensures)

pub judge_parts-requires : goal.judge_parts-requires
judge_parts-requires c =
    let r = read-in (goal.at.judge_parts-requires c).In-Ok in
    record { text_value = (r.text, checked-arrangement r, r.start); part_nonzero = c.requires }

pub returns-in-Err : goal.returns-in-Err
returns-in-Err c =
    let a = c.args in
    let u = text-refused a.text.now (sym c.in-Err.is ∙ c.check.ensures) in
    text-not-judged a.text.now a.part.now u.refusal u.some u.place

pub returns-in-Ok : goal.returns-in-Ok
returns-in-Ok c = text-judged _ (read-in (goal.at.returns-in-Ok c).In-Ok).allowed c.judge_parts.ensures
