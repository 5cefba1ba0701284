-- `sheet_parts::put_sheet` meets its contract: the text's refusals come first. Assumes nothing.
use mathlib.Core.Path.{sym, ◌∙◌}
use Rattle.reader.specs.Laws.Answer.{TextChecked, checked-arrangement, text-checked, text-refused}
use Rattle.sheet_parts.proofs.Written.{sheet-put, sheet-refused}
use native.Mathlib.Omega.{arith}
use Rattle.sheet_parts.proofs.put_sheet.Goals as goal
use Rattle.sheet_parts.proofs.put_sheet.Goals.{In-Ok}

-- the text was read
read-in :
    (c : In-Ok) →
    let t = c.args.text.now in
    TextChecked t c.in-Ok.checked.profile c.in-Ok.checked.arrangement.north c.in-Ok.checked.arrangement.south c.in-Ok.checked.cells c.in-Ok.checked.size c.in-Ok.checked.body
read-in c = text-checked _ (sym c.in-Ok.is ∙ c.check.ensures)

pub put_parts-requires : goal.put_parts-requires
put_parts-requires c =
    let r = read-in (goal.at.put_parts-requires c).In-Ok in
    record { text_value = (r.text, checked-arrangement r, r.start, r.count); in_bounds = c.requires }

pub returns-in-Err : goal.returns-in-Err
returns-in-Err c =
    let a = c.args in record { sheet_written = sheet-refused a.out.now (text-refused a.text.now (sym c.in-Err.is ∙ c.check.ensures)); end_in_bounds = omega arith }

pub returns-in-Ok : goal.returns-in-Ok
returns-in-Ok c =
    let r = read-in (goal.at.returns-in-Ok c).In-Ok in
    let w = c.put_parts.ensures in record { sheet_written = sheet-put _ r.allowed w; end_in_bounds = w.fits }
