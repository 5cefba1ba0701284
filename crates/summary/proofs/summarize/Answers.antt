-- `summary::summarize` meets its contract: nothing is counted before the text is read. Assumes nothing.
use mathlib.Core.Path.{sym, ◌∙◌}
use Rattle.reader.specs.Laws.Answer.{TextChecked, text-checked, text-refused}
use Rattle.summary.proofs.Answers.{not-summed, summed}
use Rattle.summary.proofs.summarize.Goals as goal
use Rattle.summary.proofs.summarize.Goals.{In-Ok}

-- the text was read
read-in :
    (c : In-Ok) →
    let t = c.args.text.now in
    TextChecked t c.in-Ok.checked.profile c.in-Ok.checked.arrangement.north c.in-Ok.checked.arrangement.south c.in-Ok.checked.cells c.in-Ok.checked.size c.in-Ok.checked.body
read-in c = text-checked _ (sym c.in-Ok.is ∙ c.check.ensures)

pub count_cells-requires : goal.count_cells-requires
count_cells-requires c = let r = read-in (goal.at.count_cells-requires c).In-Ok in (r.text, r.start)

pub returns-in-Err : goal.returns-in-Err
returns-in-Err c =
    let a = c.args in let r = not-summed a.counters.now (text-refused a.text.now (sym c.in-Err.is ∙ c.check.ensures)) in record { value = r.0; counters_after = r.1 }

pub returns : goal.returns
returns c =
    let n = c in let r = summed n.args.counters.now (read-in (goal.at.returns c).In-Ok) c.count_cells.ensures in record { value = r.0; counters_after = r.1 }
