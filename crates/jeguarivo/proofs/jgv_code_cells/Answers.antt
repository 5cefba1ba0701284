-- `jgv_code_cells` meets its contract. Assumes nothing.
use mathlib.Core.Path.{sym, ap, ◌∙◌}
use Rattle.entries.specs.Batches.{batch_numbers, cells_answer}
use Rattle.jeguarivo.proofs.jgv_code_cells.Goals as goal

pub returns-in-Ok : goal.returns-in-Ok
unfolding cells_answer
returns-in-Ok c =
    let w = c in record { value = sym (ap batch_numbers c.in-Ok.is) ∙ ap batch_numbers w.code_cells.ensures.value; numbers_after = w.code_cells.ensures.numbers_after }

pub returns-in-Err : goal.returns-in-Err
unfolding cells_answer
returns-in-Err c =
    let w = c in record { value = sym (ap batch_numbers c.in-Err.is) ∙ ap batch_numbers w.code_cells.ensures.value; numbers_after = w.code_cells.ensures.numbers_after }
