-- `jgv_cell_codes` meets its contract. Assumes nothing.
use mathlib.Core.Path.{sym, ap, ◌∙◌}
use Rattle.entries.specs.Batches.{batch_numbers, codes_answer}
use Rattle.jeguarivo.proofs.jgv_cell_codes.Goals as goal

pub returns-in-Ok : goal.returns-in-Ok
unfolding codes_answer
returns-in-Ok c =
    let w = c in record { value = sym (ap batch_numbers c.in-Ok.is) ∙ ap batch_numbers w.cell_codes.ensures.value; codes_after = w.cell_codes.ensures.codes_after }

pub returns-in-Err : goal.returns-in-Err
unfolding codes_answer
returns-in-Err c =
    let w = c in record { value = sym (ap batch_numbers c.in-Err.is) ∙ ap batch_numbers w.cell_codes.ensures.value; codes_after = w.cell_codes.ensures.codes_after }
