-- `jgv_corner_cells` meets its contract. Assumes nothing.
use mathlib.Core.Path.{sym, ap, ◌∙◌}
use Rattle.entries.specs.Entries.{corner_numbers, corner_cells}
use Rattle.jeguarivo.proofs.jgv_corner_cells.Goals as goal

pub returns-in-Ok : goal.returns-in-Ok
unfolding corner_cells
returns-in-Ok c =
    let w = c in record { value = sym (ap corner_numbers c.in-Ok.is) ∙ ap corner_numbers w.list.ensures.value; codes_after = w.list.ensures.codes_after }

pub returns-in-Err : goal.returns-in-Err
unfolding corner_cells
returns-in-Err c =
    let w = c in record { value = sym (ap corner_numbers c.in-Err.is) ∙ ap corner_numbers w.list.ensures.value; codes_after = w.list.ensures.codes_after }
