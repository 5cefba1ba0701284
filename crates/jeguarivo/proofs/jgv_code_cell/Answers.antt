-- `jgv_code_cell` meets its contract. Assumes nothing.
use mathlib.Core.Path.{sym, ap, ap₂, ◌∙◌}
use Rattle.code.specs.Code.{arrangement_of}
use Rattle.entries.specs.Entries.{code_cell, cell_numbers}
use Rattle.jeguarivo.proofs.jgv_code_cell.Goals as goal

pub returns-in-Ok : goal.returns-in-Ok
unfolding code_cell
returns-in-Ok c =
    let x = c in
    sym (ap (cell_numbers c.arrangement_of-arrangement.result) x.in-Ok.is) ∙ ap₂ cell_numbers c.arrangement_of-arrangement.ensures x.cell_of.ensures

pub returns-in-Err : goal.returns-in-Err
unfolding code_cell
returns-in-Err c =
    let k = c in
    let numbers = cell_numbers (arrangement_of k.args.code) in
    sym (ap numbers c.in-Err.is) ∙ ap numbers k.cell_of.ensures
