-- `jgv_code_name` meets its contract. Assumes nothing.
use mathlib.Core.Path.{sym, ap, ap₂, ◌∙◌}
use Rattle.code.specs.Code.{arrangement_of}
use Rattle.entries.specs.Entries.{written_name, name_numbers}
use Rattle.jeguarivo.proofs.jgv_code_name.Goals as goal

pub returns-in-Ok : goal.returns-in-Ok
unfolding written_name
returns-in-Ok c =
    let x = c in
    let w = x in record { value = sym (ap (name_numbers c.arrangement_of-arrangement.result) x.in-Ok.is) ∙ ap₂ name_numbers c.arrangement_of-arrangement.ensures w.code_name.ensures.value; name_after = w.code_name.ensures.name_after }

pub returns-in-Err : goal.returns-in-Err
unfolding written_name
returns-in-Err c =
    let w = c in
    let numbers = name_numbers (arrangement_of w.args.code) in record { value = sym (ap numbers c.in-Err.is) ∙ ap numbers w.code_name.ensures.value; name_after = w.code_name.ensures.name_after }
