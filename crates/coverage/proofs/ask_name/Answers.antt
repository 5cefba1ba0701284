-- `ask_name` meets its contract: the name first, then the text in its own arrangement. Assumes nothing.
use mathlib.Core.Path.{◌∙◌}
use Rattle.coverage.proofs.Laws.{name-asked, name-stops}
use Rattle.coverage.proofs.ask_name.Goals as goal

pub returns-in-Ok : goal.returns-in-Ok
returns-in-Ok c =
    let b = c in
    c.ask.ensures ∙ name-asked b.args.text.now b.args.name.now _ _ c.own_arrangement.ensures
    c.name_code.ensures c.in-Ok.is

pub returns-in-Err : goal.returns-in-Err
returns-in-Err c =
    let b = c in
    name-stops b.args.text.now b.args.name.now _ _ c.name_code.ensures c.in-Err.is
