-- `code::code_of` meets its contract. Assumes nothing.
use mathlib.Core.Path.{◌∙◌}
use Rattle.code.proofs.Laws.{woven-code}
use Rattle.code.proofs.code_of.Goals as goal

pub returns : goal.returns
returns c =
    let a = c.args in
    c.code_in.ensures ∙ woven-code a.arrangement a.cell
