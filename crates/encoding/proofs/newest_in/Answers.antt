-- `encoding::newest_in` meets its contract. Assumes nothing.
use mathlib.Core.Path.{sym, ◌∙◌}
use Rattle.encoding.proofs.Laws.{wrong-mark, mark-right}
use Rattle.encoding.proofs.newest_in.Goals as goal

pub returns-in-Ok : goal.returns-in-Ok
returns-in-Ok c = c.number_at-in-Ok.ensures ∙ mark-right _ (sym c.number_at.ensures ∙ c.in-Ok.is)

pub returns-in-Err : goal.returns-in-Err
returns-in-Err c = wrong-mark _ (sym c.number_at.ensures ∙ c.in-Err.is)
