-- `jgv_mark_code` meets its contract. Assumes nothing.
use mathlib.Core.Path.{ap, ◌∙◌}
use Rattle.entries.specs.Plotter.{mark_numbers, code_marked}
use Rattle.jeguarivo.proofs.jgv_mark_code.Goals as goal

pub returns : goal.returns
unfolding code_marked
returns c = c.mark_answer.ensures ∙ ap mark_numbers c.mark_code.ensures
