-- `jgv_cell_code` meets its contract. Assumes nothing.
use mathlib.Core.Path.{ap, ◌∙◌}
use Rattle.entries.specs.Entries.{coded_answer, code_of_cell, code_answer}
use Rattle.jeguarivo.proofs.jgv_cell_code.Goals as goal

pub returns : goal.returns
unfolding code_of_cell code_answer
returns c = c.coded_answer.ensures ∙ ap coded_answer c.coded_cell.ensures
