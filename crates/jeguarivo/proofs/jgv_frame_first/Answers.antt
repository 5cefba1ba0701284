-- `jgv_frame_first` meets its contract. Assumes nothing.
use mathlib.Core.Path.{ap, ◌∙◌}
use Rattle.entries.specs.Plotter.{frame_numbers, frame_begun}
use Rattle.jeguarivo.proofs.jgv_frame_first.Goals as goal

pub returns : goal.returns
unfolding frame_begun
returns c = c.frame_answer.ensures ∙ ap frame_numbers c.frame_first.ensures
