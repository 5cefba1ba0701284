-- `jgv_frame_grow` meets its contract. Assumes nothing.
use mathlib.Core.Path.{ap, ◌∙◌}
use Rattle.entries.specs.Plotter.{frame_numbers, frame_grown}
use Rattle.jeguarivo.proofs.jgv_frame_grow.Goals as goal

pub returns : goal.returns
unfolding frame_grown
returns c = c.frame_answer.ensures ∙ ap frame_numbers c.frame_grow.ensures
