-- Each edge is the one further out. Assumes nothing.
use Rattle.plotter.specs.Plotter.{grown}
use Rattle.plotter.proofs.Frame.grown.Goals as goal

pub returns : goal.returns
unfolding grown
returns c = cc
