-- What the frame has grown to, grown by the codes that are left, is the whole. Assumes nothing.
use Rattle.std.specs.Prelude.{Ok}
use mathlib.Core.Path.{◌≡◌}
use lib.ListN.{drop}
use Rattle.plotter.specs.Plotter.{grown_by}
use Rattle.plotter.proofs.grow_by.Given as goal

abbrev pub invariant-loop-code : goal.invariant-loop-code
invariant-loop-code l = grown_by l.side (Ok l.frame) (drop l.code-index l.codes) ≡ grown_by l.side (Ok l.initial.frame) l.codes
