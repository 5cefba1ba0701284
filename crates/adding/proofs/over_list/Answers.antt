-- `adding::over_list` meets its contract. Assumes nothing.
use mathlib.Core.Path.{sym, ap, ◌∙◌}
use Rattle.adding.specs.Internal.Find.{over_as}
use Rattle.adding.proofs.over_list.Goals as goal

pub returns-in-Full : goal.returns-in-Full
unfolding over_as
returns-in-Full c = c.whole_from.ensures ∙ ap (over_as _ _ _) (sym c.in-Full.is)

pub returns-in-Covered : goal.returns-in-Covered
unfolding over_as
returns-in-Covered c = ap (over_as _ _ _) (sym c.in-Covered.is)

pub returns-in-Put : goal.returns-in-Put
unfolding over_as
returns-in-Put c = ap (over_as _ _ _) (sym c.in-Put.is)

pub returns-in-Cut : goal.returns-in-Cut
unfolding over_as
returns-in-Cut c = ap (over_as _ _ _) (sym c.in-Cut.is)
