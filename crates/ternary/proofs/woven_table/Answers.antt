-- `ternary::woven_table` meets its contract: one test, computed over the whole table. Assumes nothing.
use mathlib.Core.Path.{refl}
use Rattle.logic.specs.Table.{follows}
use Rattle.ternary.specs.Weave.{weave}
use Rattle.ternary.proofs.woven_table.Goals as goal

pub returns : goal.returns
unfolding follows weave
returns c = record { long = refl; rule = refl }
