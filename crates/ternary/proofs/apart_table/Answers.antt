-- `ternary::apart_table` meets its contract: one test, computed over the whole table. Assumes nothing.
use mathlib.Core.Path.{refl}
use Rattle.logic.specs.Table.{follows}
use Rattle.ternary.specs.Weave.{row_in, column_in}
use Rattle.ternary.proofs.apart_table.Goals as goal

pub returns : goal.returns
unfolding follows row_in column_in
returns c = record { long = refl; rule = refl }
