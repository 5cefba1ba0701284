-- `Cell::parent_cell` meets its contract. Assumes nothing.
use mathlib.Core.Path.{refl}
use Rattle.cell.specs.Hierarchy.{parent_of}
use Rattle.cell.proofs.Cell.parent_cell.Goals as goal

pub returns : goal.returns
unfolding parent_of
returns c = refl
