-- `Cell::child_cell` meets its contract; a cell's row and column are small enough to be tripled. Assumes nothing.
use mathlib.Core.Path.{refl}
use native.Mathlib.Omega.{arith}
use Rattle.cell.proofs.Laws.Cell.{row_small, column-small}
use Rattle.cell.specs.Hierarchy.{child_of}
use Rattle.cell.proofs.Cell.child_cell.Goals as goal

pub overflow_mul-result : goal.overflow_mul-result
overflow_mul-result c = omega (arith, row_small c.requires.cell)

pub overflow_add-result-2 : goal.overflow_add-result-2
overflow_add-result-2 c = omega (arith, row_small c.requires.cell)

pub overflow_mul-result-2 : goal.overflow_mul-result-2
overflow_mul-result-2 c = omega (arith, column-small c.requires.cell)

pub overflow_add-result-3 : goal.overflow_add-result-3
overflow_add-result-3 c = omega (arith, column-small c.requires.cell)

pub returns : goal.returns
unfolding child_of
returns c = refl
