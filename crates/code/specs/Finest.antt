-- The finest cells (01 "The coverage text"). Assumes nothing.
use Rattle.std.specs.Prelude.{◌≡◌}
use Rattle.cell.specs.declared.Cell.{Cell}
use Rattle.cell.specs.Cell.{IsCell}

-- "A finest cell is one of resolution 15"
pub record Finest (x : Cell) : Type 0 where
  pub cell : IsCell x
  pub finest : x.resolution ≡ 15
