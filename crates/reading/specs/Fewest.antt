-- The fewest cells of a ground (01 "The coverage text", demand 3; 02). A ground is a choice of finest cells. Laws/FewestOf shows that a ground has no
-- two such lists, and that the whole cells of a text are the fewest cells of its ground. Assumes nothing.
use Rattle.std.specs.Prelude.{List, ◌≤◌, length}
use Rattle.cell.specs.declared.Cell.{Cell}
use Rattle.reading.specs.Ground.{Fills, Cells, Rising}

-- "the fewest cells in rising order"
pub record FewestOf (P : Cell → Type 0) (qs : List Cell) : Type 0 where
  pub cells : Cells qs
  pub rising : Rising qs
  pub fills : Fills P qs
  pub fewest : (ps : List Cell) → Cells ps → Fills P ps → length qs ≤ length ps
