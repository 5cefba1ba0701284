-- "When a text gains one cell it held nothing of" (02, W-207). Assumes nothing.
use Rattle.std.specs.Prelude.{◌⊎◌, List}
use Rattle.cell.specs.declared.Cell.{Cell}
use Rattle.code.specs.Inside.{Inside}
use Rattle.code.specs.Finest.{Finest}
use Rattle.reading.specs.Ground.{Covers}

-- the ground of ps is that of qs and the cell c, of which qs held nothing
pub record Gains (qs ps : List Cell) (c : Cell) : Type 0 where
  pub ground : (f : Cell) → Finest f → (Covers ps f → Covers qs f ⊎ Inside c f) × (Covers qs f ⊎ Inside c f → Covers ps f)
  pub new : (f : Cell) → Finest f → Inside c f → Covers qs f → ⊥

-- "it overlaps": one of the two cells lies inside the other
abbrev pub Overlaps : Cell → Cell → Type 0
Overlaps c d = Inside c d ⊎ Inside d c
