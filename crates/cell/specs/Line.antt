-- Straight lines through cells (W-212 "Lines all the way round"). Assumes nothing.
use Rattle.std.specs.Prelude.{◌≡◌, ℕ, zero, suc, ◌+◌, ◌*◌, ◌%◌, ◌<◌}
use Rattle.cell.specs.declared.Cell.{Cell}
use Rattle.cell.specs.declared.Arrangement.{Arrangement}
use Rattle.cell.specs.Cell.{IsCell}
use Rattle.cell.specs.Neighbour.{rows, neighbour_of, back_of}

-- a cell, and the direction in which it is left
pub record Heading : Type 0 where
  pub cell : Cell
  pub direction : ℕ

-- "from any cell, in any direction"
pub record IsHeading (h : Heading) : Type 0 where
  pub cell : IsCell h.cell
  pub direction : h.direction < 4

-- the edge opposite: up and down, right and left
abbrev pub opposite : ℕ → ℕ
opposite d = (d + 2) % 4

-- the edge that the next cell is entered by: the direction whose neighbour is the cell that was left (Laws/Line: there is one, and no other)
abbrev pub Entered : Arrangement → Heading → ℕ → Type 0
Entered a h e = (e < 4) × (neighbour_of a (neighbour_of a h.cell h.direction) e ≡ h.cell)

-- "leaving each by the edge opposite the one they entered by"
unfoldable pub onward : Arrangement → Heading → Heading
onward a h =
    record {
      cell = neighbour_of a h.cell h.direction;
      direction = opposite (back_of a h.cell h.direction);
    }

-- the heading after so many moves
unfoldable pub line : Arrangement → Heading → ℕ → Heading
unfolding onward
line a h zero = h
line a h (suc n) = onward a (line a h n)

-- "4 x 3^k", for a cell of resolution k
abbrev pub line_length : Heading → ℕ
line_length h = 4 * rows h.cell

-- "flying it backwards": the same cell, left by the edge opposite
abbrev pub reversed : Heading → Heading
reversed h = record { cell = h.cell; direction = opposite h.direction }
