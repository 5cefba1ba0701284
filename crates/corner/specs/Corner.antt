-- Cells that meet a cell at a corner only, and how many they are (02, W-204). Assumes nothing.
use Rattle.std.specs.Prelude.{◌≡◌, Bool, ◌&&◌, ◌||◌, cond, ℕ, ◌+◌, ◌<◌, eqb}
use Rattle.cell.specs.declared.Cell.{Cell}
use Rattle.cell.specs.declared.Arrangement.{Arrangement}
use Rattle.cell.specs.Neighbour.{rows, Neighbour}

-- "above resolution 0, those that are neighbours of at least two of the cell's neighbours, and neither it nor a neighbour of it"
pub record MeetsAtCorner (a : Arrangement) (c x : Cell) : Type 0 where
  pub above : 0 < c.resolution
  pub one : Cell
  pub other : Cell
  pub two : one ≡ other → ⊥
  pub near-one : Neighbour a c one
  pub near-other : Neighbour a c other
  pub one-near : Neighbour a one x
  pub other-near : Neighbour a other x
  pub not-it : x ≡ c → ⊥
  pub not-near : Neighbour a c x → ⊥

-- "row and column each first or last"
abbrev pub first_or_last : (m i : ℕ) → Bool
first_or_last m i = eqb i 0 || eqb (i + 1) m

-- "At resolution 0 the number is 0. Above that it is 3 for a cell in a corner of its face .., and 4 for every other cell, whatever its shape."
unfoldable pub corner_number : Cell → ℕ
corner_number c = cond (eqb c.resolution 0) 0 (cond (first_or_last (rows c) c.row && first_or_last (rows c) c.column) 3 4)
