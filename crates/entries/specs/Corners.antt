-- The request's sentence on cells that meet at a corner (02, W-204), over what `jgv_neighbour` answers. Assumes nothing.
use Rattle.std.specs.Prelude.{◌≡◌, ℕ, ◌<◌}
use Rattle.code.specs.Code.{cell_of}
use Rattle.entries.specs.Entries.{neighbour_code}

-- the code that jgv_neighbour answers
abbrev pub neighbour_at : (code direction : ℕ) → ℕ
neighbour_at code direction = (neighbour_code code direction).code

-- "above resolution 0, those that are neighbours of at least two of the cell's neighbours, and neither it nor a neighbour of it"
pub record ByNeighbours (code y : ℕ) : Type 0 where
  pub above : 0 < (cell_of code).resolution
  pub one : ℕ
  pub other : ℕ
  pub one-small : one < 4
  pub other-small : other < 4
  pub two : neighbour_at code one ≡ neighbour_at code other → ⊥
  pub one-near : (d : ℕ) × (d < 4) × (neighbour_at (neighbour_at code one) d ≡ y)
  pub other-near : (d : ℕ) × (d < 4) × (neighbour_at (neighbour_at code other) d ≡ y)
  pub not-it : y ≡ code → ⊥
  pub not-near : (d : ℕ) → d < 4 → neighbour_at code d ≡ y → ⊥
