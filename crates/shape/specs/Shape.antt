-- The four shapes (01 "Neighbours and shapes"). Assumes nothing.
use Rattle.std.specs.Prelude.{◌≡◌, ◌⊎◌, ◌&&◌, ◌||◌, cond, ℕ, ◌+◌, ◌*◌, ◌^◌, ◌≤◌, eqb, ltb}
use Rattle.cell.specs.declared.Cell.{Cell}
use Rattle.shape.specs.declared.Shape.{Shape}
use Rattle.shape.specs.declared.Shape.TheVariants.{Quad, Cap, Dart, SkewQuad}

-- a cell of O to R
pub record Belt (c : Cell) : Type 0 where
  pub from : 1 ≤ c.face
  pub to : c.face ≤ 4

-- the middle cell of its face
pub record Middle (c : Cell) : Type 0 where
  pub row : 2 * c.row + 1 ≡ 3 ^ c.resolution
  pub column : 2 * c.column + 1 ≡ 3 ^ c.resolution

-- "i = j or i + j = m - 1"
abbrev pub Diagonal : Cell → Type 0
Diagonal c = (c.row ≡ c.column) ⊎ (c.row + c.column + 1 ≡ 3 ^ c.resolution)

-- "cells of O to R are quads; the middle cell of N or S is a cap; other cells of N or S with i = j or i + j = m - 1 are darts; the rest are skew quads"
abbrev pub Is : Shape → Cell → Type 0
Is Quad c = Belt c
Is Cap c = (Belt c → ⊥) × Middle c
Is Dart c = (Belt c → ⊥) × (Middle c → ⊥) × Diagonal c
Is SkewQuad c = (Belt c → ⊥) × (Middle c → ⊥) × (Diagonal c → ⊥)

-- ---- the computing form. Laws/Shape shows that it is the one shape that a cell is

unfoldable pub cap_shape : (m row column : ℕ) → Shape
cap_shape m row column =
    cond (eqb (2 * row + 1) m && eqb (2 * column + 1) m) Cap
    (cond (eqb row column || eqb (row + column + 1) m) Dart SkewQuad)

unfoldable pub shape_of : Cell → Shape
unfolding cap_shape
shape_of c = cond (ltb c.face 1) (cap_shape (3 ^ c.resolution) c.row c.column) (cond (ltb c.face 5) Quad (cap_shape (3 ^ c.resolution) c.row c.column))

-- the numbers of the public entries
abbrev pub shape_number : Shape → ℕ
shape_number Quad = 0
shape_number Cap = 1
shape_number Dart = 2
shape_number SkewQuad = 3
