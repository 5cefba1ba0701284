-- Which cells lie inside which, and the finest cells of a cell (01 "Faces, rows, names, codes" and "The coverage text"). Assumes nothing.
use Rattle.std.specs.Prelude.{◌≡◌, Bool, ◌&&◌, leb, ℕ, ◌+◌, ◌-◌, ◌*◌, ◌/◌, ◌^◌, ◌≤◌, ◌<◌}
use Rattle.cell.specs.declared.Cell.{Cell}
use Rattle.code.specs.Code.{path_of, size_of}

-- x is c, or a child of a child .. of c: the face is c's, and so are the first digits of the row and of the column
pub record Inside (c x : Cell) : Type 0 where
  pub face : x.face ≡ c.face
  pub finer : c.resolution ≤ x.resolution
  pub row : x.row / 3 ^ (x.resolution - c.resolution) ≡ c.row
  pub column : x.column / 3 ^ (x.resolution - c.resolution) ≡ c.column

-- "A finest cell is one of resolution 15". The finest cells are numbered in code order, 9^15 to a face; this is the number of the first one in a cell
unfoldable pub start_of : Cell → ℕ
start_of c = c.face * 9 ^ 15 + path_of c * 9 ^ (15 - c.resolution)

-- and this the number after the last
unfoldable pub end_of : Cell → ℕ
end_of c = start_of c + size_of c

-- the finest cells from one number to before another
pub record Within (c x : Cell) : Type 0 where
  pub from : start_of c ≤ start_of x
  pub to : end_of x ≤ end_of c

-- the same as a test
unfoldable pub lies_within : (c x : Cell) → Bool
unfolding start_of end_of
lies_within c x = leb (start_of c) (start_of x) && leb (end_of x) (end_of c)
