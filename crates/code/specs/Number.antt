-- A cell by its resolution and its number: the face and the digits of its name read in base nine (01 "Faces, rows, names, codes"). Laws/Number
-- shows that its code and its first finest cell are these. Assumes nothing.
use Rattle.std.specs.Prelude.{ℕ, ◌+◌, ◌-◌, ◌*◌, ◌^◌}
use Rattle.cell.specs.declared.Cell.{Cell}
use Rattle.cell.specs.declared.Arrangement.{Arrangement}
use Rattle.code.specs.Code.{path_of, cell_coded}

unfoldable pub number_of : Cell → ℕ
number_of c = c.face * 9 ^ c.resolution + path_of c

-- the number of the first finest cell, of resolution k and number n
unfoldable pub start_as : (k n : ℕ) → ℕ
start_as k n = n * 9 ^ (15 - k)

-- the number after the last
unfoldable pub end_as : (k n : ℕ) → ℕ
end_as k n = start_as k n + 9 ^ (15 - k)

-- the cell's part of the code, and the code
unfoldable pub cell_code_as : (k n : ℕ) → ℕ
cell_code_as k n = start_as k n * 16 + k

unfoldable pub code_as : Arrangement → (k n : ℕ) → ℕ
code_as a k n = 16 * cell_code_as k n + (4 * a.north + a.south)

-- the cell
abbrev pub cell_as : (k n : ℕ) → Cell
cell_as k n = cell_coded (cell_code_as k n)
