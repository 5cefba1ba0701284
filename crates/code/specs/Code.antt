-- The code of a cell (01 "Faces, rows, names, codes"). Assumes nothing.
use Rattle.std.specs.Prelude.{Bool, ◌&&◌, not, ℕ, zero, suc, ◌+◌, ◌-◌, ◌*◌, ◌/◌, ◌%◌, ◌^◌, List, [], ◌∷◌, ◌++◌, eqb, ltb, Err, Ok, Result}
use Rattle.code.specs.declared.Parts.{Parts}
use Rattle.logic.specs.Refusal.{refuse}
use Rattle.ternary.specs.Digits.{value}
use Rattle.ternary.specs.Weave.{row_in, column_in}
use Rattle.cell.specs.declared.Cell.{Cell}
use Rattle.cell.specs.declared.Arrangement.{Arrangement}
use Rattle.cell.specs.Cell.{IsCell, IsArrangement}

-- "k digits, coarsest first; each digit is 3 times the ternary digit of i plus that of j"
unfoldable pub digits_of : (k i j : ℕ) → List ℕ
digits_of zero i j = []
digits_of (suc k) i j = digits_of k (i / 3) (j / 3) ++ ((3 * (i % 3) + j % 3) ∷ [])

-- "path is the digits read in base nine"
unfoldable pub path_of : Cell → ℕ
unfolding digits_of
path_of c = value 9 (digits_of c.resolution c.row c.column)

-- ---- the cell's part of a code, which is 01's code: "(face x 9^15 + path x 9^(15-k)) x 16 + k". Names of one arrangement stand in its order

unfoldable pub cell_code_at : (face k path : ℕ) → ℕ
cell_code_at face k path = (face * 9 ^ 15 + path * 9 ^ (15 - k)) * 16 + k

unfoldable pub cell_code : Cell → ℕ
unfolding path_of cell_code_at
cell_code c = cell_code_at c.face c.resolution (path_of c)

-- "A cell's size is its number of finest cells, 9^(15-k)."
unfoldable pub size_of : Cell → ℕ
size_of c = 9 ^ (15 - c.resolution)

-- read back
unfoldable pub path_in : ℕ → ℕ
path_in x = x / 16 % 9 ^ 15 / 9 ^ (15 - x % 16)

unfoldable pub cell_coded : ℕ → Cell
unfolding path_in
cell_coded x =
    record {
      face = x / 16 / 9 ^ 15;
      resolution = x % 16;
      row = row_in (x % 16) (path_in x);
      column = column_in (x % 16) (path_in x);
    }

-- the face is one of six, and no digit stands below the resolution
unfoldable pub is_cell_code : ℕ → Bool
is_cell_code x = ltb (x / 16 / 9 ^ 15) 6 && eqb (x / 16 % 9 ^ 15 % 9 ^ (15 - x % 16)) 0

unfoldable pub cell_code_refusal : ℕ → ℕ
unfolding is_cell_code
cell_code_refusal x = refuse (not (is_cell_code x)) 4

-- ---- a code (02, W-210): "A code becomes 16 times the old code, plus 4n + s"

unfoldable pub code_at : Arrangement → (face k path : ℕ) → ℕ
code_at a face k path = 16 * cell_code_at face k path + (4 * a.north + a.south)

unfoldable pub code_of : Arrangement → Cell → ℕ
code_of a c = 16 * cell_code c + (4 * a.north + a.south)

-- read back. That these undo `code_of`, and that no other number is a code, is shown in Laws/Code
unfoldable pub cell_of : ℕ → Cell
cell_of code = cell_coded (code / 16)

unfoldable pub arrangement_of : ℕ → Arrangement
arrangement_of code = record { north = code / 4 % 4; south = code % 4 }

unfoldable pub is_code : ℕ → Bool
is_code code = is_cell_code (code / 16)

-- a code is of this arrangement
unfoldable pub is_of : Arrangement → ℕ → Bool
unfolding arrangement_of
is_of a code = eqb (arrangement_of code).north a.north && eqb (arrangement_of code).south a.south

-- 4: a code is no cell's
unfoldable pub code_refusal : ℕ → ℕ
unfolding is_code
code_refusal code = refuse (not (is_code code)) 4

-- ---- the answer: a code, or the number of the refusal

unfoldable pub coded : ℕ → ℕ → Result ℕ ℕ
coded zero code = Ok code
coded (suc r) code = Err (suc r)

-- what a code is made of: a cell that was found in an arrangement. A refusal asks nothing of either
abbrev pub Placed : Arrangement → Result Cell ℕ → Type 0
Placed a (Ok c) = IsArrangement a × IsCell c
Placed a (Err r) = Unit {0}

-- of a cell that was found
abbrev pub found_code : Arrangement → Result Cell ℕ → Result ℕ ℕ
found_code a (Ok c) = Ok (code_of a c)
found_code a (Err r) = Err r

-- the cell's part taken apart, or the number of the refusal
unfoldable pub cell_split : (refusal x : ℕ) → Result Parts ℕ
cell_split zero x = Ok (record { face = x / 16 / 9 ^ 15; resolution = x % 16; path = path_in x })
cell_split (suc r) x = Err (suc r)

abbrev pub split : (refusal code : ℕ) → Result Parts ℕ
split r code = cell_split r (code / 16)

-- what each case of `Coded` stands for
abbrev pub refusal_in : Result ℕ ℕ → ℕ
refusal_in (Ok code) = 0
refusal_in (Err r) = r

abbrev pub code_in : Result ℕ ℕ → ℕ
code_in (Ok code) = code
code_in (Err r) = 0
