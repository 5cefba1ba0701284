-- A row and a column woven to one number of base nine, and taken apart again: the computing form of a cell's digits. Assumes nothing.
use Rattle.std.specs.Prelude.{ℕ, zero, suc, ◌+◌, ◌*◌, ◌/◌, ◌%◌, ◌^◌}

-- k base-nine digits, each 3 times the ternary digit of i plus that of j
unfoldable pub weave : (k i j : ℕ) → ℕ
weave zero i j = 0
weave (suc k) i j = weave k (i / 3) (j / 3) * 9 + (3 * (i % 3) + j % 3)

-- the row and the column of the last k digits of a path
unfoldable pub row_in : (k path : ℕ) → ℕ
row_in zero path = 0
row_in (suc k) path = row_in k (path / 9) * 3 + path % 9 / 3

unfoldable pub column_in : (k path : ℕ) → ℕ
column_in zero path = 0
column_in (suc k) path = column_in k (path / 9) * 3 + path % 3

-- both in one number: the row, and 2^32 times the column
abbrev pub both_in : (k path : ℕ) → ℕ
both_in k path = row_in k path + column_in k path * 2 ^ 32
