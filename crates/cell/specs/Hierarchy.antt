-- Parents and children: a name without its last digit, and a name with one digit more (01 "Faces, rows, names, codes": "each digit is 3 times the
-- ternary digit of i plus that of j", coarsest first). Assumes nothing.
use Rattle.std.specs.Prelude.{ℕ, ◌+◌, ◌-◌, ◌*◌, ◌/◌, ◌%◌, eqb, ltb}
use Rattle.logic.specs.Refusal.{refuse, ◌otherwise◌}
use Rattle.cell.specs.declared.Cell.{Cell}
use Rattle.cell.specs.Cell.{cell_refusal}

-- without the last digit of the row, and of the column
unfoldable pub parent_of : Cell → Cell
parent_of c = record { face = c.face; resolution = c.resolution - 1; row = c.row / 3; column = c.column / 3 }

-- 12: parent at resolution 0
unfoldable pub parent_refusal : Cell → ℕ
parent_refusal c = cell_refusal c otherwise refuse (eqb c.resolution 0) 12

-- digit 0 is top left and 8 is bottom right
unfoldable pub child_of : Cell → ℕ → Cell
child_of c digit =
    record { face = c.face; resolution = c.resolution + 1; row = 3 * c.row + digit / 3; column = 3 * c.column + digit % 3 }

-- 3: child digit above 8. 12: child at 15
unfoldable pub child_refusal : Cell → ℕ → ℕ
child_refusal c digit = cell_refusal c otherwise refuse (ltb 8 digit) 3 otherwise refuse (eqb c.resolution 15) 12

-- the digit by which a cell is a child of its parent: "each digit is 3 times the ternary digit of i plus that of j"
unfoldable pub last_digit : Cell → ℕ
last_digit c = 3 * (c.row % 3) + c.column % 3
