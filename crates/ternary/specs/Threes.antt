-- Tables of three digits (02, W-202): "three levels at a time, with a constant table of 729 entries, and its rule shown once for the table".
-- Assumes nothing.
use Rattle.std.specs.Prelude.{◌≡◌, true, List, ℕ, ◌/◌, ◌%◌, length}
use Rattle.logic.specs.Table.{follows}
use Rattle.ternary.specs.Weave.{weave, both_in}

-- for each three digits of a path the row and the column, in one number
pub record Apart (t : List ℕ) : Type 0 where
  pub long : length t ≡ 729
  pub rule : follows (both_in 3) 0 t ≡ true

-- for each row and column of three ternary digits the digits of the path; 27 times the row, and the column, is the place
pub record Woven (t : List ℕ) : Type 0 where
  pub long : length t ≡ 729
  pub rule : follows (λ (k : ℕ). weave 3 (k / 27) (k % 27)) 0 t ≡ true
