-- Places on a face as parts of 2^56, and the rows and columns that they lie in. Assumes nothing.
use Rattle.std.specs.Prelude.{ℕ, ◌+◌, ◌*◌, ◌/◌, ◌^◌}
use Rattle.wide.specs.High.{high_word}

-- the row or the column at resolution k of a part: the first digits of the finest
unfoldable pub place_at : (k part : ℕ) → ℕ
place_at k part = part * 3 ^ 15 / 2 ^ 56 * 3 ^ k / 3 ^ 15

-- so many quarter turns, in units of 2^-56, rounded up
unfoldable pub east_part : ℕ → ℕ
east_part east = high_word (east * 2 ^ 32) 343872233134827855 + 1
