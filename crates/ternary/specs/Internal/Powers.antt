-- The constants of `power`, as they stand in its `match`. Assumes nothing.
use Rattle.std.specs.Prelude.{List, [], ◌∷◌, ℕ}

unfoldable pub powers : List ℕ
powers = 1 ∷ 3 ∷ 9 ∷ 27 ∷ 81 ∷ 243 ∷ 729 ∷ 2187 ∷ 6561 ∷ 19683 ∷ 59049 ∷ 177147 ∷ 531441 ∷ 1594323 ∷ 4782969 ∷ 14348907 ∷ []
