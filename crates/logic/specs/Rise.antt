-- Lists of numbers that rise strictly. Assumes nothing.
use Rattle.std.specs.Prelude.{List, ℕ, ◌<◌}
use Rattle.logic.specs.Lists.{All, Pairwise}

-- each is above n
abbrev pub Above : ℕ → List ℕ → Type 0
Above n xs = All (λ (x : ℕ). n < x) xs

-- "in rising order": each is below all that come later
abbrev pub Rise : List ℕ → Type 0
Rise xs = Pairwise (λ (x y : ℕ). x < y) xs
