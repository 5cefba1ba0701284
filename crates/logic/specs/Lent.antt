-- Lent memory (01 "Refusal numbers"): "an answer changes only its own length". Assumes nothing.
use Rattle.std.specs.Prelude.{List, ◌++◌, ℕ, length, drop}

-- what was lent, with these in front
abbrev pub in_front : (xs lent : List ℕ) → List ℕ
in_front xs lent = xs ++ drop (length xs) lent
