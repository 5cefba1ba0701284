-- The lines of an input, as its bytes come in. 10 is the line feed. Assumes nothing.
use Rattle.std.specs.Prelude.{◌≡◌, cond, List, [], ◌∷◌, ◌++◌, ℕ, eqb}

-- the lines that end in some bytes, where a line had begun before them
abbrev pub ended : (begun bytes : List ℕ) → List (List ℕ)
ended line [] = []
ended line (b ∷ bs) = cond (eqb b 10) (line ∷ ended [] bs) (ended (line ++ (b ∷ [])) bs)

-- and the line that has begun then and has not ended
abbrev pub begun : (begun bytes : List ℕ) → List ℕ
begun line [] = line
begun line (b ∷ bs) = cond (eqb b 10) (begun [] bs) (begun (line ++ (b ∷ [])) bs)

-- "the last line may have no end"
abbrev pub last : List ℕ → List (List ℕ)
last [] = []
last (b ∷ bs) = (b ∷ bs) ∷ []

-- the lines of an input
abbrev pub lines_of : List ℕ → List (List ℕ)
lines_of bytes = ended [] bytes ++ last (begun [] bytes)

-- no line feed is among them
abbrev pub Unended : List ℕ → Type 0
Unended [] = Unit {0}
Unended (b ∷ bs) = (b ≡ 10 → ⊥) × Unended bs
