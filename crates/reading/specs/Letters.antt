-- All letters and digits of a reading, "those naming cells, whole or not" (02, W-213). Where a name here says letter, it is a letter or a digit.
-- Assumes nothing.
use Rattle.std.specs.Prelude.{Bool, true, false, cond, List, [], ◌∷◌, ◌++◌, map, ℕ, zero, suc, ◌+◌, eqb}
use Rattle.cell.specs.declared.Cell.{Cell}
use Rattle.cell.specs.declared.Arrangement.{Arrangement}
use Rattle.code.specs.Code.{code_of}
use Rattle.reading.specs.Reading.{Nodes, end, whole, listed}
use Rattle.reading.specs.Ground.{cell_named}

-- The names of their cells as numbers, in the order they stand: "the face letter, then the digits whose lists it stands in, outermost first, then
-- itself", of those with a list too
abbrev pub letters : Nodes → List (List ℕ)
letters end = []
letters (whole c ns) = (c ∷ []) ∷ letters ns
letters (listed c is ns) = (c ∷ []) ∷ (map (λ (q : List ℕ). c ∷ q) (letters is) ++ letters ns)

-- the cells that they name
unfoldable pub letter_cells : Nodes → List Cell
letter_cells ns = map cell_named (letters ns)

-- and the codes of these in an arrangement
unfoldable pub letter_codes : Arrangement → Nodes → List ℕ
unfolding letter_cells
letter_codes a ns = map (code_of a) (letter_cells ns)

-- ---- over the bytes of a body

-- a letter or a digit: neither bracket
unfoldable pub is_letter : ℕ → Bool
is_letter b = cond (eqb b 40) false (cond (eqb b 41) false true)

-- how many stand in these bytes
unfoldable pub letter_count : List ℕ → ℕ
unfolding is_letter
letter_count [] = 0
letter_count (b ∷ bs) = cond (is_letter b) 1 0 + letter_count bs

-- the bytes through the letter or digit of number r, counted from 1; through number 0, none
unfoldable pub through : (r : ℕ) → List ℕ → List ℕ
unfolding is_letter
through zero bs = []
through (suc r) [] = []
through (suc r) (b ∷ bs) = b ∷ cond (is_letter b) (through r bs) (through (suc r) bs)
