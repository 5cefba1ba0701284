-- How many letters and digits settle an answer (02, W-213). Laws/Settle shows that they do. Assumes nothing.
use Rattle.std.specs.Prelude.{cond, List, [], ◌∷◌, ℕ, ◌+◌, length, drop, leb, ltb}
use Rattle.cell.specs.declared.Arrangement.{Arrangement}
use Rattle.reading.specs.Reading.{Nodes}
use Rattle.reading.specs.Letters.{letter_codes, through}
use Rattle.reading.specs.TextReading.{body_start}

-- how many of these "codes are not above the asked one's"
unfoldable pub not_above : (code : ℕ) → List ℕ → ℕ
not_above code [] = 0
not_above code (c ∷ cs) = cond (leb c code) 1 0 + not_above code cs

-- those, "plus one if a later one exists": codes rise in the order they stand, so those counted are the first ones (Laws/Settle, `counted-first`)
unfoldable pub settled_by : (code : ℕ) → List ℕ → ℕ
unfolding not_above
settled_by code cs = not_above code cs + cond (ltb (not_above code cs) (length cs)) 1 0

-- "how many letters and digits settle the answer ..: those naming cells, whole or not, whose codes are not above the asked one's, plus one if a later
-- one exists", in a text of this arrangement
unfoldable pub settled : Arrangement → (code : ℕ) → Nodes → ℕ
unfolding settled_by
settled a code ns = settled_by code (letter_codes a ns)

-- the bytes of a text's body "through the last one counted", where r are counted
unfoldable pub counted : (r : ℕ) → List ℕ → List ℕ
counted r t = through r (drop (body_start t) t)
