-- The walk over the body of a text with all letters and digits, whole or not (02, W-213). Assumes nothing.
use Rattle.std.specs.Prelude.{◌≡◌, true, false, cond, List, [], ◌∷◌, ◌++◌, ℕ, ◌+◌, ◌*◌, ◌<◌, eqb}
use Rattle.reading.specs.Reading.{Nodes, end, whole, listed}
use Rattle.reading.specs.Letters.{is_letter, letter_count}
use Rattle.walk.specs.declared.Spot.{Spot}
use Rattle.walk.specs.Walk.{spot, after, opens}

-- the spots of the letters and digits that stand from here on
unfoldable pub letters_from : Spot → List ℕ → List Spot
unfolding after is_letter
letters_from s [] = []
letters_from s (b ∷ bs) = cond (is_letter b) (after s b ∷ letters_from (after s b) bs) (letters_from (after s b) bs)

-- in nodes of resolution k, in a cell of number p
unfoldable pub letters_in : ℕ → ℕ → Nodes → List Spot
letters_in k p end = []
letters_in k p (whole c ns) = spot k (p * 9 + c) ∷ letters_in k p ns
letters_in k p (listed c is ns) = spot k (p * 9 + c) ∷ (letters_in (k + 1) (p * 9 + c) is ++ letters_in k p ns)

-- a letter or digit stands behind each `(`
abbrev pub Filled : List ℕ → Type 0
Filled [] = Unit {0}
Filled (b ∷ bs) = (eqb b 40 ≡ true → 0 < letter_count bs) × Filled bs

-- a letter or digit stands before each `(` that is not the first byte
abbrev pub Led : List ℕ → Type 0
Led [] = Unit {0}
Led (b ∷ bs) = (is_letter b ≡ false → opens bs ≡ false) × Led bs
