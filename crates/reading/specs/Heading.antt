-- The heading of a text as a test that computes: each byte between its least and its greatest value. Laws/Heading shows that the bytes that pass are
-- exactly the headings of the two versions. Assumes nothing.
use Rattle.std.specs.Prelude.{List, [], ◌∷◌, cond, ℕ, suc, ◌-◌, leb, eqb, get_or}
use Rattle.reading.specs.declared.Profile.{Profile}
use Rattle.reading.specs.declared.Profile.TheVariants.{Full, Handheld}

-- the least and the greatest byte at each place: the mark, the version, n, s, and in version 2 the letter of the depth
abbrev pub least : List ℕ
least = 67 ∷ 86 ∷ 82 ∷ 0 ∷ 1 ∷ 48 ∷ 48 ∷ 97 ∷ []

abbrev pub greatest : List ℕ
greatest = 67 ∷ 86 ∷ 82 ∷ 0 ∷ 2 ∷ 51 ∷ 51 ∷ 112 ∷ []

-- how many leading bytes lie in their bounds
unfoldable pub lead : (a b t : List ℕ) → ℕ
lead [] b t = 0
lead (x ∷ a) [] t = 0
lead (x ∷ a) (y ∷ b) [] = 0
lead (x ∷ a) (y ∷ b) (z ∷ t) = cond (leb x z) (cond (leb z y) (suc (lead a b t)) 0) 0

-- the profile that the fifth and the eighth byte tell
abbrev pub profile_in : List ℕ → Profile
profile_in t = cond (eqb (get_or t 4 0) 1) Full (Handheld (get_or t 7 0 - 97))
