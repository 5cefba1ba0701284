-- What checking a text answers (01 "The coverage text", "Refusal numbers"; 02, W-208). Assumes nothing.
use Rattle.std.specs.Prelude.{◌≡◌, ◌⊎◌, Bool, ◌&&◌, not, cond, List, ◌∷◌, ℕ, zero, suc, leb, ltb, eqb, length, Err, Ok, Result}
use Rattle.reading.specs.declared.Refused.{Refused}
use Rattle.reader.specs.declared.Checked.{Checked}
use Rattle.logic.specs.Refusal.{refuse, ◌otherwise◌}
use Rattle.reading.specs.Ground.{whole_cells, size_sum}
use Rattle.reading.specs.Place.{place_of}
use Rattle.reading.specs.Heading.{least, greatest, lead}
use Rattle.reading.specs.TextReading.{nodes_of, profile_of, north_of, south_of, is_text, body_start}

-- 10: "five bytes or more, mark right", version "neither 1 nor 2"
abbrev pub WrongVersion : List ℕ → Type 0
WrongVersion t = (d : ℕ) × (e : ℕ) × (u : List ℕ) × (t ≡ 67 ∷ 86 ∷ 82 ∷ d ∷ e ∷ u) × ((d ≡ 0) × ((e ≡ 1) ⊎ (e ≡ 2)) → ⊥)

-- as a test: three bytes at least are as in a heading, and not five (Laws/Check: the same)
unfoldable pub other_version : List ℕ → Bool
other_version t = leb 5 (length t) && (leb 3 (lead least greatest t) && ltb (lead least greatest t) 5)

-- 13: "text longer than 65,536 bytes". 10. 9: "text not of the grammar"
unfoldable pub text_refusal : List ℕ → ℕ
unfolding other_version
text_refusal t = refuse (ltb 65536 (length t)) 13 otherwise refuse (other_version t) 10 otherwise refuse (not (is_text t)) 9

-- "For 9 the place is ..": 0 with any other number
abbrev pub place_with : ℕ → List ℕ → ℕ
place_with r t = cond (eqb r 9) (place_of t) 0

-- the profile, the arrangement, "the number of whole cells in the reading and the sum of their sizes", where the body starts; or the refusal and the place
abbrev pub answer : ℕ → List ℕ → Result Checked Refused
answer zero t = Ok (record { profile = profile_of t; arrangement = record { north = north_of t; south = south_of t }; cells = length (whole_cells (nodes_of t)); size = size_sum (whole_cells (nodes_of t)); body = body_start t })
answer (suc r) t = Err (record { refusal = suc r; place = place_with (suc r) t })

unfoldable pub checked_of : List ℕ → Result Checked Refused
unfolding text_refusal
checked_of t = answer (text_refusal t) t
