-- Comparing two texts (02, W-205): the three listings, what is answered, the refusals and their order. Assumes nothing.
use Rattle.std.specs.Prelude.{◌≡◌, Bool, ◌&&◌, ◌||◌, not, List, map, ℕ, zero, suc, eqb, ltb, length, Err, Ok, Result}
use Rattle.reading.specs.declared.Refused.{Refused}
use Rattle.comparing.specs.declared.Compared.{Compared}
use Rattle.logic.specs.Lent.{in_front}
use Rattle.logic.specs.Refusal.{refuse, ◌otherwise◌, given}
use Rattle.cell.specs.declared.Cell.{Cell}
use Rattle.code.specs.Code.{code_of}
use Rattle.reading.specs.Reading.{Nodes}
use Rattle.reading.specs.Ground.{whole_cells, Covers, size_sum}
use Rattle.reading.specs.TextReading.{nodes_of, north_of, south_of, text_arrangement}
use Rattle.reader.specs.Check.{text_refusal, place_with}
use Rattle.comparing.specs.declared.Listing.{Listing}
use Rattle.comparing.specs.Shared.{shared}

-- ---- "ground only in the first, only in the second, and in both", of two readings

abbrev pub OnlyFirst : Nodes → Nodes → Cell → Type 0
OnlyFirst a b x = Covers (whole_cells a) x × (Covers (whole_cells b) x → ⊥)

abbrev pub OnlySecond : Nodes → Nodes → Cell → Type 0
OnlySecond a b x = (Covers (whole_cells a) x → ⊥) × Covers (whole_cells b) x

abbrev pub InBoth : Nodes → Nodes → Cell → Type 0
InBoth a b x = Covers (whole_cells a) x × Covers (whole_cells b) x

-- ---- "each as the fewest cells in rising order", computed (Laws/Compare: the only list of fewest cells of its ground)

unfoldable pub first_only : Nodes → Nodes → List Cell
first_only a b = whole_cells (shared 1 0 a b)

unfoldable pub second_only : Nodes → Nodes → List Cell
second_only a b = whole_cells (shared 0 1 a b)

unfoldable pub in_both : Nodes → Nodes → List Cell
in_both a b = whole_cells (shared 1 1 a b)

-- ---- of two texts: a list of codes for each of the three listings

pub record ThreeLists : Type 0 where
  pub firsts : List ℕ
  pub seconds : List ℕ
  pub boths : List ℕ

abbrev pub lists : List ℕ → List ℕ → List ℕ → ThreeLists
lists a b c = record { firsts = a; seconds = b; boths = c }

-- their codes, in the arrangement of the first text's heading, which is the second's too
unfoldable pub codes_for : List ℕ → List Cell → List ℕ
codes_for t cells = map (code_of (text_arrangement t)) cells

unfoldable pub shared_codes : (t u : List ℕ) → ThreeLists
unfolding codes_for
shared_codes t u =
    lists (codes_for t (first_only (nodes_of t) (nodes_of u))) (codes_for t (second_only (nodes_of t) (nodes_of u))) (codes_for t (in_both (nodes_of t) (nodes_of u)))

-- ---- the refusals

-- "14 for differing n or s"
unfoldable pub arrangements_differ : List ℕ → List ℕ → Bool
arrangements_differ t u = not (eqb (north_of t) (north_of u) && eqb (south_of t) (south_of u))

-- "if any room is short"
unfoldable pub room_short : (lent codes : ThreeLists) → Bool
room_short lent codes =
    ltb (length lent.firsts) (length codes.firsts)
    || (ltb (length lent.seconds) (length codes.seconds) || ltb (length lent.boths) (length codes.boths))

-- 13, 10, 9: the first text's, then the second's; "14 .. after both texts are read in order; 8 last"
unfoldable pub compare_refusal : (t u : List ℕ) → ThreeLists → ℕ
unfolding arrangements_differ room_short shared_codes
compare_refusal t u lent =
    text_refusal t otherwise text_refusal u otherwise refuse (arrangements_differ t u) 14 otherwise refuse (room_short lent (shared_codes t u)) 8

-- the place in the text that is refused with 9
unfoldable pub compare_place : List ℕ → List ℕ → ℕ
compare_place t u = given (text_refusal t) (place_with (text_refusal u) u) (place_with (text_refusal t) t)

-- ---- the answer: how many cells each listing has and the sum of their sizes; or the refusal and the place

abbrev pub listing_of : List Cell → Listing
listing_of cells = record { count = length cells; size = size_sum cells }

unfoldable pub compared : (r : ℕ) (t u : List ℕ) → Result Compared Refused
unfolding compare_place
compared zero t u =
    Ok (record { first = listing_of (first_only (nodes_of t) (nodes_of u)); second = listing_of (second_only (nodes_of t) (nodes_of u)); both = listing_of (in_both (nodes_of t) (nodes_of u)) })
compared (suc r) t u = Err (record { refusal = suc r; place = compare_place t u })

-- the lent codes afterwards: "A refusal changes no lent byte; an answer changes only its own length."
abbrev pub with_codes : (codes lent : ThreeLists) → ThreeLists
with_codes codes lent =
    lists (in_front codes.firsts lent.firsts) (in_front codes.seconds lent.seconds) (in_front codes.boths lent.boths)

-- what is promised
pub record Compares (t u : List ℕ) (lent later : ThreeLists) (r : Result Compared Refused) : Type 0 where
  pub answer : r ≡ compared (compare_refusal t u lent) t u
  pub memory : later ≡ given (compare_refusal t u lent) (with_codes (shared_codes t u) lent) lent
