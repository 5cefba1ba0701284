-- What writing answers (01 "The coverage text", "Refusal numbers"; 02, W-208 and W-210). Assumes nothing.
use Rattle.std.specs.Prelude.{◌≡◌, ◌⊎◌, Bool, true, false, ◌&&◌, ◌||◌, not, cond, List, [], ◌∷◌, ◌++◌, map, ℕ, zero, suc, ◌≤◌, ltb, eqb, length, drop, Err, Ok, Result}
use Rattle.logic.specs.Refusal.{refuse, ◌otherwise◌}
use Rattle.cell.specs.declared.Cell.{Cell}
use Rattle.cell.specs.declared.Arrangement.{Arrangement}
use Rattle.cell.specs.Cell.{arrangement_refusal}
use Rattle.code.specs.Code.{cell_of, arrangement_of, is_code, is_of}
use Rattle.code.specs.Inside.{start_of, end_of, lies_within}
use Rattle.logic.specs.Lists.{Any}
use Rattle.reading.specs.Ground.{All, Rising, Apart}
use Rattle.reading.specs.declared.Profile.{Profile}
use Rattle.reading.specs.declared.Profile.TheVariants.{Full, Handheld}
use Rattle.reading.specs.Written.{written_text, keeps}

-- ---- "rising codes, none inside another"

unfoldable pub all_codes : List ℕ → Bool
all_codes [] = true
all_codes (c ∷ cs) = is_code c && all_codes cs

-- each is of this arrangement
unfoldable pub all_of : Arrangement → List ℕ → Bool
all_of a [] = true
all_of a (c ∷ cs) = is_of a c && all_of a cs

-- a list of codes as 01 wants it, for an arrangement
pub record GoodList (a : Arrangement) (codes : List ℕ) : Type 0 where
  pub coded : all_codes codes ≡ true
  pub own : all_of a codes ≡ true
  pub rising : Rising (map cell_of codes)
  pub apart : Apart (map cell_of codes)

-- a code somewhere in the list is no cell's
abbrev pub Stray : List ℕ → Type 0
Stray [] = ⊥
Stray (c ∷ cs) = (is_code c ≡ false) ⊎ Stray cs

-- a code somewhere in the list is of another arrangement
abbrev pub Another : Arrangement → List ℕ → Type 0
Another a codes = Any (λ (c : ℕ). arrangement_of c ≡ a → ⊥) codes

-- each cell's finest cells come before those of all later ones
abbrev pub Earlier : ℕ → List Cell → Type 0
Earlier n xs = All (λ (x : Cell). n ≤ start_of x) xs

abbrev pub InTurn : List Cell → Type 0
InTurn [] = Unit {0}
InTurn (c ∷ cs) = Earlier (end_of c) cs × InTurn cs

-- ---- computed (Laws/List: 0 exactly for a good list)

-- each code is less than the next one, whose cell does not lie inside: neighbouring pairs decide, among codes of one arrangement
unfoldable pub ordered : List ℕ → Bool
ordered [] = true
ordered (c ∷ []) = true
ordered (c ∷ x ∷ cs) = ltb c x && (not (lies_within (cell_of c) (cell_of x)) && ordered (x ∷ cs))

-- 4: "a code is no cell's". 14: "also for a list .. of another arrangement, still before 11" (02, W-210). 11: "list not strictly rising, or one cell
-- inside another"
unfoldable pub codes_refusal : Arrangement → List ℕ → ℕ
unfolding all_codes all_of ordered
codes_refusal a codes = refuse (not (all_codes codes)) 4 otherwise refuse (not (all_of a codes)) 14 otherwise refuse (not (ordered codes)) 11

-- ---- the profile that is asked for, by a version and a depth

-- "version 1 .., which makes no other use of" the depth
abbrev pub asks_for : (version depth : ℕ) → Profile
asks_for version depth = cond (eqb version 1) Full (Handheld depth)

unfoldable pub is_version : ℕ → Bool
is_version version = eqb version 1 || eqb version 2

-- ---- the text and what is refused

unfoldable pub text_of : Profile → Arrangement → List ℕ → List ℕ
text_of p a codes = written_text p a.north a.south (map cell_of codes)

-- 15: "list outside the profile, after 11": "the fewest cells of its ground break it"; "13 is judged on the text of a good list"; 8: "lent buffer shorter
-- than the answer"
unfoldable pub fit_refusal : Profile → Arrangement → List ℕ → (room : ℕ) → ℕ
unfolding text_of
fit_refusal p a codes room =
    refuse (not (keeps p (map cell_of codes))) 15 otherwise
    refuse (ltb 65536 (length (text_of p a codes))) 13 otherwise
    refuse (ltb room (length (text_of p a codes))) 8

-- 5; 2: "an asked depth above 15, at version 1 too"; 4; 10: "neither 1 nor 2, asked of the writer too"; 14; 11; 15; 13; 8
unfoldable pub write_refusal : (version depth : ℕ) → Arrangement → List ℕ → (room : ℕ) → ℕ
unfolding all_codes codes_refusal fit_refusal
write_refusal version depth a codes room =
    arrangement_refusal a otherwise
    refuse (ltb 15 depth) 2 otherwise
    refuse (not (all_codes codes)) 4 otherwise
    refuse (not (is_version version)) 10 otherwise
    codes_refusal a codes otherwise
    fit_refusal (asks_for version depth) a codes room

-- the lent bytes with the text in front: "an answer changes only its own length"
unfoldable pub text_in : Profile → Arrangement → List ℕ → List ℕ → List ℕ
unfolding text_of
text_in p a codes bytes = text_of p a codes ++ drop (length (text_of p a codes)) bytes

-- ---- the answer: a length, or the number of the refusal

unfoldable pub written : ℕ → ℕ → Result ℕ ℕ
written zero n = Ok n
written (suc r) n = Err (suc r)
