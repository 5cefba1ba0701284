-- The name of a cell (01 "Faces, rows, names, codes"). Bytes 78 to 83 are the letters N to S, 48 to 56 the digits 0 to 8. Assumes nothing.
use Rattle.std.specs.Prelude.{◌≡◌, Bool, true, false, ◌&&◌, not, ℕ, zero, suc, ◌+◌, ◌-◌, ◌≤◌, List, [], ◌∷◌, ◌++◌, map, leb, ltb, length, drop, get_or, Err, Ok, Result}
use Rattle.logic.specs.Refusal.{refuse, ◌otherwise◌}
use Rattle.ternary.specs.Digits.{value}
use Rattle.cell.specs.declared.Cell.{Cell}
use Rattle.cell.specs.declared.Arrangement.{Arrangement}
use Rattle.code.specs.Code.{digits_of, code_at, cell_of, code_refusal}

abbrev pub digit_bytes : List ℕ → List ℕ
digit_bytes ds = map (λ d. 48 + d) ds

-- "Its name is the face letter and k digits, coarsest first"
unfoldable pub name_of : Cell → List ℕ
name_of c = (78 + c.face) ∷ digit_bytes (digits_of c.resolution c.row c.column)

-- ---- a name read

unfoldable pub first_letter : List ℕ → Bool
first_letter [] = false
first_letter (b ∷ bs) = leb 78 b && leb b 83

abbrev pub is_digit : ℕ → Bool
is_digit b = leb 48 b && leb b 56

unfoldable pub all_digits : List ℕ → Bool
all_digits [] = true
all_digits (b ∷ bs) = is_digit b && all_digits bs

-- 2: name over 16 bytes. 1: empty name, first byte not N to S. 3: later name byte not 0 to 8
unfoldable pub name_refusal : List ℕ → ℕ
unfolding first_letter all_digits
name_refusal bs =
    refuse (ltb 16 (length bs)) 2 otherwise
    refuse (not (first_letter bs)) 1 otherwise
    refuse (not (all_digits (drop 1 bs))) 3

abbrev pub digits_in : List ℕ → List ℕ
digits_in bs = map (λ b. b - 48) (drop 1 bs)

-- the code of the cell that is named, in an arrangement
unfoldable pub name_code : Arrangement → List ℕ → ℕ
name_code a bs = code_at a (get_or bs 0 0 - 78) (length bs - 1) (value 9 (digits_in bs))

-- ---- a name written

-- 4: no cell's code. 8: lent buffer shorter than the answer
unfoldable pub code_name_refusal : (code room : ℕ) → ℕ
code_name_refusal code room = code_refusal code otherwise refuse (ltb room (length (name_of (cell_of code)))) 8

-- the lent bytes with the name in front: "an answer changes only its own length"
unfoldable pub name_in : ℕ → List ℕ → List ℕ
name_in code bytes = name_of (cell_of code) ++ drop (length (name_of (cell_of code))) bytes

-- ---- the answer: a length, or the number of the refusal

unfoldable pub named : ℕ → ℕ → Result ℕ ℕ
named zero n = Ok n
named (suc r) n = Err (suc r)

-- what each case stands for
abbrev pub refusal_in : Result ℕ ℕ → ℕ
refusal_in (Ok n) = 0
refusal_in (Err r) = r

abbrev pub length_in : Result ℕ ℕ → ℕ
length_in (Ok n) = n
length_in (Err r) = 0

-- the form of a name: at most 16 bytes, a letter N to S, and digits 0 to 8
pub record NameForm (bs : List ℕ) : Type 0 where
  pub short : length bs ≤ 16
  pub lettered : first_letter bs ≡ true
  pub digital : all_digits (drop 1 bs) ≡ true
