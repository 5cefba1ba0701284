-- A number read at a place of the bytes, as the code answers it. Assumes nothing.
use Rattle.std.specs.Prelude.{cond, List, ℕ, ◌+◌, ltb, take, drop, Err, Ok, Result}
use Rattle.ternary.specs.Digits.{value}
use Rattle.fields.specs.Read.{reach, Read, wrong}

unfoldable pub number_at : (s : List ℕ) (at w least most : ℕ) → Result ℕ ℕ
number_at s at w least most =
    cond (ltb (reach w least most 0 (drop at s)) w) (Err (at + reach w least most 0 (drop at s))) (Ok (value 256 (take w (drop at s))))

-- what follows a number
abbrev pub by_number : {A : Type 0} → Result ℕ ℕ → (ℕ → Read A) → Read A
by_number (Ok v) next = next v
by_number (Err place) next = wrong place
