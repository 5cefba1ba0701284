-- Whole numbers in decimal, and the lines of a flight: "a line for each fix, `longitude z`, two whole numbers in decimal". Bytes 48 to 57 are the
-- digits, 45 is the minus sign, 32 the space, 13 the carriage return. Assumes nothing.
use Rattle.std.specs.Prelude.{Bool, true, false, ◌&&◌, cond, List, [], ◌∷◌, ◌++◌, map, ℕ, zero, suc, ◌+◌, ◌-◌, ◌/◌, ◌%◌, ◌^◌, eqb, leb, ltb, ℤ, pos, negsuc, length, None, Option, Some}
use Rattle.ternary.specs.Digits.{value}
use Rattle.signed.specs.Sign.{with_sign}

abbrev pub is_decimal : ℕ → Bool
is_decimal b = leb 48 b && leb b 57

unfoldable pub all_decimal : List ℕ → Bool
all_decimal [] = true
all_decimal (b ∷ bs) = is_decimal b && all_decimal bs

-- the number that digits write
abbrev pub decimal_value : List ℕ → ℕ
decimal_value bs = value 10 (map (λ b. b - 48) bs)

-- 1 to 19 digits
unfoldable pub whole_in : List ℕ → Option ℕ
unfolding all_decimal
whole_in bs = cond (leb 1 (length bs) && (leb (length bs) 19 && all_decimal bs)) (Some (decimal_value bs)) None

-- a number too large for 63 bits is refused
unfoldable pub signed_number : Bool → Option ℕ → Option ℤ
signed_number b (Some n) = cond (ltb n (2 ^ 63)) (Some (with_sign b n)) None
signed_number b None = None

-- digits, with or without a minus sign before them
unfoldable pub number_in : List ℕ → Option ℤ
unfolding whole_in signed_number
number_in [] = None
number_in (b ∷ bs) = cond (eqb b 45) (signed_number true (whole_in bs)) (signed_number false (whole_in (b ∷ bs)))

-- what stands before the first byte that is so, and what after it
abbrev pub ahead : ℕ → List ℕ → List ℕ
ahead stop [] = []
ahead stop (b ∷ bs) = cond (eqb b stop) [] (b ∷ ahead stop bs)

abbrev pub behind : ℕ → List ℕ → List ℕ
behind stop [] = []
behind stop (b ∷ bs) = cond (eqb b stop) bs (behind stop bs)

-- a line without the carriage return that may end it
abbrev pub trimmed : List ℕ → List ℕ
trimmed [] = []
trimmed (b ∷ []) = cond (eqb b 13) [] (b ∷ [])
trimmed (b ∷ c ∷ bs) = b ∷ trimmed (c ∷ bs)

unfoldable pub fix_of : Option ℤ → Option ℤ → Option (ℤ × ℤ)
fix_of (Some longitude) (Some z) = Some (longitude, z)
fix_of (Some longitude) None = None
fix_of None other = None

-- two numbers with a space between them
unfoldable pub fix_in : List ℕ → Option (ℤ × ℤ)
unfolding number_in fix_of
fix_in line = fix_of (number_in (ahead 32 (trimmed line))) (number_in (behind 32 (trimmed line)))

-- ---- a number printed: its digits, with no zero before them

abbrev pub printed_from : ℕ → ℕ → List ℕ
printed_from zero x = []
printed_from (suc k) x = cond (ltb x 10) ((48 + x) ∷ []) (printed_from k (x / 10) ++ ((48 + x % 10) ∷ []))

-- 20 digits are enough below 2^64
unfoldable pub printed : ℕ → List ℕ
printed x = printed_from 20 x

-- a signed one
unfoldable pub printed_number : ℤ → List ℕ
unfolding printed
printed_number (pos n) = printed n
printed_number (negsuc n) = 45 ∷ printed (suc n)
