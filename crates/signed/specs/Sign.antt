-- A signed number's sign, and the number that a sign and a size make. Assumes nothing.
use Rattle.std.specs.Prelude.{Bool, true, false, ℕ, ℤ, pos, negsuc, neg_ℤ}

-- below 0; `negsuc n` is -(n + 1)
abbrev pub negative : ℤ → Bool
negative (pos n) = false
negative (negsuc n) = true

-- -n, or n
abbrev pub with_sign : Bool → ℕ → ℤ
with_sign true n = neg_ℤ (pos n)
with_sign false n = pos n
