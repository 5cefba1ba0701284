-- The authalic sine (02 W-203): "the quotient of two sums over k from 0 to 9", in whole numbers. The quotient itself is never taken. Assumes nothing.
use Rattle.std.specs.Prelude.{ℕ, zero, suc, ◌+◌, ◌-◌, ◌*◌, ◌/◌, ◌^◌, ◌≤◌, ℤ, pos, nat_abs, ◌+ℤ◌, ◌-ℤ◌, ◌*ℤ◌}
use Rattle.std.proofs.Math.IntN.{pow}

-- "(2k+2)/(2k+1) times E^k times S^(2k+1) in real units", which are E / 10^12 and S / 10^18. So that all terms are whole numbers they are
-- taken 14549535 x 10^450 times: 14549535 is the least common multiple of 1, 3, .., 19 (Laws/Sums, `term-exact`)
unfoldable pub term : (E : ℕ) (S : ℤ) (k : ℕ) → ℤ
term E S k = pos ((2 * k + 2) * (14549535 / (2 * k + 1)) * E ^ k * 10 ^ (48 * (9 - k))) *ℤ pow S (2 * k + 1)

-- f k + f (k + 1) + .., n of them
unfoldable pub sum : (ℕ → ℤ) → (k n : ℕ) → ℤ
sum f k zero = pos 0
sum f k (suc n) = f k +ℤ sum f (suc k) n

-- "over k from 0 to 9: above"
unfoldable pub above : (E : ℕ) (S : ℤ) → ℤ
above E S = sum (term E S) 0 10

-- "below, the same with the sine 1"
unfoldable pub below : (E : ℕ) → ℤ
below E = above E (pos (10 ^ 18))

-- how far an answer z, in units of 10^-18, is from "that exact quotient", times the sum below
unfoldable pub error : (E : ℕ) (S z : ℤ) → ℕ
error E S z = nat_abs (z *ℤ below E -ℤ pos (10 ^ 18) *ℤ above E S)

-- "within" t "units of that exact quotient, stated in whole numbers"
unfoldable pub Near : (t E : ℕ) (S z : ℤ) → Type 0
unfolding error
Near t E S z = error E S z ≤ t * nat_abs (below E)
