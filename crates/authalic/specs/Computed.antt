-- Our answer to W-203: the computing form. Every product is cut to its upper word, and so has a small error. What the answer has to be says
-- Authalic.antt, and that it is that says Laws/Authalic. Assumes nothing.
use Rattle.std.specs.Prelude.{ℕ, zero, suc, ◌+◌, ◌-◌, ◌*◌, ◌/◌, ◌^◌, ℤ, nat_abs}
use Rattle.wide.specs.High.{high_word}
use Rattle.signed.specs.Sign.{negative, with_sign}

-- With e = E / 10^12, s = S / 10^18 and x = e s^2 half the sum above is s (1 + 2/3 x + 3/5 x^2 + ..), and half the sum below is that with
-- s = 1. A number x is kept in units of 2^-64, the value of the series in units of 1 / 18320000000000000000.

-- e, in units of 10^36 / 2^184
unfoldable pub eccentricity_word : ℕ → ℕ
eccentricity_word E = high_word (E * 1073741824) 421249166674228746

-- x, from s and the word for e
unfoldable pub point_word : (s e : ℕ) → ℕ
point_word s e = high_word (high_word (16 * s) (16 * s)) e

-- (k + 1) / (2k + 1)
unfoldable pub coefficient : ℕ → ℕ
coefficient k = (k + 1) * 18320000000000000000 / (2 * k + 1)

-- the n + 1 coefficients from the k-th on, by Horner's rule
unfoldable pub series : (x k n : ℕ) → ℕ
series x k zero = coefficient k
series x k (suc n) = coefficient k + high_word x (series x (suc k) n)

unfoldable pub series_word : (x : ℕ) → ℕ
unfolding series coefficient
series_word x = series x 0 9

-- y (2^64 + a) / 2^64
unfoldable pub grown : (y a : ℕ) → ℕ
grown y a = y + high_word y a

-- 2^64 w / b, by 1 / (1 - a) = (1 + a) (1 + a^2) (1 + a^4) ..
unfoldable pub share_word : (w b : ℕ) → ℕ
unfolding grown
share_word w b =
    let a : ℕ = 2 ^ 64 - b in
    let c : ℕ = high_word a a in
    grown (grown (grown w a) c) (high_word c c)

-- how much less than s the answer is: s (b - a) / b, to the nearest
unfoldable pub less_word : (s a b : ℕ) → ℕ
unfolding share_word
less_word s a b = (share_word (high_word (16 * s) (128 * (b - a))) b + 1024) / 2048

-- the answer for s from 0 to 10^18
unfoldable pub sine_word : (E s : ℕ) → ℕ
unfolding eccentricity_word point_word series_word less_word
sine_word E s =
    s - less_word s (series_word (point_word s (eccentricity_word E))) (series_word (point_word (10 ^ 18) (eccentricity_word E)))

-- the answer: in the south the mirror of the north
unfoldable pub authalic_sine : (S : ℤ) (E : ℕ) → ℤ
authalic_sine S E = with_sign (negative S) (sine_word E (nat_abs S))
