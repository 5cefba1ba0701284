-- A floor over a root (01 "From a fix to a cell": "A floor over the root is the whole number w with w <= value < w + 1. Both sides are decided by
-- sign and by whole-number squares"), over unbounded numbers. Assumes nothing.
use Rattle.std.specs.Prelude.{◌≡◌, Bool, true, false, ◌&&◌, ◌||◌, cond, ℕ, zero, suc, ◌+◌, ◌-◌, ◌*◌, ℤ, pos, negsuc, neg_ℤ, leb}
use Rattle.root.specs.declared.Axis.{Axis}

abbrev pub square : ℕ → ℕ
square x = x * x

-- With h = √radicand / 10^9, the value is m (1/2 + p h / 1,800,000,000), and a number w is at most the value when
--   900,000,000,000,000,000 (2w - m)  ≤  m p √radicand
-- which the signs of the two sides and their squares decide. With g the size of p, first for p ≥ 0, then for p < 0:
unfoldable pub plus_at : (m radicand g w : ℕ) → Bool
plus_at m radicand g w = leb (2 * w) m || leb (square (900000000000000000 * (2 * w - m))) (square (m * g) * radicand)

unfoldable pub minus_at : (m radicand g w : ℕ) → Bool
minus_at m radicand g w = leb (2 * w) m && leb (square (m * g) * radicand) (square (900000000000000000 * (m - 2 * w)))

unfoldable pub at_most : (m radicand : ℕ) (p : ℤ) (w : ℕ) → Bool
unfolding plus_at minus_at
at_most m radicand (pos g) w = plus_at m radicand g w
at_most m radicand (negsuc g) w = minus_at m radicand (suc g) w

-- w <= value < w + 1
pub record IsFloor (m radicand : ℕ) (p : ℤ) (w : ℕ) : Type 0 where
  pub below : at_most m radicand p w ≡ true
  pub above : at_most m radicand p (w + 1) ≡ false

-- ---- the computing form. Laws/Floor shows that it is a floor, and that no other number is one

-- the greatest number up to n that passes a test, or 0
unfoldable pub greatest : (ℕ → Bool) → ℕ → ℕ
greatest test zero = zero
greatest test (suc n) = cond (test (suc n)) (suc n) (greatest test n)

unfoldable pub root_floor : (m radicand : ℕ) (p : ℤ) → ℕ
unfolding greatest at_most
root_floor m radicand p = greatest (at_most m radicand p) m

-- ---- a signed number by its sign and its size

abbrev pub axis_of : Axis → ℤ
axis_of x = cond x.minus (neg_ℤ (pos x.size)) (pos x.size)
