-- Metres for the plotter (02, W-214). Doubles are those of the kit's `Ieee`: a step is rounded once, to the nearest double. Assumes nothing.
use Rattle.std.specs.Prelude.{◌≡◌, Bool, false, ◌&&◌, not, ℕ, ◌+◌, ◌*◌, ◌^◌, ◌≤◌, T, ℤ, pos, nat_abs, Float}
use Rattle.std.specs.Float.{binary64, fin}
use Rattle.std.specs.Float.Ieee.{of_int, mul, div, le}
use Rattle.std.specs.Float.Ieee.Exact.{HasValue}
use Rattle.std.specs.Float.Ieee.Positive.{num, den, positive}
use Rattle.logic.specs.Refusal.{refuse}
use Rattle.signed.specs.Sign.{negative}
use Rattle.plane.specs.Plane.{face_side}

-- "the face side in metres, from 1 to 2^30"; a side that is not a number fails both comparisons
unfoldable pub is_side : Float → Bool
is_side side = le (of_int binary64 (pos 1)) side && le side (of_int binary64 (pos (2 ^ 30)))

-- the same in whole numbers (Laws/Metres, `side-exactly`): a finite number above 0, a fraction num side / den side from 1 to 2^30
pub record IsSide (side : Float) : Type 0 where
  pub finite : T (positive side)
  pub least : den side ≤ num side
  pub most : num side ≤ den side * 2 ^ 30

-- "new 19 for a side out of range or not a number"
unfoldable pub side_refusal : Float → ℕ
unfolding is_side
side_refusal side = refuse (not (is_side side)) 19

-- "each planar number becomes itself times the side, then divided by M, each step rounded once"
unfoldable pub metres_of : ℤ → Float → Float
metres_of x side = div binary64 (mul binary64 (of_int binary64 x) side) (of_int binary64 (pos face_side))

-- ---- how close that is to the exact quotient

-- b / d is within one part in t of a / c: |b / d - a / c| <= (a / c) / t, with the denominators cleared
pub record Near (t a c b d : ℕ) : Type 0 where
  pub above : b * c * t ≤ a * d * (t + 1)
  pub below : a * d * t ≤ b * c * t + a * d

-- "within one part in 2^51 of the exact one, stated in whole numbers, and is zero for zero": r is finite and has x's sign, and its size num r / den r
-- is near |x| times the side, num side / den side, divided by M
pub record NearExact (x : ℤ) (side r : Float) : Type 0 where
  pub value : HasValue r (negative x) (num r) (den r)
  pub near : Near (2 ^ 51) (nat_abs x * num side) (den side * face_side) (num r) (den r)
  pub zero : x ≡ pos 0 → r ≡ fin false 0 (pos 0)
