-- Numbers that fit, and the fractions of the finest resolution. Assumes nothing.
use mathlib.Core.Path.{◌≡◌, sym, ap, ap₂, ◌∙◌}
use mathlib.Core.Bool.{Bool, true, false}
use Prim.Native.Nat.{ℕ, ◌+◌, ◌-◌, ◌*◌, ◌/◌, ◌^◌, ◌≤◌, ◌<◌}
use native.Mathlib.Nat.{mul-le-mul, mul_left_comm, mul-mul-mul_comm, mul-pos, mul-lt-mul_of_pos_left, mul-div-mul_left}
use native.Mathlib.Omega.{arith}
use lib.IntN.{sub_ℕ}
use Rattle.ternary.proofs.Laws.Powers.{power-add}
use Rattle.nucleus.specs.Nucleus.{floor_z, north_z, south_z}
use Rattle.nucleus.specs.Internal.Caps.{cap_z}
use Rattle.nucleus.specs.Internal.FlooredLaws.{floor-times}

-- the height's square is at most the side's
pub height-le : (m h : ℕ) → h < m → h * h ≤ m * m
height-le m h l = mul-le-mul {n₂ = m} {m₂ = m} (omega arith) (omega arith)

-- 3^15 is 3^(15-k) times 3^k
pub up-times : (k : ℕ) → k ≤ 15 → 3 ^ (15 - k) * 3 ^ k ≡ 14348907
up-times k h = let e : 15 - k + k ≡ 15 = omega arith in sym (power-add (15 - k) k) ∙ ap (λ (x : ℕ). 3 ^ x) e

module _ (up m : ℕ) (u0 : 0 < up) (m0 : 0 < m) (e : up * m ≡ 14348907) where
  pub finer-along : (a : ℕ) → 450000000 * (up * a) / 14348907 ≡ 450000000 * a / m
  finer-along a = ap₂ ◌/◌ (mul_left_comm 450000000 up a) (sym e) ∙ mul-div-mul_left (450000000 * a) m u0

  pub finer-z :
      (b : ℕ) →
      floor_z (sub_ℕ (2000000000000000000 * 14348907) (2000000000000000000 * (up * b))) (3 * 14348907) ≡
      floor_z (sub_ℕ (2000000000000000000 * m) (2000000000000000000 * b)) (3 * m)
  finer-z b =
      floor-times up (2000000000000000000 * m) (2000000000000000000 * b) (3 * m) u0 (omega arith)
      (ap (λ (x : ℕ). 2000000000000000000 * x) (sym e) ∙ mul_left_comm 2000000000000000000 up m)
      (mul_left_comm 2000000000000000000 up b)
      (ap (λ (x : ℕ). 3 * x) (sym e) ∙ mul_left_comm 3 up m)

  -- a number of the coarser side, scaled
  pub finer-lt : (a : ℕ) → a < 2 * m → up * a < 28697814
  finer-lt a h = let l : up * a < up * (2 * m) = mul-lt-mul_of_pos_left h u0 in omega (arith, mul_left_comm up 2 m)

  -- the squares grow by up up
  grown : (x : ℕ) → up * x * (up * x) ≡ up * up * (x * x)
  grown x = mul-mul-mul_comm up x up x

  tripled : 3 * (14348907 * 14348907) ≡ up * up * (3 * (m * m))
  tripled = ap (λ (x : ℕ). 3 * (x * x)) (sym e) ∙ ap (λ (x : ℕ). 3 * x) (grown m) ∙ mul_left_comm 3 (up * up) (m * m)

  module _ (h : ℕ) where
    side : 1000000000000000000 * (3 * (14348907 * 14348907)) ≡ up * up * (1000000000000000000 * (3 * (m * m)))
    side = ap (λ (x : ℕ). 1000000000000000000 * x) tripled ∙ mul_left_comm 1000000000000000000 (up * up) (3 * (m * m))

    tall : 1000000000000000000 * (up * h * (up * h)) ≡ up * up * (1000000000000000000 * (h * h))
    tall = ap (λ (x : ℕ). 1000000000000000000 * x) (grown h) ∙ mul_left_comm 1000000000000000000 (up * up) (h * h)

    three-pos : 0 < 3 * (m * m)
    three-pos = omega (arith, mul-pos m0 m0)

    pub finer-cap : (south : Bool) → cap_z south 14348907 (up * h) ≡ cap_z south m h
    unfolding south_z north_z
    finer-cap true =
        floor-times (up * up) (1000000000000000000 * (h * h)) (1000000000000000000 * (3 * (m * m))) (3 * (m * m)) (mul-pos u0 u0) three-pos tall side tripled
    finer-cap false =
        floor-times (up * up) (1000000000000000000 * (3 * (m * m))) (1000000000000000000 * (h * h)) (3 * (m * m)) (mul-pos u0 u0) three-pos side tall tripled
