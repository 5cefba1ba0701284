-- What a part of 2^56 says of the number that it was made of. Assumes nothing.
use Rattle.std.specs.Prelude.{◌≡◌, Bool, true, ℤ, nat_abs}
use Rattle.std.proofs.Common.{sym, ap, ◌∙◌, le_refl, mul-one, mul_assoc, mul_comm, mul_right_comm, mul-le-mul_left, mul-le-mul_right, mul-lt-mul_of_pos_right, le_of_mul-le-mul_right, lt_of_mul-lt-mul_right, lit<, lit≤, ltb-true}
use Prim.Native.Nat.{ℕ, ◌+◌, ◌-◌, ◌*◌, ◌/◌, ◌%◌, ◌^◌, ◌≤◌, ◌<◌}
use Rattle.std.proofs.Math.Nat.{mul-add, mul-div-mul_right, mul-lt-mul_of_pos_left}
use native.Mathlib.Omega.{arith}
use Rattle.ternary.proofs.Laws.Powers.{power_pos, power-add}
use Rattle.wide.specs.High.{high_word}
use Rattle.wide.specs.Laws.High.{high-under, high-over}
use Rattle.root.specs.declared.Axis.{Axis}
use Rattle.root.specs.Floor.{root_floor, axis_of}
use Rattle.root.specs.Part.{firm, part_of}
use Rattle.root.specs.Laws.Floor.{floor-part}
use Rattle.root.specs.Internal.Bracket.{low_part}
use Rattle.root.specs.Internal.Between.{Given, root-small, low_small, low_fits, size_fits, roomy}

-- ---- three fractions one after the other, crosswise: b / M, a / P and x / U

module _ (P U M a b x : ℕ) where
  left : b * U * P ≡ b * P * U
  left = mul_right_comm b U P

  right : M * x * P ≡ M * (x * P)
  right = mul_assoc M x P

  middle : M * a * U ≡ M * (a * U)
  middle = mul_assoc M a U

  cross-le : 0 < P → b * P ≤ M * a → a * U ≤ x * P → b * U ≤ M * x
  cross-le p h k =
      let l : b * P * U ≤ M * a * U = mul-le-mul_right U h in
      let m : M * (a * U) ≤ M * (x * P) = mul-le-mul_left M k in
      le_of_mul-le-mul_right {m = b * U} {n = M * x} {k = P} (omega (arith, left, right, middle)) p

  cross-lt-first : 0 < U → M * a < b * P → x * P ≤ a * U → M * x < b * U
  cross-lt-first u h k =
      let l : M * a * U < b * P * U = mul-lt-mul_of_pos_right h u in
      let m : M * (x * P) ≤ M * (a * U) = mul-le-mul_left M k in
      lt_of_mul-lt-mul_right P {m = M * x} {n = b * U} (omega (arith, left, right, middle))

  cross-lt : 0 < M → M * a ≤ b * P → x * P < a * U → M * x < b * U
  cross-lt p h k =
      let l : M * a * U ≤ b * P * U = mul-le-mul_right U h in
      let m : M * (x * P) < M * (a * U) = mul-lt-mul_of_pos_left k p in
      lt_of_mul-lt-mul_right P {m = M * x} {n = b * U} (omega (arith, left, right, middle))

-- ---- x of U as a part of 2^56: c is 2^120 / U, rounded down, and the part is less than 2 too small

module _ (U c x : ℕ) (u : 0 < U) (low : c * U ≤ 2 ^ 56 * 2 ^ 64) (high : 2 ^ 56 * 2 ^ 64 ≤ (c + 1) * U) (small : x < 2 ^ 64) where
  pub part-under : high_word x c * U ≤ x * 2 ^ 56
  part-under = cross-le (2 ^ 64) U x c (high_word x c) (2 ^ 56) (lit< tt) (high-under x c) low

  pub part-over : x * 2 ^ 56 < (high_word x c + 2) * U
  part-over =
      let h = high-over x c in
      let e : x * (c + 1) ≡ x * c + x = mul-add x c 1 ∙ ap (λ (y : ℕ). x * c + y) (mul-one x) in
      let l : x * (c + 1) < (high_word x c + 2) * 2 ^ 64 = omega arith in
      cross-lt-first (2 ^ 64) U x (c + 1) (high_word x c + 2) (2 ^ 56) u l high

  pub part-lt : x < U → high_word x c < 2 ^ 56
  part-lt l =
      let h = part-under in
      let e : U * 2 ^ 56 ≡ 2 ^ 56 * U = mul_comm U (2 ^ 56) in
      let k : x * 2 ^ 56 < U * 2 ^ 56 = mul-lt-mul_of_pos_right l (lit< tt) in
      lt_of_mul-lt-mul_right U {m = high_word x c} {n = 2 ^ 56} (omega arith)

-- ---- fifteen digits of a part, and of what is at most k more

firm-above : (part k room : ℕ) → (65536 + k) * 14348907 ≤ room * 65536 → firm part room ≡ true → 14348907 * (part + k) ≤ (part * 3 ^ 15 / 2 ^ 56 + 1) * 2 ^ 56
unfolding firm
firm-above part k room h t =
    let f = ltb-true (part / 65536 * 14348907 % 1099511627776 + room) 1099511627776 t in
    let w : ℕ = part / 65536 * 14348907 / 1099511627776 in
    let e : part * 14348907 / 72057594037927936 ≡ w = omega arith in
    omega arith

-- x of U has the digits of its part, and so has x + g
module _ (U c x g k room : ℕ) (u : 0 < U) (low : c * U ≤ 2 ^ 56 * 2 ^ 64) (high : 2 ^ 56 * 2 ^ 64 ≤ (c + 1) * U) (small : x < 2 ^ 64) where
  abbrev digits : ℕ
  digits = high_word x c * 3 ^ 15 / 2 ^ 56

  pub firm-low : digits * U ≤ 3 ^ 15 * x
  firm-low = cross-le (2 ^ 56) U (3 ^ 15) (high_word x c) digits x (lit< tt) (omega arith) (part-under U c x u low high small)

  pub firm-high : g * 2 ^ 56 ≤ k * U → (65536 + (k + 2)) * 14348907 ≤ room * 65536 → firm (high_word x c) room ≡ true → 3 ^ 15 * (x + g) < (digits + 1) * U
  firm-high l h t =
      let o = part-over U c x u low high small in
      let e : (high_word x c + (k + 2)) * U ≡ (high_word x c + 2) * U + k * U = omega arith in
      let p : (x + g) * 2 ^ 56 < (high_word x c + (k + 2)) * U = omega arith in
      cross-lt (2 ^ 56) U (3 ^ 15) (high_word x c + (k + 2)) (digits + 1) (x + g) (lit< tt) (firm-above (high_word x c) (k + 2) room h t) p

-- ---- the lower end of what a floor over a root lies between

pub end_lt : (minus : Bool) (g root : ℕ) → g ≤ 900000000 → root < 1000000000 → part_of minus g root < 2 ^ 56
unfolding part_of
end_lt minus g root hg hr =
    let s = low_small minus g root hg hr in
    part-lt 1800000000000000000 738459997658286596 (low_part minus g root) (lit< tt) (lit≤ tt) (lit≤ tt) (omega arith) s

pub whole-root-lt : (root radicand : ℕ) → root * root ≤ radicand → radicand < 10 ^ 18 → root < 1000000000
whole-root-lt root radicand h l = root-small root radicand h l

-- the first digits of the floor at resolution 15
pub floor-coarser : (k radicand : ℕ) (p : ℤ) → k ≤ 15 → nat_abs p ≤ 900000000 → radicand < 10 ^ 18 → root_floor (3 ^ 15) radicand p * 3 ^ k / 3 ^ 15 ≡ root_floor (3 ^ k) radicand p
floor-coarser k radicand p h hp ht =
    let up : ℕ = 3 ^ (15 - k) in
    let f : 15 - k + k ≡ 15 = omega arith in
    let e : 14348907 ≡ up * 3 ^ k = ap (λ (x : ℕ). 3 ^ x) (sym f) ∙ power-add (15 - k) k in
    ap (λ (x : ℕ). root_floor x radicand p * 3 ^ k / x) e ∙ mul-div-mul_right (root_floor (up * 3 ^ k) radicand p) up (power_pos k) ∙ floor-part up (3 ^ k) radicand p
    (power_pos (15 - k)) (power_pos k) hp ht

-- both ends have the digits of the lower one's part
module _ (radicand root : ℕ) (p : Axis) (height : radicand < 10 ^ 18) (size : p.size ≤ 900000000) (under : root * root ≤ radicand) (over : radicand < (root + 1) * (root + 1)) where
  given : Given (3 ^ 15) radicand root p
  given = record { positive = lit< tt; small = le_refl 14348907; height = height; size = size; under = under; over = over }

  part-finest : firm (part_of p.minus p.size root) 7902744606 ≡ true → part_of p.minus p.size root * 3 ^ 15 / 2 ^ 56 ≡ root_floor (3 ^ 15) radicand (axis_of p)
  unfolding part_of
  part-finest t =
      let x = low_part p.minus p.size root in
      let s = low_fits given in
      let h : x < 2 ^ 64 = omega arith in
      let a = firm-low 1800000000000000000 738459997658286596 x p.size 36028798 7902744606 (lit< tt) (lit≤ tt) (lit≤ tt) h in
      let b = firm-high 1800000000000000000 738459997658286596 x p.size 36028798 7902744606 (lit< tt) (lit≤ tt) (lit≤ tt) h (omega arith) (lit≤ tt) t in
      let w : ℕ = high_word x 738459997658286596 * 14348907 / 72057594037927936 in
      let e : 14348907 * (x + p.size) ≡ 14348907 * x + 14348907 * p.size = mul-add 14348907 x p.size in
      roomy given w (14348907 * x - w * 1800000000000000000) (omega arith) (omega arith)

  pub part-floor :
      (k : ℕ) → k ≤ 15 → firm (part_of p.minus p.size root) 7902744606 ≡ true →
      part_of p.minus p.size root * 3 ^ 15 / 2 ^ 56 * 3 ^ k / 3 ^ 15 ≡ root_floor (3 ^ k) radicand (axis_of p)
  part-floor k h t = ap (λ (w : ℕ). w * 3 ^ k / 3 ^ 15) (part-finest t) ∙ floor-coarser k radicand (axis_of p) h (size_fits given) height
