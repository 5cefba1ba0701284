-- The estimates by `root` and by `root + 1`, and that the floor lies between them. Assumes nothing.
use Rattle.std.specs.Prelude.{◌≡◌, Bool, cond, pos, neg_ℤ, nat_abs}
use Rattle.std.proofs.Common.{sym, ap, ◌∙◌, ⊎_elim, le_of_lt, lt_of_not-le, mul-le-mul, mul-add, mul-one, mul_assoc, div-lt_iff_lt-mul, arith, lit<}
use Rattle.std.proofs.Math.Path.{subst}
use Rattle.std.proofs.Math.Bool.{true, false}
use Prim.Native.Nat.{ℕ, zero, suc, ◌+◌, ◌-◌, ◌*◌, ◌^◌, ◌≤◌, ◌<◌}
use Rattle.std.proofs.Math.Nat.{mul-lt-mul_of_pos_left}
use Rattle.logic.specs.Laws.Order.{lt-or}
use Rattle.root.specs.declared.Axis.{Axis}
use Rattle.root.specs.Floor.{plus_at, minus_at, at_most, IsFloor, root_floor, axis_of}
use Rattle.root.specs.Laws.Square.{under-root, under-root-lt, over_root, over-root-lt, plus-square, plus-not, minus_is, minus-not, minus-over}
use Rattle.root.specs.Laws.Floor.{one-floor, floor-is, at-most-up, axis-size}
use Rattle.root.specs.Internal.Bracket.{low_part, high_part, share}

-- ---- sizes

pub root-small : (r radicand : ℕ) → r * r ≤ radicand → radicand < 10 ^ 18 → r < 1000000000
root-small r radicand h l = lt_of_not-le (λ k. let s : 1000000000 * 1000000000 ≤ r * r = mul-le-mul k k in omega arith)

pub product_small : (m g : ℕ) → m ≤ 14348907 → g ≤ 900000000 → m * g ≤ 12914016300000000
product_small m g hm hg = mul-le-mul {n₂ = 14348907} {m₂ = 900000000} hm hg

pub one_more : (y r : ℕ) → y * (r + 1) ≡ y * r + y
one_more y r = mul-add y r 1 ∙ ap (λ (x : ℕ). y * r + x) (mul-one y)

-- g root, with room for another g
pub part_small : (g r : ℕ) → g ≤ 900000000 → r < 1000000000 → g * r + g ≤ 900000000000000000
part_small g r h l = let k : g * (r + 1) ≤ 900000000 * 1000000000 = mul-le-mul {n₂ = 900000000} {m₂ = 1000000000} h (omega arith) in omega (arith, one_more g r)

-- ---- the value lies between them

module _ (m radicand g root : ℕ) (hg : g ≤ 900000000) (hr : root < 1000000000) (lo : root * root ≤ radicand) (hi : radicand < (root + 1) * (root + 1)) where
  added : (r : ℕ) → m * (900000000000000000 + g * r) ≡ 900000000000000000 * m + m * g * r
  added r = omega (arith, mul-add m 900000000000000000 (g * r), mul_assoc m g r)

  taken : (r : ℕ) → g * r ≤ 900000000000000000 → m * (900000000000000000 - g * r) + m * g * r ≡ 900000000000000000 * m
  taken r h =
      let e : 900000000000000000 - g * r + g * r ≡ 900000000000000000 = omega arith in
      omega (arith, mul-add m (900000000000000000 - g * r) (g * r), mul_assoc m g r, ap (λ (x : ℕ). m * x) e)

  plus-low : plus_at m radicand g (share m (900000000000000000 + g * root)) ≡ true
  plus-low = let e = added root in plus-square m radicand g (share m (900000000000000000 + g * root)) (under-root (m * g) root radicand (omega arith) lo)

  plus-high : plus_at m radicand g (share m (900000000000000000 + g * (root + 1)) + 1) ≡ false
  plus-high =
      let e = added (root + 1) in
      plus-not m radicand g (share m (900000000000000000 + g * (root + 1)) + 1) (omega arith) (over-root-lt (m * g) (root + 1) radicand (omega arith) (le_of_lt hi))

  minus-low : minus_at m radicand g (share m (900000000000000000 - g * (root + 1))) ≡ true
  minus-low =
      let s = part_small g root hg hr in
      let e = taken (root + 1) (omega (arith, one_more g root)) in
      minus_is m radicand g (share m (900000000000000000 - g * (root + 1))) (omega arith) (over_root (m * g) (root + 1) radicand (omega arith) (le_of_lt hi))

  minus-high : minus_at m radicand g (share m (900000000000000000 - g * root) + 1) ≡ false
  minus-high =
      let s = part_small g root hg hr in
      let e = taken root (omega arith) in
      let w : ℕ = share m (900000000000000000 - g * root) + 1 in
      ⊎_elim (λ h. minus-over m radicand g w h) (λ h. minus-not m radicand g w (under-root-lt (m * g) root radicand (omega arith) lo)) (lt-or m (2 * w))

-- of either sign; the tests of minus 0 are those of plus 0
module _ (m radicand root : ℕ) (hr : root < 1000000000) (lo : root * root ≤ radicand) (hi : radicand < (root + 1) * (root + 1)) where
  low-at : (b : Bool) (g : ℕ) → g ≤ 900000000 → at_most m radicand (cond b (neg_ℤ (pos g)) (pos g)) (share m (low_part b g root)) ≡ true
  unfolding at_most
  low-at false g hg = plus-low m radicand g root hg hr lo hi
  low-at true zero hg = subst (λ (x : ℕ). plus_at m radicand 0 (share m x) ≡ true) (omega arith) (plus-low m radicand 0 root hg hr lo hi)
  low-at true (suc g) hg = minus-low m radicand (suc g) root hg hr lo hi

  high-at : (b : Bool) (g : ℕ) → g ≤ 900000000 → at_most m radicand (cond b (neg_ℤ (pos g)) (pos g)) (share m (high_part b g root) + 1) ≡ false
  unfolding at_most
  high-at false g hg = plus-high m radicand g root hg hr lo hi
  high-at true zero hg = subst (λ (x : ℕ). plus_at m radicand 0 (share m x + 1) ≡ false) (omega arith) (plus-high m radicand 0 root hg hr lo hi)
  high-at true (suc g) hg = minus-high m radicand (suc g) root hg hr lo hi

-- the ends lie g apart, and m times that is less than a step
ends-apart : (b : Bool) (g root : ℕ) → g ≤ 900000000 → root < 1000000000 → high_part b g root ≡ low_part b g root + g
ends-apart false g root hg hr = omega (arith, one_more g root)
ends-apart true g root hg hr = omega (arith, one_more g root, part_small g root hg hr)

apart : (b : Bool) (m g root : ℕ) → m ≤ 14348907 → g ≤ 900000000 → root < 1000000000 → share m (high_part b g root) ≤ share m (low_part b g root) + 1
apart b m g root hm hg hr =
    let e : m * high_part b g root ≡ m * low_part b g root + m * g = ap (λ (x : ℕ). m * x) (ends-apart b g root hg hr) ∙ mul-add m (low_part b g root) g in
    omega (arith, product_small m g hm hg)

pub low_small : (b : Bool) (g root : ℕ) → g ≤ 900000000 → root < 1000000000 → low_part b g root < 1800000000000000000
low_small false g root hg hr =
    let h : g * root ≤ 900000000 * 999999999 = mul-le-mul {n₂ = 900000000} {m₂ = 999999999} hg (omega arith) in omega arith
low_small true g root hg hr = omega arith

-- ---- which of the two it is

pub record Given (m radicand root : ℕ) (p : Axis) : Type 0 where
  pub positive : 0 < m
  pub small : m ≤ 14348907
  pub height : radicand < 10 ^ 18
  pub size : p.size ≤ 900000000
  pub under : root * root ≤ radicand
  pub over : radicand < (root + 1) * (root + 1)

module _ {m radicand root : ℕ} {p : Axis} (v : Given m radicand root p) where
  abbrev pub low : ℕ
  low = share m (low_part p.minus p.size root)

  abbrev pub high : ℕ
  high = share m (high_part p.minus p.size root)

  pub root-fits : root < 1000000000
  root-fits = root-small root radicand v.under v.height

  pub low_fits : low_part p.minus p.size root < 1800000000000000000
  low_fits = low_small p.minus p.size root v.size root-fits

  pub low-lt : low < m
  low-lt = (div-lt_iff_lt-mul {k = 1800000000000000000} {x = m * low_part p.minus p.size root} {y = m} (lit< tt)).1 (mul-lt-mul_of_pos_left low_fits v.positive)

  pub size_fits : nat_abs (axis_of p) ≤ 900000000
  size_fits = rw (axis-size p) v.size

  low_below : at_most m radicand (axis_of p) low ≡ true
  low_below = low-at m radicand root root-fits v.under v.over p.minus p.size v.size

  high-above : at_most m radicand (axis_of p) (high + 1) ≡ false
  high-above = high-at m radicand root root-fits v.under v.over p.minus p.size v.size

  settled : {w : ℕ} → IsFloor m radicand (axis_of p) w → w ≡ root_floor m radicand (axis_of p)
  settled f = one-floor f (floor-is m radicand (axis_of p) v.positive size_fits v.height)

  agreed : low ≡ high → low ≡ root_floor m radicand (axis_of p)
  agreed e = settled (record { below = low_below; above = subst (λ (w : ℕ). at_most m radicand (axis_of p) (w + 1) ≡ false) (sym e) high-above })

  -- the rest has room for the upper end too
  pub roomy : (w r : ℕ) → w * 1800000000000000000 + r ≡ m * low_part p.minus p.size root → r + m * p.size < 1800000000000000000 → w ≡ root_floor m radicand (axis_of p)
  roomy w r e h =
      let f : m * high_part p.minus p.size root ≡ m * low_part p.minus p.size root + m * p.size =
      ap (λ (x : ℕ). m * x) (ends-apart p.minus p.size root v.size root-fits) ∙ mul-add m (low_part p.minus p.size root) p.size
      in
      let a : w ≡ low = omega arith in
      let b : low ≡ high = omega arith in
      a ∙ agreed b

  -- the exact test of the next
  pub upper : {w : ℕ} → w ≡ low → at_most m radicand (axis_of p) (w + 1) ≡ true → w + 1 ≡ root_floor m radicand (axis_of p)
  upper {w} e y =
      let l = apart p.minus m p.size root v.small v.size root-fits in
      settled (record { below = y; above = at-most-up m radicand (axis_of p) (high + 1) (w + 1 + 1) (omega arith) high-above })

  pub lower : {w : ℕ} → w ≡ low → at_most m radicand (axis_of p) (w + 1) ≡ false → w ≡ root_floor m radicand (axis_of p)
  lower e n = settled (record { below = subst (λ (x : ℕ). at_most m radicand (axis_of p) x ≡ true) (sym e) low_below; above = n })
