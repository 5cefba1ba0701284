-- What the range of a fix says of its numbers. Assumes nothing.
use Rattle.std.specs.Prelude.{◌≡◌, refl, Bool, true, false, ◌&&◌, ℕ, zero, suc, ◌+◌, ◌-◌, ◌*◌, ◌^◌, ◌≤◌, ◌<◌, leb, ℤ, pos, negsuc, neg_ℤ, nat_abs, ◌+ℤ◌}
use Rattle.std.proofs.Common.{sym, ap, ◌∙◌, lt_of_not-le, arith, leb-true, leb-false, le-leb}
use Rattle.std.proofs.Math.Decide.{dec_le}
use Rattle.std.proofs.Math.IntN.{neg_ℤ-neg_ℤ}
use Rattle.std.specs.Int.Signed.{le_z}
use Rattle.std.proofs.lemmas.Bool.{lt-leb}
use Rattle.logic.specs.Laws.Bools.{and_left, and_right}
use Rattle.signed.specs.Sign.{with_sign}
use Rattle.signed.specs.Laws.Sign.{sub_at, size-between, minus-plain}
use Rattle.locate.specs.Fix.{in_range, east_of, is_belt, offset_of, height_of}

pub east-small : (L : ℤ) → east_of L < 3600000000
unfolding east_of
east-small L = omega arith

-- before the full turn is taken off
shifted-most : (L : ℤ) → le_z (neg_ℤ (pos 1800000000)) L ≡ true → le_z L (pos 1800000000) ≡ true → nat_abs (L +ℤ pos 1800000000) ≤ 3600000000
shifted-most (pos a) l h = let k : a ≤ 1800000000 = leb-true a 1800000000 h in omega arith
shifted-most (negsuc a) l h = let k : a ≤ 1799999999 = leb-true a 1799999999 l in rw (sub_at 1800000000 (suc a) (omega arith)) (omega arith)

module _ (L z : ℤ) (r : in_range L z ≡ true) where
  pub longitude-low : le_z (neg_ℤ (pos 1800000000)) L ≡ true
  unfolding in_range
  longitude-low = and_left _ _ (and_left _ _ r)

  longitude-high : le_z L (pos 1800000000) ≡ true
  unfolding in_range
  longitude-high = and_right (le_z (neg_ℤ (pos 1800000000)) L) _ (and_left _ _ r)

  pub shifted-small : nat_abs (L +ℤ pos 1800000000) ≤ 3600000000
  shifted-small = shifted-most L longitude-low longitude-high

  pub z-small : nat_abs z ≤ 10 ^ 18
  unfolding in_range
  z-small =
      let t = and_right (le_z (neg_ℤ (pos 1800000000)) L && le_z L (pos 1800000000)) _ r in
      size-between z (10 ^ 18) (and_left _ _ t) (and_right (le_z (neg_ℤ (pos (10 ^ 18))) z) _ t)

-- two tests that say the same
same_test : (a b c d : ℕ) → (a ≤ b → c ≤ d) → (c ≤ d → a ≤ b) → leb a b ≡ leb c d
same_test a b c d f g = go (dec_le a b)
  where
    go : Dec (a ≤ b) → leb a b ≡ leb c d
    go (yes h) = le-leb a b h ∙ sym (le-leb c d (f h))
    go (no n) = lt-leb a b (lt_of_not-le n) ∙ sym (lt-leb c d (lt_of_not-le (λ h. n (g h))))

and-true : (b : Bool) → (b && true) ≡ b
and-true true = refl
and-true false = refl

-- ---- the belt: 2 x 10^18 - 3z, by z's sign and size

pub in-belt : (z : ℤ) → is_belt z ≡ true → 3 * nat_abs z ≤ 2 * 10 ^ 18
unfolding is_belt
in-belt z t = leb-true (3 * nat_abs z) (2 * 10 ^ 18) t

pub belt-at : (z : ℤ) → 3 * nat_abs z ≤ 2 * 10 ^ 18 → is_belt z ≡ true
unfolding is_belt
belt-at z h = le-leb (3 * nat_abs z) (2 * 10 ^ 18) h

pub offset-south : (y : ℕ) → 2 * 10 ^ 18 + 3 * y ≡ offset_of (with_sign true y)
unfolding offset_of
offset-south zero = refl
offset-south (suc y) = ap (λ (x : ℤ). nat_abs (pos 2000000000000000000 +ℤ x)) (sym (neg_ℤ-neg_ℤ (pos (3 * suc y))))

pub offset-north : (y : ℕ) → 3 * y ≤ 2 * 10 ^ 18 → 2 * 10 ^ 18 - 3 * y ≡ offset_of (with_sign false y)
unfolding offset_of
offset-north y h = ap nat_abs (sym (minus-plain (2 * 10 ^ 18) (pos (3 * y)) refl ∙ sub_at (2 * 10 ^ 18) (3 * y) h))

-- the belt's bottom and top
pub belt-ends : (z : ℤ) → (le_z (neg_ℤ (pos 666666666666666666)) z && le_z z (pos 666666666666666666)) ≡ is_belt z
unfolding is_belt
belt-ends (pos a) = same_test a 666666666666666666 (3 * a) (2 * 10 ^ 18) (omega arith) (omega arith)
belt-ends (negsuc a) = and-true (leb a 666666666666666665) ∙ same_test a 666666666666666665 (3 * suc a) (2 * 10 ^ 18) (omega arith) (omega arith)

-- 2 x 10^18 - 3z, by how far z is above the bottom
pub offset_up : (z : ℤ) → is_belt z ≡ true → (3 * nat_abs (z +ℤ pos 666666666666666666) ≤ 3999999999999999998) ×
    (3999999999999999998 - 3 * nat_abs (z +ℤ pos 666666666666666666) ≡ offset_of z)
offset_up (pos a) t =
    let h = in-belt (pos a) t in
    let e : 3999999999999999998 - 3 * (a + 666666666666666666) ≡ 2 * 10 ^ 18 - 3 * a = omega arith in
    (omega arith, e ∙ offset-north a h)
offset_up (negsuc a) t =
    let h = in-belt (negsuc a) t in
    let s : nat_abs (negsuc a +ℤ pos 666666666666666666) ≡ 666666666666666666 - suc a = ap nat_abs (sub_at 666666666666666666 (suc a) (omega arith)) in
    let e : 3999999999999999998 - 3 * nat_abs (negsuc a +ℤ pos 666666666666666666) ≡ 2 * 10 ^ 18 + 3 * suc a = omega arith in
    (omega arith, e ∙ offset-south (suc a))

-- ---- the caps: (10^9 h)^2 is below 10^18

pub outside : (z : ℤ) → is_belt z ≡ false → 2 * 10 ^ 18 < 3 * nat_abs z
unfolding is_belt
outside z t = leb-false (3 * nat_abs z) (2 * 10 ^ 18) t

pub cap-at : (z : ℤ) → 2 * 10 ^ 18 < 3 * nat_abs z → is_belt z ≡ false
unfolding is_belt
cap-at z h = lt-leb (3 * nat_abs z) (2 * 10 ^ 18) h

pub height-small : (z : ℤ) → is_belt z ≡ false → height_of z < 10 ^ 18
unfolding height_of
height-small z t = let h = outside z t in omega arith
