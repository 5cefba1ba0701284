-- Comparisons with a root (01 "From a fix to a cell": "decided by sign and by whole-number squares") seen from a second side: where the root is a
-- whole number r they are plain inequalities with r, and they move one way as the number under the root grows. Assumes nothing.
use Rattle.std.specs.Prelude.{◌≡◌, refl, true, ℤ, pos, negsuc, neg_ℤ, ◌*ℤ◌}
use Rattle.std.proofs.Math.Path.{sym, ap}
use Rattle.std.proofs.Common.{ap₂, ◌∙◌, le_trans, mul-le-mul_left, zero-mul}
use Rattle.std.proofs.Math.Logic.{⊎_elim}
use Prim.Native.Nat.{ℕ, zero, suc, ◌+◌, ◌-◌, ◌*◌, ◌≤◌, ◌<◌}
use Rattle.std.proofs.Math.Nat.{mul-pos}
use native.Mathlib.Omega.{arith}
use Rattle.std.proofs.Math.Dec.{leb}
use Rattle.std.proofs.Math.IntN.{sub_ℕ, *ℤ_comm}
use Rattle.std.specs.Int.Signed.{le_z}
use borrow.Author.Tests.{le-leb, lt-leb, leb-true}
use Rattle.logic.specs.Laws.Bools.{and_left, and_right}
use Rattle.logic.specs.Laws.Order.{lt-or}
use Rattle.signed.specs.Laws.Sign.{same-le, by_sign, sub-le}
use Rattle.signed.specs.Laws.Times.{sub-times}
use Rattle.root.specs.Floor.{square, plus_at, minus_at, at_most}
use Rattle.root.specs.Compared.{at_most_root}
use Rattle.root.specs.Laws.Square.{square_le, square-lt, square-mul, plus-under, plus-square, plus-second, minus_is, minus-over, minus-second}

-- squares are ordered as their roots
square-leb : (x y : ℕ) → leb (square x) (square y) ≡ leb x y
square-leb x y =
    ⊎_elim
    (λ l. lt-leb (square x) (square y) (square-lt l) ∙ sym (lt-leb x y l))
    (λ l. le-leb (square x) (square y) (square_le l) ∙ sym (le-leb x y l))
    (lt-or y x)

module _ (m g w : ℕ) where
  -- with √t = r: 900,000,000,000,000,000 (2w - m) ≤ m g r, without a difference
  pub plus-plain : (r : ℕ) → plus_at m (r * r) g w ≡ leb (900000000000000000 * (2 * w)) (900000000000000000 * m + m * g * r)
  plus-plain r =
      ⊎_elim
      (λ l.
      sym (plus-second m (r * r) g w l)
      ∙ ap (leb (square (900000000000000000 * (2 * w - m)))) (sym (square-mul (m * g) r))
      ∙ square-leb (900000000000000000 * (2 * w - m)) (m * g * r)
      ∙ same-le (900000000000000000 * (2 * w - m)) (m * g * r) (900000000000000000 * (2 * w)) (900000000000000000 * m + m * g * r) (λ h. omega arith) (λ h. omega arith))
      (λ l. plus-under m (r * r) g w l ∙ sym (le-leb (900000000000000000 * (2 * w)) (900000000000000000 * m + m * g * r) (omega arith)))
      (lt-or m (2 * w))

  -- with a part that is taken away
  pub minus-plain : (r : ℕ) → minus_at m (r * r) g w ≡ leb (900000000000000000 * (2 * w) + m * g * r) (900000000000000000 * m)
  minus-plain r =
      ⊎_elim
      (λ l. minus-over m (r * r) g w l ∙ sym (lt-leb (900000000000000000 * (2 * w) + m * g * r) (900000000000000000 * m) (omega arith)))
      (λ l.
      sym (minus-second m (r * r) g w l)
      ∙ ap (λ (x : ℕ). leb x (square (900000000000000000 * (m - 2 * w)))) (sym (square-mul (m * g) r))
      ∙ square-leb (m * g * r) (900000000000000000 * (m - 2 * w))
      ∙ same-le (m * g * r) (900000000000000000 * (m - 2 * w)) (900000000000000000 * (2 * w) + m * g * r) (900000000000000000 * m) (λ h. omega arith) (λ h. omega arith))
      (lt-or m (2 * w))

  -- under a greater root more numbers are at most the value where a part is added, and fewer where it is taken away
  module _ (s t : ℕ) (h : s ≤ t) where
    pub plus-grows : plus_at m s g w ≡ true → plus_at m t g w ≡ true
    plus-grows e =
        ⊎_elim
        (λ l. plus-square m t g w (le_trans (leb-true _ _ (plus-second m s g w l ∙ e)) (mul-le-mul_left (square (m * g)) h)))
        (λ l. plus-under m t g w l)
        (lt-or m (2 * w))

    pub minus-falls : minus_at m t g w ≡ true → minus_at m s g w ≡ true
    unfolding minus_at
    minus-falls e =
        minus_is m s g w (leb-true _ _ (and_left _ _ e))
        (le_trans (mul-le-mul_left (square (m * g)) h) (leb-true _ _ (and_right (leb (2 * w) m) _ e)))

-- ---- the comparison over signed numbers

square-zero : (x s : ℕ) → leb (square x + s) 0 ≡ leb (x + s) 0
square-zero zero s = refl
square-zero (suc x) s =
    let h : 0 < square (suc x) = mul-pos {m = suc x} {n = suc x} (omega arith) (omega arith) in
    lt-leb (square (suc x) + s) 0 (omega arith) ∙ sym (lt-leb (suc x + s) 0 (omega arith))

-- a number from 0 up, and one below 0, against -y √t
plain-under : (x y t : ℕ) → at_most_root (pos x) (neg_ℤ (pos y)) t ≡ leb (square x + square y * t) 0
unfolding at_most_root
plain-under x zero t = same-le (square x) (0 * t) (square x + 0 * t) 0 (λ h. omega (arith, zero-mul t)) (λ h. omega (arith, zero-mul t))
plain-under x (suc y) t = refl

minus-under : (x y t : ℕ) → at_most_root (negsuc x) (neg_ℤ (pos y)) t ≡ leb (square y * t) (square (suc x))
unfolding at_most_root
minus-under x zero t = sym (le-leb (0 * t) (square (suc x)) (omega (arith, zero-mul t)))
minus-under x (suc y) t = refl

-- `at_most` is the comparison that its comment writes: 900,000,000,000,000,000 (2w - m) ≤ m p √t
module _ (m t w : ℕ) where
  abbrev Compares : ℤ → ℤ → Type 0
  Compares p x = at_most m t p w ≡ at_most_root x (pos m *ℤ p) t

  above-middle : (p : ℤ) → 900000000000000000 * m ≤ 900000000000000000 * (2 * w) → Compares p (pos (900000000000000000 * (2 * w) - 900000000000000000 * m))
  unfolding at_most at_most_root
  above-middle (pos g) h =
      let d : ℕ = 900000000000000000 * (2 * w) - 900000000000000000 * m in
      ⊎_elim
      (λ l. sym (plus-second m t g w l) ∙ ap (λ (x : ℕ). leb (square x) (square (m * g) * t)) (omega arith))
      (λ l.
      let z : d ≡ 0 = omega arith in
      plus-under m t g w l ∙ sym (ap (λ (x : ℕ). leb (square x) (square (m * g) * t)) z ∙ le-leb 0 (square (m * g) * t) (omega arith)))
      (lt-or m (2 * w))
  above-middle (negsuc g) h =
      let d : ℕ = 900000000000000000 * (2 * w) - 900000000000000000 * m in
      let s : ℕ = square (m * suc g) * t in
      ⊎_elim
      (λ l.
      let p : 0 < d = omega arith in
      let q : 0 < square d = mul-pos p p in
      minus-over m t (suc g) w l ∙ sym (lt-leb (square d + s) 0 (omega arith)))
      (λ l.
      let z : d ≡ 0 = omega arith in
      let y : 900000000000000000 * (m - 2 * w) ≡ 0 = omega arith in
      sym (minus-second m t (suc g) w l)
      ∙ ap (λ (x : ℕ). leb s (square x)) y
      ∙ sym (ap (λ (x : ℕ). leb (square x + s) 0) z ∙ same-le (0 + s) 0 s 0 (λ k. omega arith) (λ k. omega arith)))
      (lt-or m (2 * w))
      ∙ sym (plain-under d (m * suc g) t)

  below-middle : (p : ℤ) → 900000000000000000 * (2 * w) < 900000000000000000 * m → Compares p (negsuc (900000000000000000 * m - suc (900000000000000000 * (2 * w))))
  unfolding at_most at_most_root
  below-middle (pos g) h = plus-under m t g w (omega arith)
  below-middle (negsuc g) h =
      let d : ℕ = 900000000000000000 * m - suc (900000000000000000 * (2 * w)) in
      sym (minus-second m t (suc g) w (omega arith))
      ∙ ap (λ (x : ℕ). leb (square (m * suc g) * t) (square x)) (omega arith)
      ∙ sym (minus-under d (m * suc g) t)

  pub at-most-root : (p : ℤ) → at_most m t p w ≡ at_most_root (pos 900000000000000000 *ℤ sub_ℕ (2 * w) m) (pos m *ℤ p) t
  at-most-root p =
      by_sign (Compares p) (900000000000000000 * (2 * w)) (900000000000000000 * m) (above-middle p) (below-middle p)
      ∙ ap (λ (x : ℤ). at_most_root x (pos m *ℤ p) t) (sym (sub-times 900000000000000000 (2 * w) m))

-- with √t = r it is x ≤ y r
pub whole-root : (x y : ℤ) (r : ℕ) → at_most_root x y (r * r) ≡ le_z x (y *ℤ pos r)
unfolding at_most_root
whole-root (pos x) (pos y) r = ap (leb (square x)) (sym (square-mul y r)) ∙ square-leb x (y * r)
whole-root (pos x) (negsuc y) r =
    ap (λ (s : ℕ). leb (square x + s) 0) (sym (square-mul (suc y) r))
    ∙ square-zero x (square (suc y * r))
    ∙ go (suc y * r)
  where
    go : (n : ℕ) → leb (x + square n) 0 ≡ le_z (pos x) (neg_ℤ (pos n))
    go zero = same-le (x + 0) 0 x 0 (λ h. omega arith) (λ h. omega arith)
    go (suc n) =
        let h : 0 < square (suc n) = mul-pos {m = suc n} {n = suc n} (omega arith) (omega arith) in
        lt-leb (x + square (suc n)) 0 (omega arith)
whole-root (negsuc x) (pos y) r = refl
whole-root (negsuc x) (negsuc y) r =
    ap (λ (s : ℕ). leb s (square (suc x))) (sym (square-mul (suc y) r))
    ∙ square-leb (suc y * r) (suc x)
    ∙ go (suc y * r)
  where
    go : (n : ℕ) → leb n (suc x) ≡ le_z (negsuc x) (neg_ℤ (pos n))
    go zero = le-leb 0 (suc x) (omega arith)
    go (suc n) = same-le (suc n) (suc x) n x (λ h. omega arith) (λ h. omega arith)

-- so with √t = r and p = x - y the test of a floor is 900,000,000,000,000,000 (2w - m) ≤ m (x - y) r, without a difference
pub at-most-plain :
    (m r w x y : ℕ) →
    at_most m (r * r) (sub_ℕ x y) w ≡ leb (900000000000000000 * (2 * w) + r * (m * y)) (r * (m * x) + 900000000000000000 * m)
at-most-plain m r w x y =
    let d : ℤ = pos 900000000000000000 *ℤ sub_ℕ (2 * w) m in
    at-most-root m (r * r) w (sub_ℕ x y)
    ∙ whole-root d (pos m *ℤ sub_ℕ x y) r
    ∙ ap₂ le_z (sub-times 900000000000000000 (2 * w) m) (ap (λ (v : ℤ). v *ℤ pos r) (sub-times m x y) ∙ *ℤ_comm (sub_ℕ (m * x) (m * y)) (pos r) ∙ sub-times r (m * x) (m * y))
    ∙ sub-le (900000000000000000 * (2 * w)) (900000000000000000 * m) (r * (m * x)) (r * (m * y))
