-- The series by Horner's rule: each step keeps what it lacks at 5 units or less, so the whole lacks at most 5. Assumes nothing.
use Rattle.std.specs.Prelude.{◌≡◌, refl}
use Rattle.std.proofs.Common.{sym, ap, ◌∙◌, subst, add-le-add, le_refl, mul_comm, mul_left_comm, mul-le-mul_right, le_of_mul-le-mul_right, div-mul-le_self, lit<}
use Prim.Native.Nat.{ℕ, zero, suc, ◌+◌, ◌*◌, ◌/◌, ◌^◌, ◌≤◌, ◌<◌}
use Rattle.std.proofs.Math.Nat.{mul-one, pow-zero, pow-succ', lt-div-mul-add}
use native.Mathlib.Omega.{arith}
use Rattle.wide.specs.High.{high_word}
use Rattle.wide.specs.Laws.High.{high-under, high-over, high-rise, high-comm}
use Rattle.authalic.specs.Computed.{coefficient, series, series_word}
use Rattle.authalic.specs.Internal.Approximation.{Approximates, looser, extended, added, multiplied}

-- ---- the coefficients

-- (k + 1) / (2k + 1), as a fraction of 14549535
unfoldable pub numerator : ℕ → ℕ
numerator k = (k + 1) * (14549535 / (2 * k + 1))

pub divides : (k : ℕ) → k < 10 → (2 * k + 1) * (14549535 / (2 * k + 1)) ≡ 14549535
divides zero h = refl
divides (suc zero) h = refl
divides (suc (suc zero)) h = refl
divides (suc (suc (suc zero))) h = refl
divides (suc (suc (suc (suc zero)))) h = refl
divides (suc (suc (suc (suc (suc zero))))) h = refl
divides (suc (suc (suc (suc (suc (suc zero)))))) h = refl
divides (suc (suc (suc (suc (suc (suc (suc zero))))))) h = refl
divides (suc (suc (suc (suc (suc (suc (suc (suc zero)))))))) h = refl
divides (suc (suc (suc (suc (suc (suc (suc (suc (suc zero))))))))) h = refl
divides (suc (suc (suc (suc (suc (suc (suc (suc (suc (suc k)))))))))) h = absurd (omega arith)

cut_down : (k : ℕ) → Approximates 18320000000000000000 (coefficient k) 1 (k + 1) (2 * k + 1)
unfolding coefficient
cut_down k =
    let n : ℕ = (k + 1) * 18320000000000000000 in
    let l : n / (2 * k + 1) * (2 * k + 1) ≤ n = div-mul-le_self n (2 * k + 1) in
    let h : n < n / (2 * k + 1) * (2 * k + 1) + (2 * k + 1) = lt-div-mul-add {a = n} {b = 2 * k + 1} (omega arith) in
    record { under = omega arith; over = omega arith }

coefficient-near : (k : ℕ) → k < 10 → Approximates 18320000000000000000 (coefficient k) 1 (numerator k) 14549535
unfolding numerator
coefficient-near k h = subst (λ (q : ℕ). Approximates 18320000000000000000 (coefficient k) 1 (numerator k) q) (divides k h) (extended (14549535 / (2 * k + 1)) (cut_down k))

-- after the first they are at most 2/3
coefficient-small : (k : ℕ) → 0 < k → coefficient k ≤ 12213333333333333333
coefficient-small k k0 =
    let l : coefficient k * (2 * k + 1) ≤ 18320000000000000000 * (k + 1) = (cut_down k).under in
    let m : 3 * coefficient k * (2 * k + 1) ≤ 36640000000000000000 * (2 * k + 1) = omega arith in
    let h : 3 * coefficient k ≤ 36640000000000000000 = le_of_mul-le-mul_right m (omega arith) in
    omega arith

-- ---- the exact value at X / N, times 14549535 N^n

unfoldable pub exact : (N X k n : ℕ) → ℕ
exact N X k zero = numerator k
exact N X k (suc n) = numerator k * N ^ suc n + X * exact N X (suc k) n

-- ---- the value at x, at most 1/100

module _ (x : ℕ) (small : 100 * x ≤ 2 ^ 64) where
  pub hundredth : (g : ℕ) → 100 * high_word x g ≤ g
  hundredth g =
      let l : high_word x g * 2 ^ 64 ≤ x * g = high-under x g in
      let h : 100 * x * g ≤ 2 ^ 64 * g = mul-le-mul_right g small in
      omega arith

  pub series-small : (n k : ℕ) → 0 < k → series x k n ≤ 12400000000000000000
  unfolding series
  series-small zero k k0 = let h = coefficient-small k k0 in omega arith
  series-small (suc n) k k0 =
      let h = coefficient-small k k0 in
      let g = series-small n (suc k) (omega arith) in
      let l = hundredth (series x (suc k) n) in
      omega arith

  pub series-least : 18320000000000000000 ≤ series_word x
  unfolding series_word series coefficient
  series-least = omega arith

  pub series-most : series_word x ≤ 18444000000000000000
  unfolding series_word series coefficient
  series-most =
      let g = series-small 8 1 (lit< tt) in
      let l = hundredth (series x 1 8) in
      omega arith

  module _ (X N : ℕ) (near : Approximates (2 ^ 64) x 3 X N) where
    -- one step of Horner's rule
    step-near :
        (n k g I : ℕ) → k < 10 → g ≤ 12400000000000000000 → Approximates 18320000000000000000 g 5 I (14549535 * N ^ n) →
        Approximates 18320000000000000000 (coefficient k + high_word x g) 5 (numerator k * N ^ suc n + X * I) (14549535 * N ^ suc n)
    step-near n k g I k9 s p =
        let e : N * (14549535 * N ^ n) ≡ 14549535 * N ^ suc n = mul_left_comm N 14549535 (N ^ n) ∙ ap (λ (z : ℕ). 14549535 * z) (sym (pow-succ' N n)) in
        let q : Approximates 18320000000000000000 (high_word x g) 4 (X * I) (N * (14549535 * N ^ n)) =
        multiplied (2 ^ 64) 1 3 (lit< tt) (mul_comm (2 ^ 64) 18320000000000000000) (high-under x g) (high-over x g) (omega arith) near p in
        added (extended (N ^ suc n) (coefficient-near k k9)) (subst (λ (z : ℕ). Approximates 18320000000000000000 (high_word x g) 4 (X * I) z) e q)

    pub series-near : (n k : ℕ) → k + n ≡ 9 → Approximates 18320000000000000000 (series x k n) 5 (exact N X k n) (14549535 * N ^ n)
    unfolding series exact
    series-near zero k e =
        let p = coefficient-near k (omega arith) in
        looser {t = 1} {u = 5} (omega arith)
        (subst (λ (z : ℕ). Approximates 18320000000000000000 (coefficient k) 1 (numerator k) z) (sym (ap (λ (z : ℕ). 14549535 * z) (pow-zero N) ∙ mul-one 14549535)) p)
    series-near (suc n) k e =
        step-near n k (series x (suc k) n) (exact N X (suc k) n) (omega arith) (series-small n (suc k) (omega arith)) (series-near n (suc k) (omega arith))

-- the same with the factors exchanged
pub hundredth-of : (y a : ℕ) → 100 * a ≤ 2 ^ 64 → 100 * high_word y a ≤ y
hundredth-of y a h = rw (high-comm y a) (hundredth a h y)

-- it rises
pub series-rise : {x y : ℕ} → x ≤ y → (n k : ℕ) → series x k n ≤ series y k n
unfolding series
series-rise h zero k = le_refl (coefficient k)
series-rise h (suc n) k = add-le-add (le_refl (coefficient k)) (high-rise h (series-rise h n (suc k)))
