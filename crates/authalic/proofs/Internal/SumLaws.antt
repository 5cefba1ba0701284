-- The sums of W-203 are values of the exact series: 2 S times the one at E S^2 / 10^48. Assumes nothing.
use Rattle.std.specs.Prelude.{◌≡◌, refl, ℕ, zero, suc, ◌+◌, ◌-◌, ◌*◌, ◌/◌, ◌^◌, ℤ, pos, negsuc, neg_ℤ, ◌+ℤ◌, ◌*ℤ◌}
use Rattle.std.proofs.Common.{sym, ap, ap₂, ◌∙◌, mul_assoc, mul_comm, mul_left_comm, mul-one, one-mul, mul-suc, mul-zero, pow-suc, add-one, arith, pow-add}
use Rattle.std.proofs.Math.Nat.{mul-mul-mul_comm, pow-zero}
use Rattle.std.proofs.Math.IntN.{pow, one, +ℤ_idr, *ℤ_comm, neg_ℤ-neg_ℤ, neg_ℤ-+ℤ}
use Rattle.signed.specs.Laws.Times.{times-neg}
use Rattle.authalic.specs.Sums.{term, sum, above}
use Rattle.authalic.specs.Internal.SeriesLaws.{numerator, exact}

-- ---- powers

product-power : (a b n : ℕ) → (a * b) ^ n ≡ a ^ n * b ^ n
product-power a b zero = pow-zero (a * b) ∙ sym (ap₂ ◌*◌ (pow-zero a) (pow-zero b))
product-power a b (suc n) =
    pow-suc (a * b) n ∙ ap (λ (z : ℕ). z * (a * b)) (product-power a b n) ∙ mul-mul-mul_comm (a ^ n) (b ^ n) a b ∙ sym (ap₂ ◌*◌ (pow-suc a n) (pow-suc b n))

pub power-power : (a m n : ℕ) → a ^ (m * n) ≡ (a ^ m) ^ n
power-power a m zero = ap (λ (z : ℕ). a ^ z) (omega arith) ∙ pow-zero a ∙ sym (pow-zero (a ^ m))
power-power a m (suc n) =
    ap (λ (z : ℕ). a ^ z) (mul-suc m n) ∙ pow-add a (m * n) m ∙ ap (λ (z : ℕ). z * a ^ m) (power-power a m n) ∙ sym (pow-suc (a ^ m) n)

-- S^(2k+1)
odd_power : (S k : ℕ) → S ^ (2 * k + 1) ≡ (S * S) ^ k * S
odd_power S k =
    let e : S ^ 2 ≡ S * S = pow-suc S 1 ∙ ap (λ (z : ℕ). z * S) (pow-suc S 0 ∙ ap (λ (z : ℕ). z * S) (pow-zero S) ∙ one-mul S) in
    ap (λ (z : ℕ). S ^ z) (add-one (2 * k)) ∙ pow-suc S (2 * k) ∙ ap (λ (z : ℕ). z * S) (power-power S 2 k ∙ ap (λ (z : ℕ). z ^ k) e)

-- ---- one term

regroup : (c r e q S t : ℕ) → 2 * c * r * e * t * (q * S) ≡ 2 * S * (e * q * (c * r * t))
regroup c r e q S t = simp (mul_assoc, mul_comm, mul_left_comm)

size_is : (E S k : ℕ) → (2 * k + 2) * (14549535 / (2 * k + 1)) * E ^ k * 10 ^ (48 * (9 - k)) * S ^ (2 * k + 1) ≡ 2 * S * ((E * (S * S)) ^ k * (numerator k * (10 ^ 48) ^ (9 - k)))
unfolding numerator
size_is E S k =
    let r : ℕ = 14549535 / (2 * k + 1) in
    let a : 2 * k + 2 ≡ 2 * (k + 1) = omega arith in
    ap₂ (λ (y z : ℕ). y * r * E ^ k * 10 ^ (48 * (9 - k)) * z) a (odd_power S k)
    ∙ ap (λ (z : ℕ). 2 * (k + 1) * r * E ^ k * z * ((S * S) ^ k * S)) (power-power 10 48 (9 - k))
    ∙ regroup (k + 1) r (E ^ k) ((S * S) ^ k) S ((10 ^ 48) ^ (9 - k))
    ∙ ap (λ (z : ℕ). 2 * S * (z * ((k + 1) * r * (10 ^ 48) ^ (9 - k)))) (sym (product-power E (S * S) k))

plain-power : (s n : ℕ) → pow (pos s) n ≡ pos (s ^ n)
unfolding pow one
plain-power s zero = ap pos (sym (pow-zero s))
plain-power s (suc n) = ap (λ (z : ℤ). z *ℤ pos s) (plain-power s n) ∙ ap pos (sym (pow-suc s n))

term_is : (E S k : ℕ) → term E (pos S) k ≡ pos (2 * S * ((E * (S * S)) ^ k * (numerator k * (10 ^ 48) ^ (9 - k))))
unfolding term
term_is E S k =
    ap (λ (z : ℤ). pos ((2 * k + 2) * (14549535 / (2 * k + 1)) * E ^ k * 10 ^ (48 * (9 - k))) *ℤ z) (plain-power S (2 * k + 1)) ∙ ap pos (size_is E S k)

-- ---- the sums

gather : (S p X m I : ℕ) → 2 * S * (p * m) + 2 * S * (p * X * I) ≡ 2 * S * (p * (m + X * I))
gather S p X m I = omega arith

-- the last terms, from one on, by Horner's rule
rest-is : (E S n k : ℕ) → k + n ≡ 9 → sum (term E (pos S)) k (suc n) ≡ pos (2 * S * ((E * (S * S)) ^ k * exact (10 ^ 48) (E * (S * S)) k n))
unfolding sum exact
rest-is E S zero k e =
    let j : 9 - k ≡ 0 = omega arith in
    +ℤ_idr (term E (pos S) k) ∙ term_is E S k
    ∙ ap (λ (z : ℕ). pos (2 * S * ((E * (S * S)) ^ k * (numerator k * (10 ^ 48) ^ z)))) j
    ∙ ap (λ (z : ℕ). pos (2 * S * ((E * (S * S)) ^ k * z))) (ap (λ (z : ℕ). numerator k * z) (pow-zero (10 ^ 48)) ∙ mul-one (numerator k))
rest-is E S (suc n) k e =
    let X : ℕ = E * (S * S) in
    let j : 9 - k ≡ suc n = omega arith in
    ap₂ ◌+ℤ◌
    (term_is E S k ∙ ap (λ (z : ℕ). pos (2 * S * (X ^ k * (numerator k * (10 ^ 48) ^ z)))) j)
    (rest-is E S n (suc k) (omega arith) ∙ ap (λ (z : ℕ). pos (2 * S * (z * exact (10 ^ 48) X (suc k) n))) (pow-suc X k))
    ∙ ap pos (gather S (X ^ k) X (numerator k * (10 ^ 48) ^ suc n) (exact (10 ^ 48) X (suc k) n))

pub above-is : (E S : ℕ) → above E (pos S) ≡ pos (2 * S * exact (10 ^ 48) (E * (S * S)) 0 9)
unfolding above
above-is E S =
    rest-is E S 9 0 refl
    ∙ ap (λ (z : ℕ). pos (2 * S * z)) (ap (λ (z : ℕ). z * exact (10 ^ 48) (E * (S * S)) 0 9) (pow-zero (E * (S * S))) ∙ one-mul (exact (10 ^ 48) (E * (S * S)) 0 9))

-- ---- the sum above is odd

pub times-opposite : (a b : ℤ) → a *ℤ neg_ℤ b ≡ neg_ℤ (a *ℤ b)
times-opposite (pos n) b = sym (times-neg n b)
times-opposite (negsuc m) (pos zero) = rw (mul-zero (suc m))
times-opposite (negsuc m) (pos (suc k)) = sym (neg_ℤ-neg_ℤ (pos (suc m * suc k)))
times-opposite (negsuc m) (negsuc k) = refl

pub opposite-times : (a b : ℤ) → neg_ℤ a *ℤ b ≡ neg_ℤ (a *ℤ b)
opposite-times a b = *ℤ_comm (neg_ℤ a) b ∙ times-opposite b a ∙ ap neg_ℤ (*ℤ_comm b a)

even_power : (S : ℤ) (k : ℕ) → pow (neg_ℤ S) (2 * k) ≡ pow S (2 * k)
unfolding pow
even_power S zero = refl
even_power S (suc k) =
    let e : 2 * suc k ≡ suc (suc (2 * k)) = omega arith in
    let p : ℤ = pow S (2 * k) in
    ap (pow (neg_ℤ S)) e
    ∙ ap (λ (z : ℤ). z *ℤ neg_ℤ S *ℤ neg_ℤ S) (even_power S k)
    ∙ ap (λ (z : ℤ). z *ℤ neg_ℤ S) (times-opposite p S)
    ∙ times-opposite (neg_ℤ (p *ℤ S)) S
    ∙ ap neg_ℤ (opposite-times (p *ℤ S) S)
    ∙ neg_ℤ-neg_ℤ (p *ℤ S *ℤ S)
    ∙ ap (pow S) (sym e)

opposite-power : (S : ℤ) (k : ℕ) → pow (neg_ℤ S) (2 * k + 1) ≡ neg_ℤ (pow S (2 * k + 1))
unfolding pow
opposite-power S k =
    ap (pow (neg_ℤ S)) (add-one (2 * k))
    ∙ ap (λ (z : ℤ). z *ℤ neg_ℤ S) (even_power S k)
    ∙ times-opposite (pow S (2 * k)) S
    ∙ ap (λ (n : ℕ). neg_ℤ (pow S n)) (sym (add-one (2 * k)))

rest-odd : (E : ℕ) (S : ℤ) (n k : ℕ) → sum (term E (neg_ℤ S)) k n ≡ neg_ℤ (sum (term E S) k n)
unfolding sum term
rest-odd E S zero k = refl
rest-odd E S (suc n) k =
    let c : ℤ = pos ((2 * k + 2) * (14549535 / (2 * k + 1)) * E ^ k * 10 ^ (48 * (9 - k))) in
    ap₂ ◌+ℤ◌ (ap (λ (z : ℤ). c *ℤ z) (opposite-power S k) ∙ times-opposite c (pow S (2 * k + 1))) (rest-odd E S n (suc k))
    ∙ sym (neg_ℤ-+ℤ (term E S k) (sum (term E S) (suc k) n))

pub above_odd : (E : ℕ) (S : ℤ) → above E (neg_ℤ S) ≡ neg_ℤ (above E S)
unfolding above
above_odd E S = rest-odd E S 10 0
