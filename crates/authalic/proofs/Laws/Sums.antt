-- The terms of Sums are those of the request, times one number. Assumes nothing.
use Rattle.std.specs.Prelude.{◌≡◌, refl, true, ℕ, zero, suc, ◌+◌, ◌-◌, ◌*◌, ◌/◌, ◌^◌, ◌<◌, leb, ℤ, pos, negsuc, neg_ℤ, nat_abs, ◌*ℤ◌}
use Rattle.std.proofs.Common.{sym, ap, ap₂, ◌∙◌, mul_assoc, mul_comm, mul_left_comm, arith, pow-add}
use Rattle.std.proofs.Math.IntN.{pow, one}
use Rattle.signed.specs.Laws.Times.{times-neg}
use Rattle.authalic.specs.Sums.{term, sum, above, below, error}
use Rattle.authalic.specs.Internal.SeriesLaws.{divides}
use Rattle.authalic.proofs.Internal.SumLaws.{power-power}

-- what the powers of ten come to
tens : (k : ℕ) → k < 10 → (10 ^ 12) ^ k * (10 ^ 18) ^ (2 * k + 1) * 10 ^ (48 * (9 - k)) ≡ 10 ^ 450
tens k h =
    let e : 12 * k + 18 * (2 * k + 1) + 48 * (9 - k) ≡ 450 = omega arith in
    ap₂ (λ (x y : ℕ). x * y * 10 ^ (48 * (9 - k))) (sym (power-power 10 12 k)) (sym (power-power 10 18 (2 * k + 1)))
    ∙ ap (λ (x : ℕ). x * 10 ^ (48 * (9 - k))) (sym (pow-add 10 (12 * k) (18 * (2 * k + 1))))
    ∙ sym (pow-add 10 (12 * k + 18 * (2 * k + 1)) (48 * (9 - k)))
    ∙ ap (λ (x : ℕ). 10 ^ x) e

taken_twice : (d n : ℕ) (z : ℤ) → pos d *ℤ (pos n *ℤ z) ≡ pos (d * n) *ℤ z
taken_twice d n (pos m) = ap pos (sym (mul_assoc d n m))
taken_twice d n (negsuc m) = sym (times-neg d (pos (n * suc m))) ∙ ap (λ (x : ℕ). neg_ℤ (pos x)) (sym (mul_assoc d n (suc m)))

sorted : (d p q c r e t : ℕ) → d * p * q * (c * r * e * t) ≡ d * r * (p * q * t) * (c * e)
sorted d p q c r e t = simp (mul_assoc, mul_comm, mul_left_comm)

-- with E / 10^12 and S / 10^18 for E and S: the term times its denominators is 14549535 x 10^450 times (2k+2) E^k S^(2k+1)
pub term-exact :
    (E : ℕ) (S : ℤ) (k : ℕ) → k < 10 →
    pos ((2 * k + 1) * (10 ^ 12) ^ k * (10 ^ 18) ^ (2 * k + 1)) *ℤ term E S k ≡ pos (14549535 * 10 ^ 450 * ((2 * k + 2) * E ^ k)) *ℤ pow S (2 * k + 1)
unfolding term
term-exact E S k h =
    let r : ℕ = 14549535 / (2 * k + 1) in
    let d : ℕ = (2 * k + 1) * (10 ^ 12) ^ k * (10 ^ 18) ^ (2 * k + 1) in
    let n : ℕ = (2 * k + 2) * r * E ^ k * 10 ^ (48 * (9 - k)) in
    taken_twice d n (pow S (2 * k + 1))
    ∙ ap (λ (x : ℕ). pos x *ℤ pow S (2 * k + 1)) (
    sorted (2 * k + 1) ((10 ^ 12) ^ k) ((10 ^ 18) ^ (2 * k + 1)) (2 * k + 2) r (E ^ k) (10 ^ (48 * (9 - k)))
    ∙ ap₂ (λ (x y : ℕ). x * y * ((2 * k + 2) * E ^ k)) (divides k h) (tens k h)
    )

-- A quotient worked out by fractions, near enough to tell one term more or less: on the flattest ellipsoid the sine 0.707106781186547525 has
-- 704733546829349858.0122.. units. With nine terms it would be 58.3799.., with eleven 58.0086..
pub worked-out :
    let e : ℕ = 1000 * error 10000000000 (pos 707106781186547525) (pos 704733546829349858) in
    let b : ℕ = nat_abs (below 10000000000) in
    (leb (12 * b) e ≡ true) × (leb e (13 * b) ≡ true)
unfolding error below above sum term pow one
worked-out = (refl, refl)
