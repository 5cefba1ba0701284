-- Our answer is what W-203 asks, and within 5/6 of a unit. Assumes nothing.
use Rattle.std.specs.Prelude.{◌≡◌, refl, ◌↔◌, Bool, true, false, not, ℕ, zero, suc, ◌+◌, ◌-◌, ◌*◌, ◌^◌, ◌≤◌, ◌<◌, T, leb, ltb, ℤ, pos, negsuc, neg_ℤ, nat_abs, ◌-ℤ◌, ◌*ℤ◌, ◌≤ℤ◌}
use Rattle.std.proofs.Common.{sym, ap, ap₂, ◌∙◌, subst, suc-le-suc, le_trans, le_of_eq, mul-le-mul_left, mul-le-mul_right, arith, leb→le, le→leb, lit≤, leb-true, le-leb, ltb-true, lt-ltb}
use Rattle.std.proofs.Math.IntN.{neg_ℤ-neg_ℤ, neg_ℤ-+ℤ}
use Rattle.std.specs.Int.Signed.{le_z}
use Rattle.logic.specs.Laws.Bools.{and_left, and_right, clash}
use Rattle.logic.specs.Refusal.{refuse}
use Rattle.signed.specs.Sign.{negative, with_sign}
use Rattle.signed.specs.Laws.Sign.{sign-and-size, size-between, minus-plain, neg-sub, sub-size, sub-le-left}
use Rattle.authalic.specs.Sums.{above, below, error, Near}
use Rattle.authalic.specs.Computed.{sine_word, authalic_sine}
use Rattle.authalic.proofs.Internal.SumLaws.{above-is, above_odd, times-opposite, opposite-times}
use Rattle.authalic.specs.Internal.SeriesLaws.{exact}
use Rattle.authalic.proofs.Internal.AnswerLaws.{sine-near, sine-small, sine-zero, sine-pole, sine-sphere, sine-rises}
use Rattle.authalic.specs.Authalic.{Geodetic, is_sine, is_geodetic, sine_refusal, eccentricity_refusal, Authalic}
use Rattle.authalic.proofs.Laws.Range.{tested, passed}
pub use Rattle.authalic.proofs.Laws.Range.{geodetic-tests, geodetic-range}

-- ---- the range

-- 6 is given exactly where S or E is out of range
pub six-exactly : (S : ℤ) (E : ℕ) → (sine_refusal S E ≡ 6) ↔ (Geodetic S E → ⊥)
unfolding sine_refusal
six-exactly S E = (
  (λ r g. one_way (is_geodetic S E) r (geodetic-tests g)),
  (λ n. other_way (is_geodetic S E) (λ e. n (geodetic-range e))),
)
  where
    one_way : (t : Bool) → refuse (not t) 6 ≡ 6 → t ≡ true → ⊥
    one_way true r e = omega arith
    one_way false r e = clash (sym e)

    other_way : (t : Bool) → (t ≡ true → ⊥) → refuse (not t) 6 ≡ 6
    other_way true n = absurd (n refl)
    other_way false n = refl

-- and the next number past each end is refused
pub past-the-ends :
    (S : ℤ) (E : ℕ) →
    (sine_refusal (pos 1000000000000000001) E ≡ 6) × (sine_refusal (neg_ℤ (pos 1000000000000000001)) E ≡ 6) × (sine_refusal S 10000000001 ≡ 6)
past-the-ends S E = (
  (six-exactly _ E).1 (λ g. g.north.le),
  (six-exactly _ E).1 (λ g. g.south.le),
  (six-exactly S _).1 (λ g. let h : 10000000001 ≤ 10000000000 = g.eccentricity in omega arith),
)

-- the ends themselves are not
pub ends-taken :
    (sine_refusal (pos (10 ^ 18)) 10000000000 ≡ 0) × (sine_refusal (neg_ℤ (pos (10 ^ 18))) 10000000000 ≡ 0) × (sine_refusal (pos 0) 0 ≡ 0)
unfolding sine_refusal
ends-taken = (refl, refl, refl)

-- of E alone
pub eccentricity-exactly : (E : ℕ) → (eccentricity_refusal E ≡ 6) ↔ (10000000000 < E)
unfolding eccentricity_refusal
eccentricity-exactly E = (λ r. ltb-true 10000000000 E (given (ltb 10000000000 E) r), λ h. ap (λ (t : Bool). refuse t 6) (lt-ltb 10000000000 E h))
  where
    given : (t : Bool) → refuse t 6 ≡ 6 → t ≡ true
    given true r = refl
    given false r = absurd (omega arith)

pub sine-size : {S : ℤ} {E : ℕ} → Geodetic S E → nat_abs S ≤ 10 ^ 18
sine-size {S} g =
    size-between S (10 ^ 18) (tested (le_z (neg_ℤ (pos (10 ^ 18))) S) g.south.le) (tested (le_z S (pos (10 ^ 18))) g.north.le)

small_low : (b : Bool) (n : ℕ) → n ≤ 10 ^ 18 → neg_ℤ (pos (10 ^ 18)) ≤ℤ with_sign b n
small_low false n h = record { le = tt }
small_low true zero h = record { le = tt }
small_low true (suc n) h = record { le = le→leb n 999999999999999999 (omega arith) }

small-high : (b : Bool) (n : ℕ) → n ≤ 10 ^ 18 → with_sign b n ≤ℤ pos (10 ^ 18)
small-high false n h = record { le = le→leb n (10 ^ 18) h }
small-high true zero h = record { le = tt }
small-high true (suc n) h = record { le = tt }

-- ---- near

-- both sums have the factor 2, and the one below 10^18
lift-over : (Z s z H I : ℕ) → 6 * (z * I) ≤ 6 * (s * H) + 5 * I → 6 * (z * (2 * Z * I)) ≤ 6 * (Z * (2 * s * H)) + 5 * (2 * Z * I)
lift-over Z s z H I h = let m : 2 * Z * (6 * (z * I)) ≤ 2 * Z * (6 * (s * H) + 5 * I) = mul-le-mul_left (2 * Z) h in omega arith

lift-under : (Z s z H I : ℕ) → 6 * (s * H) ≤ 6 * (z * I) + 5 * I → 6 * (Z * (2 * s * H)) ≤ 6 * (z * (2 * Z * I)) + 5 * (2 * Z * I)
lift-under Z s z H I h = let m : 2 * Z * (6 * (s * H)) ≤ 2 * Z * (6 * (z * I) + 5 * I) = mul-le-mul_left (2 * Z) h in omega arith

apart : (p q b : ℕ) → 6 * p ≤ 6 * q + 5 * b → 6 * q ≤ 6 * p + 5 * b → 6 * nat_abs (pos p -ℤ pos q) ≤ 5 * b
apart p q b h k = rw (minus-plain p (pos q) refl, sub-size p q) (omega arith)

near-plain : (E s : ℕ) → E ≤ 10 ^ 10 → s ≤ 10 ^ 18 → 6 * error E (pos s) (pos (sine_word E s)) ≤ 5 * nat_abs (below E)
unfolding error below
near-plain E s hE hs =
    let Z : ℕ = 10 ^ 18 in
    let H : ℕ = exact (10 ^ 48) (E * (s * s)) 0 9 in
    let I : ℕ = exact (10 ^ 48) (E * (Z * Z)) 0 9 in
    let q = sine-near E s hE hs in
    rw (above-is E s, above-is E Z) (apart (sine_word E s * (2 * Z * I)) (Z * (2 * s * H)) (2 * Z * I) (lift-over Z s (sine_word E s) H I q.0) (lift-under Z s (sine_word E s) H I q.1))

size-opposite : (z : ℤ) → nat_abs (neg_ℤ z) ≡ nat_abs z
size-opposite (pos zero) = refl
size-opposite (pos (suc n)) = refl
size-opposite (negsuc n) = refl

error-opposite : (E : ℕ) (S z : ℤ) → error E (neg_ℤ S) (neg_ℤ z) ≡ error E S z
unfolding error
error-opposite E S z =
    let b : ℤ = below E in
    let p : ℤ = z *ℤ b in
    let q : ℤ = pos (10 ^ 18) *ℤ above E S in
    let e : neg_ℤ z *ℤ b -ℤ pos (10 ^ 18) *ℤ above E (neg_ℤ S) ≡ neg_ℤ (p -ℤ q) =
    ap₂ (λ (x y : ℤ). x -ℤ y) (opposite-times z b) (ap (λ (y : ℤ). pos (10 ^ 18) *ℤ y) (above_odd E S) ∙ times-opposite (pos (10 ^ 18)) (above E S))
    ∙ sym (neg_ℤ-+ℤ p (neg_ℤ q)) in
    ap nat_abs e ∙ size-opposite (p -ℤ q)

-- the best bound that our arithmetic has: 5/6 of a unit
pub near-best : (S : ℤ) (E : ℕ) → Geodetic S E → 6 * error E S (authalic_sine S E) ≤ 5 * nat_abs (below E)
unfolding authalic_sine
near-best (pos s) E g = near-plain E s g.eccentricity (sine-size g)
near-best (negsuc s) E g =
    le_trans (le_of_eq (ap (λ (x : ℕ). 6 * x) (error-opposite E (pos (suc s)) (pos (sine_word E (suc s)))))) (near-plain E (suc s) g.eccentricity (sine-size g))

near-units : (t e b : ℕ) → 1 ≤ t → 6 * e ≤ 5 * b → e ≤ t * b
near-units t e b h k = let m : 1 * b ≤ t * b = mul-le-mul_right b h in omega arith

-- so within any number of whole units but 0
pub near-all : (t : ℕ) (S : ℤ) (E : ℕ) → 1 ≤ t → Geodetic S E → Near t E S (authalic_sine S E)
unfolding Near
near-all t S E h g = near-units t (error E S (authalic_sine S E)) (nat_abs (below E)) h (near-best S E g)

-- ---- the rest

sine-odd : (S : ℤ) (E : ℕ) → authalic_sine (neg_ℤ S) E ≡ neg_ℤ (authalic_sine S E)
unfolding authalic_sine
sine-odd (pos zero) E = rw (sine-zero E)
sine-odd (pos (suc s)) E = refl
sine-odd (negsuc s) E = sym (neg_ℤ-neg_ℤ (pos (sine_word E (suc s))))

answer-size : {S : ℤ} {E : ℕ} → Geodetic S E → sine_word E (nat_abs S) ≤ 10 ^ 18
answer-size {S} {E} g = le_trans (sine-small E (nat_abs S)) (sine-size g)

sphere-sine : (S : ℤ) → Geodetic S 0 → authalic_sine S 0 ≡ S
unfolding authalic_sine
sphere-sine S g = ap (with_sign (negative S)) (sine-sphere (nat_abs S) (sine-size g)) ∙ sign-and-size S

-- ---- the order

between : (E s t : ℕ) → E ≤ 10 ^ 10 → t ≤ 10 ^ 18 → s ≤ t → sine_word E s ≤ sine_word E t
between E s t hE ht h =
    let e : s + (t - s) ≡ t = omega arith in
    subst (λ (x : ℕ). sine_word E s ≤ sine_word E x) e (sine-rises E s (t - s) hE (omega arith))

opposites : (a b : ℕ) → a ≤ b → neg_ℤ (pos b) ≤ℤ neg_ℤ (pos a)
opposites a b h = record { le = passed _ (ap₂ le_z (neg-sub b) (neg-sub a) ∙ sub-le-left b a 0 ∙ le-leb a b h) }

below_plain : (a b : ℕ) → neg_ℤ (pos a) ≤ℤ pos b
below_plain zero b = record { le = le→leb 0 b (omega arith) }
below_plain (suc a) b = record { le = tt }

sine-order : (S T : ℤ) (E : ℕ) → Geodetic S E → Geodetic T E → S ≤ℤ T → authalic_sine S E ≤ℤ authalic_sine T E
unfolding authalic_sine
sine-order (pos s) (pos t) E g h l = record { le = le→leb _ _ (between E s t g.eccentricity (sine-size h) (leb→le s t l.le)) }
sine-order (pos s) (negsuc t) E g h l = absurd l.le
sine-order (negsuc s) (pos t) E g h l = below_plain (sine_word E (suc s)) (sine_word E t)
sine-order (negsuc s) (negsuc t) E g h l =
    opposites (sine_word E (suc t)) (sine_word E (suc s)) (between E (suc t) (suc s) g.eccentricity (sine-size g) (suc-le-suc (leb→le t s l.le)))

-- ---- all that W-203 asks

pub authalic : Authalic authalic_sine
unfolding authalic_sine
authalic =
    record {
      near = λ S E g. near-all 200 S E (lit≤ tt) g;
      odd = sine-odd;
      equator = λ E. ap pos (sine-zero E);
      north = λ E h. ap pos (sine-pole E h);
      south = λ E h. ap (λ (n : ℕ). neg_ℤ (pos n)) (sine-pole E h);
      low = λ S E g. small_low (negative S) (sine_word E (nat_abs S)) (answer-size g);
      high = λ S E g. small-high (negative S) (sine_word E (nat_abs S)) (answer-size g);
      sphere = sphere-sine;
      rises = sine-order;
    }
