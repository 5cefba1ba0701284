-- x = e s^2 as it is computed lacks at most 3 units. Assumes nothing.
use Rattle.std.specs.Prelude.{◌≡◌, refl, ℕ, ◌+◌, ◌*◌, ◌^◌, ◌≤◌, ◌<◌}
use Rattle.std.proofs.Common.{ap, ◌∙◌, subst, le_refl, mul-le-mul_left, le_of_mul-le-mul_right, mul_comm, mul-one, arith, lit≤, lit<}
use Rattle.wide.specs.High.{high_word}
use Rattle.wide.specs.Laws.High.{high-under, high-over, high-rise, high-most}
use Rattle.authalic.specs.Computed.{eccentricity_word, point_word}
use Rattle.authalic.specs.Internal.Approximation.{Approximates, reduced, multiplied}

-- s^2
square-near : (s : ℕ) → Approximates 256 (high_word (16 * s) (16 * s)) 1 (s * s) (2 ^ 64)
square-near s =
    let l : high_word (16 * s) (16 * s) * 2 ^ 64 ≤ 16 * s * (16 * s) = high-under (16 * s) (16 * s) in
    let h : 16 * s * (16 * s) ≤ (high_word (16 * s) (16 * s) + 1) * 2 ^ 64 = high-over (16 * s) (16 * s) in
    record { under = omega arith; over = omega arith }

-- the constant 2^218 / 10^48
constant-near : Approximates (2 ^ 218) 421249166674228746 1 1 (10 ^ 48)
constant-near = record { under = lit≤ tt; over = lit≤ tt }

-- E in words of 2^30
shifted-near : (E : ℕ) → Approximates 1073741824 (E * 1073741824) 0 E 1
shifted-near E = record { under = omega arith; over = omega arith }

-- e
eccentricity-near : (E : ℕ) → E ≤ 10 ^ 10 → Approximates (2 ^ 184) (eccentricity_word E) 2 (E * 1) (1 * 10 ^ 48)
unfolding eccentricity_word
eccentricity-near E h =
    let a : ℕ = E * 1073741824 in
    multiplied (2 ^ 64) 1 1 (lit< tt) refl (high-under a 421249166674228746) (high-over a 421249166674228746) (omega arith) (shifted-near E) constant-near

eccentricity-small : (E : ℕ) → E ≤ 10 ^ 10 → eccentricity_word E ≤ 250000000000000000
unfolding eccentricity_word
eccentricity-small E h = high-most 10737418240000000000 421249166674228746 250000000000000000 (omega arith) (lit≤ tt) (lit< tt)

-- x
pub point-near : (E s : ℕ) → E ≤ 10 ^ 10 → s ≤ 10 ^ 18 → Approximates (2 ^ 64) (point_word s (eccentricity_word E)) 3 (E * (s * s)) (10 ^ 48)
unfolding point_word
point-near E s h k =
    let u : ℕ = high_word (16 * s) (16 * s) in
    let e : ℕ = eccentricity_word E in
    let u0 : u ≤ 13900000000000000000 = high-most 16000000000000000000 16000000000000000000 13900000000000000000 (omega arith) (omega arith) (lit< tt) in
    let e0 : e ≤ 250000000000000000 = eccentricity-small E h in
    let p : Approximates (2 ^ 64 * 2 ^ 64) (high_word u e) 3 (s * s * (E * 1)) (10 ^ 48 * 2 ^ 64) =
    multiplied (2 ^ 64) 1 2 (lit< tt) refl (high-under u e) (high-over u e) (omega arith) (square-near s) (eccentricity-near E h) in
    let q : s * s * (E * 1) ≡ E * (s * s) = ap (λ (z : ℕ). s * s * z) (mul-one E) ∙ mul_comm (s * s) E in
    reduced (2 ^ 64) (lit< tt) (subst (λ (z : ℕ). Approximates (2 ^ 64 * 2 ^ 64) (high_word u e) 3 z (10 ^ 48 * 2 ^ 64)) q p)

-- which is at most 1/100
pub point-small : (W x X N : ℕ) → 0 < N → 100 * X ≤ N → Approximates W x 3 X N → 100 * x ≤ W
point-small W x X N N0 h p =
    let l : x * N ≤ W * X = p.under in
    let m : W * (100 * X) ≤ W * N = mul-le-mul_left W h in
    le_of_mul-le-mul_right {m = 100 * x} {n = W} {k = N} (omega arith) N0

-- it rises with s
pub point-rise : (s t e : ℕ) → s ≤ t → point_word s e ≤ point_word t e
unfolding point_word
point-rise s t e h =
    let l : high_word (high_word (16 * s) (16 * s)) e ≤ high_word (high_word (16 * t) (16 * t)) e =
    high-rise (high-rise (mul-le-mul_left 16 h) (mul-le-mul_left 16 h)) (le_refl e) in
    omega arith
