-- What follows a refusal, and what follows none. Assumes nothing.
use Rattle.std.specs.Prelude.{◌≡◌, refl, ◌⊎◌, Bool, true, false, ℕ, zero, suc}
use Rattle.std.proofs.Common.{ap, inl, inr, arith}
use Rattle.logic.specs.Refusal.{refuse, ◌otherwise◌, given}

-- after a refusal nothing else is asked
pub stops : (r q : ℕ) → (r ≡ 0 → ⊥) → r otherwise q ≡ r
unfolding ◌otherwise◌
stops zero q h = absurd (h refl)
stops (suc r) q h = refl

-- with none, what comes next decides
pub passes : {r : ℕ} (q : ℕ) → r ≡ 0 → r otherwise q ≡ q
unfolding ◌otherwise◌
passes q e = ap (λ (x : ℕ). x otherwise q) e

-- nothing is refused where neither is
pub both : (r q : ℕ) → r otherwise q ≡ 0 → (r ≡ 0) × (q ≡ 0)
unfolding ◌otherwise◌
both zero q e = (refl, e)
both (suc r) q e = absurd (omega arith)

-- a refusal is the first one, or there is no first one and it is the next
pub either : {n : ℕ} (r q : ℕ) → r otherwise q ≡ n → (r ≡ n) ⊎ ((r ≡ 0) × (q ≡ n))
unfolding ◌otherwise◌
either zero q e = inr (refl, e)
either (suc r) q e = inl e

-- a test gives its own number or none
pub other : (t : Bool) (r n : ℕ) → (r ≡ suc n → ⊥) → refuse t r ≡ suc n → ⊥
other true r n h e = h e
other false r n h e = omega arith

-- the value stands where nothing is refused, else its zero
pub given-value {ℓ} : {A : Type ℓ} {r : ℕ} (x none : A) → r ≡ 0 → given r x none ≡ x
unfolding given
given-value x none e = ap (λ (y : ℕ). given y x none) e

pub given-none {ℓ} : {A : Type ℓ} (r : ℕ) (x none : A) → (r ≡ 0 → ⊥) → given r x none ≡ none
unfolding given
given-none zero x none h = absurd (h refl)
given-none (suc r) x none h = refl

-- a test that refuses nothing has not passed
pub allowed : (r : ℕ) (t : Bool) → refuse t (suc r) ≡ 0 → t ≡ false
allowed r true e = absurd (omega arith)
allowed r false e = refl
