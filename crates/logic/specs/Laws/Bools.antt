-- Tests joined, and choices by a test. Assumes nothing.
use Rattle.std.specs.Prelude.{◌≡◌, refl, ◌⊎◌, ℕ, eqb, Bool, true, false, ◌&&◌, ◌||◌, cond}
use Rattle.std.proofs.Common.{sym, inl, inr, eqb-true, true≢false}

pub and_left : (a b : Bool) → (a && b) ≡ true → a ≡ true
and_left true b e = refl
and_left false b e = e

pub and_right : (a b : Bool) → (a && b) ≡ true → b ≡ true
and_right true b e = e
and_right false b e = absurd (true≢false (sym e))

pub clash {ℓ} : {X : Type ℓ} → true ≡ false → X
clash e = absurd (true≢false e)

pub or-either : (a b : Bool) → (a || b) ≡ true → (a ≡ true) ⊎ (b ≡ true)
or-either true b e = inl refl
or-either false b e = inr e

pub or_left : (a b : Bool) → (a || b) ≡ false → a ≡ false
or_left true b e = absurd (true≢false e)
or_left false b e = refl

pub or_right : (a b : Bool) → (a || b) ≡ false → b ≡ false
or_right true b e = absurd (true≢false e)
or_right false b e = e

pub or-left-true : (a b : Bool) → a ≡ true → (a || b) ≡ true
or-left-true true b e = refl
or-left-true false b e = clash (sym e)

pub or-right-true : (a b : Bool) → b ≡ true → (a || b) ≡ true
or-right-true true b e = refl
or-right-true false b e = e

pub or_assoc : (a b c : Bool) → (a || (b || c)) ≡ ((a || b) || c)
or_assoc true b c = refl
or_assoc false b c = refl

pub and_none : (b : Bool) → (b && false) ≡ false
and_none true = refl
and_none false = refl

pub refuted : (b : Bool) → (b ≡ true → ⊥) → b ≡ false
refuted true h = absurd (h refl)
refuted false h = refl

-- tests that pass together are one
pub same_truth : (a b : Bool) → (a ≡ true → b ≡ true) → (b ≡ true → a ≡ true) → a ≡ b
same_truth true b f g = sym (f refl)
same_truth false true f g = g refl
same_truth false false f g = refl

-- what holds of both sides of a choice holds of the choice
pub by_cond {ℓ} : {A : Type ℓ} (P : A → Type 0) (t : Bool) {x y : A} → (t ≡ true → P x) → (t ≡ false → P y) → P (cond t x y)
by_cond P true f g = f refl
by_cond P false f g = g refl

-- two equations that do not both hold
pub not-both : (a b c d : ℕ) → (a ≡ b → c ≡ d → ⊥) → (eqb a b && eqb c d) ≡ false
not-both a b c d h = go (eqb a b) (eqb c d) refl refl
  where
    go : (s t : Bool) → eqb a b ≡ s → eqb c d ≡ t → (s && t) ≡ false
    go true true e f = absurd (h (eqb-true a b e) (eqb-true c d f))
    go true false e f = refl
    go false t e f = refl
