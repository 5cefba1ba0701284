-- Two numbers compared. Assumes nothing.
use Rattle.std.specs.Prelude.{◌≡◌, ◌⊎◌, ℕ, ◌≤◌, ◌<◌}
use Rattle.std.proofs.Common.{inl, inr, ⊎_elim, arith}
use Rattle.std.proofs.Math.Decide.{dec_lt}

pub lt-or : (a b : ℕ) → (a < b) ⊎ (b ≤ a)
lt-or a b = elim (dec_lt a b) [ yes h ↦ inl h | no h ↦ inr (omega arith) ]

pub three_ways : (a b : ℕ) → (a < b) ⊎ ((a ≡ b) ⊎ (b < a))
three_ways a b = ⊎_elim (λ h. inl h) (λ h. inr (⊎_elim (λ k. inr k) (λ k. inl (omega arith)) (lt-or b a))) (lt-or a b)
