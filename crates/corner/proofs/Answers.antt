-- The answers of `list`: the refusals in their order, and the list where none applies. Assumes nothing.
use Rattle.std.specs.Prelude.{Err, Ok, Result}
use mathlib.Core.Path.{◌≡◌, refl, ap, ◌∙◌}
use mathlib.Core.Bool.{Bool}
use mathlib.Core.List.{List}
use Prim.Native.Nat.{ℕ, zero, suc, ◌≤◌, ◌<◌}
use native.Mathlib.Omega.{arith}
use lib.ListN.{length}
use borrow.Author.Tests.{lt-ltb, le-ltb}
use Rattle.logic.specs.Refusal.{refuse, given}
use Rattle.logic.specs.Laws.Refusal.{stops, passes}
use Rattle.code.specs.Code.{code_refusal}
use Rattle.corner.specs.List.{codes_at, in_front, cornered, corners_refusal, corner_memory}

module _ (code : ℕ) (lent : List ℕ) where
  abbrev Answer : Result ℕ ℕ → List ℕ → Type 0
  Answer r exit =
      (r ≡ cornered (corners_refusal code (length lent)) (length (codes_at code)))
      × (exit ≡ corner_memory code lent)

  refused : (r : ℕ) → (r ≡ 0 → ⊥) → corners_refusal code (length lent) ≡ r → Answer (Err r) lent
  unfolding cornered given
  refused zero n e = absurd (n refl)
  refused (suc r) n e = rw e (refl, refl)

  -- 4
  pub no_code : code_refusal code ≡ 4 → Answer (Err 4) lent
  unfolding corners_refusal
  no_code e = refused 4 (λ x. omega arith) (stops _ _ (rw e (λ x. omega arith)) ∙ e)

  module _ (y : code_refusal code ≡ 0) where
    -- 8
    pub short : length lent < length (codes_at code) → Answer (Err 8) lent
    unfolding corners_refusal
    short h = refused 8 (λ x. omega arith) (passes _ y ∙ ap (λ (t : Bool). refuse t 8) (lt-ltb (length lent) (length (codes_at code)) h))

    pub all : {n : ℕ} {exit : List ℕ} → length (codes_at code) ≤ length lent → n ≡ length (codes_at code) → exit ≡ in_front (codes_at code) lent → Answer (Ok n) exit
    unfolding corners_refusal cornered given
    all h p q =
        let e : corners_refusal code (length lent) ≡ 0 =
        passes _ y ∙ ap (λ (t : Bool). refuse t 8) (le-ltb (length lent) (length (codes_at code)) h) in
        rw e (ap Ok p, q)
