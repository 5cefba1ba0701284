-- Runs of stores, and what is cut off. Assumes nothing.
use Rattle.std.specs.Prelude.{◌≡◌, refl, List, [], ◌∷◌, ◌++◌, ℕ, zero, suc, ◌+◌, ◌≤◌, length, set, take}
use Rattle.std.proofs.Common.{sym, ap, ◌∙◌, ⊎_elim, arith, take_all, take_at, length-take-le}
use Rattle.std.proofs.lemmas.List.Edits.{sets}
use Rattle.std.proofs.Math.Seq.{set_out}
use Rattle.std.proofs.lemmas.List.{take-append-le}
use Rattle.logic.specs.Laws.Order.{lt-or}

-- one run after the other
pub sets-append : (l : List ℕ) (i : ℕ) (a b : List ℕ) → sets l i (a ++ b) ≡ sets (sets l i a) (i + length a) b
sets-append l i [] b = let e : i + 0 ≡ i = omega arith in rw e refl
sets-append l i (x ∷ a) b =
    let e : suc i + length a ≡ i + suc (length a) = omega arith in
    sets-append (set l i x) (suc i) a b ∙ rw e refl

-- past the end nothing is stored
pub sets-out : (l : List ℕ) (i : ℕ) (vs : List ℕ) → length l ≤ i → sets l i vs ≡ l
sets-out l i [] h = refl
sets-out l i (v ∷ vs) h = ap (λ (x : List ℕ). sets x (suc i) vs) (set_out l i v h) ∙ sets-out l (suc i) vs (omega arith)

pub take-nil : (n : ℕ) → ◌≡◌ {A = List ℕ} (take n []) []
take-nil zero = refl
take-nil (suc n) = refl

-- what is cut off twice
pub take-cut : (n : ℕ) (x y : List ℕ) → take n (take n x ++ y) ≡ take n (x ++ y)
take-cut n x y =
    ⊎_elim
    (λ h.
    let l : length (take n x) ≡ n = length-take-le n x (omega arith) in
    take_at (take n x) y n l ∙ sym (take-append-le n x y (omega arith)))
    (λ h. ap (λ (z : List ℕ). take n (z ++ y)) (take_all n x h)) (lt-or n (length x))
