-- A list of changes as numbers, two for each: its place, and then its kind. Assumes nothing.
use Rattle.std.specs.Prelude.{◌≡◌, refl, List, [], ◌∷◌, ℕ, zero, suc, ◌+◌, ◌*◌, ◌<◌, length, get_or}
use Rattle.std.proofs.Common.{ap, ◌∙◌, arith}
use Rattle.proper.specs.Changes.{Change}
use Rattle.rescue.specs.Rescue.{flat}

pub flat-length : (a : List Change) → length (flat a) ≡ length a * 2
unfolding flat
flat-length [] = refl
flat-length (x ∷ a) = let k = flat-length a in omega arith

-- "by place in the whole text, from 0, and then kind"
pub flat-at :
    (a : List Change) (i : ℕ) (none : Change) → i < length a →
    (get_or (flat a) (2 * i) 0 ≡ (get_or a i none).place) × (get_or (flat a) (2 * i + 1) 0 ≡ (get_or a i none).kind)
unfolding flat
flat-at [] i none h = absurd (omega arith)
flat-at (x ∷ a) zero none h = (refl, refl)
flat-at (x ∷ a) (suc i) none h =
    let k = flat-at a i none (omega arith) in
    let e : 2 * suc i ≡ suc (suc (2 * i)) = omega arith in
    let f : 2 * suc i + 1 ≡ suc (suc (2 * i + 1)) = omega arith in
    (ap (λ (n : ℕ). get_or (flat (x ∷ a)) n 0) e ∙ k.0, ap (λ (n : ℕ). get_or (flat (x ∷ a)) n 0) f ∙ k.1)
