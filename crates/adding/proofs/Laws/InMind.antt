-- Where adding may begin: at the text's faces, whatever the text. Assumes nothing.
use Rattle.std.specs.Prelude.{◌≡◌, refl, List, [], ◌∷◌, ℕ, length, set}
use Rattle.std.proofs.Common.{arith}
use Rattle.reading.specs.TextReading.{nodes_of, body_start}
use Rattle.adding.specs.InMind.{InMind}

-- three numbers, each put in its place
pub three : (near : List ℕ) (a b c : ℕ) → length near ≡ 3 → set (set (set near 2 c) 0 a) 1 b ≡ a ∷ b ∷ c ∷ []
three [] a b c h = absurd (omega arith)
three (x ∷ []) a b c h = absurd (omega arith)
three (x ∷ y ∷ []) a b c h = absurd (omega arith)
three (x ∷ y ∷ z ∷ []) a b c h = refl
three (x ∷ y ∷ z ∷ w ∷ near) a b c h = absurd (omega arith)

pub near-faces : (t : List ℕ) (code : ℕ) → InMind t (body_start t ∷ 0 ∷ code ∷ [])
near-faces t code = record { long = refl; list = nodes_of t; leads = (refl, refl) }
