-- A text that is proper already, and what is given for it. Assumes nothing.
use Rattle.std.specs.Prelude.{◌≡◌, List, [], ℕ, Result}
use Rattle.reading.specs.declared.Refused.{Refused}
use Rattle.rescue.specs.declared.Rescued.{Rescued}
use Rattle.loose.specs.Look.{loose_refusal}
use Rattle.proper.specs.Proper.{proper_of}
use Rattle.rescue.specs.Rescue.{changes_of, RescueIs}

abbrev pub Same : List ℕ → Type 0
Same t = (proper_of t ≡ t) × (changes_of t ≡ [])

-- whatever the list holds
pub record GivesSame (t out out' : List ℕ) (r : Result Rescued Refused) : Type 0 where
  pub is : (list : List ℕ) → loose_refusal t ≡ 0 → Same t → RescueIs t out out' list list r
