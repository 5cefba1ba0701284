-- What is given where texts are put together. Assumes nothing.
use Rattle.std.specs.Prelude.{◌≡◌, List, ℕ, Result}
use Rattle.reading.specs.declared.Refused.{Refused}
use Rattle.rescue.specs.declared.Rescued.{Rescued}
use Rattle.loose.specs.Look.{loose_refusal}
use Rattle.proper.specs.Proper.{proper_of}
use Rattle.rescue.specs.Rescue.{changes_of, RescueIs}
use Rattle.rescue.specs.Internal.Marks.{changes_in}

-- the answer for each text of which this is the proper text, and these are the changes
pub record Gives (made marks out out' list list' : List ℕ) (r : Result Rescued Refused) : Type 0 where
  pub is : (t : List ℕ) → loose_refusal t ≡ 0 → made ≡ proper_of t → changes_in 7 marks ≡ changes_of t → RescueIs t out out' list list' r
