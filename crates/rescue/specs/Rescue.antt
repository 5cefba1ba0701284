-- The rescue of a hand-edited text (02, W-206): "give the proper text of the same ground, with a list of what was changed, by place in the whole text,
-- from 0, and then kind". Assumes nothing.
use Rattle.std.specs.Prelude.{◌≡◌, ◌||◌, List, [], ◌∷◌, ℕ, zero, suc, ltb, length, drop, Err, Ok, Result}
use Rattle.reading.specs.declared.Refused.{Refused}
use Rattle.rescue.specs.declared.Rescued.{Rescued}
use Rattle.logic.specs.Lent.{in_front}
use Rattle.logic.specs.Refusal.{refuse, ◌otherwise◌, given}
use Rattle.loose.specs.LooseScan.{loose_nodes}
use Rattle.loose.specs.Look.{loose_refusal, place_with}
use Rattle.proper.specs.Proper.{proper_of}
use Rattle.proper.specs.Changes.{Change, changes}

-- "by place in the whole text, from 0, and then kind": place, kind, place, kind ..
unfoldable pub flat : List Change → List ℕ
flat [] = []
flat (x ∷ xs) = x.place ∷ x.kind ∷ flat xs

-- what is changed in a looser text
unfoldable pub changes_of : List ℕ → List Change
changes_of t = changes (loose_nodes (drop 7 t))

-- 13, 10, 9; "8 for text or list", whose room is counted in numbers
unfoldable pub rescue_refusal : (t : List ℕ) (text-room list-room : ℕ) → ℕ
unfolding changes_of
rescue_refusal t text-room list-room =
    loose_refusal t otherwise refuse (ltb text-room (length (proper_of t)) || ltb list-room (length (flat (changes_of t)))) 8

-- the length of the proper text and the number of changes; or the refusal, with the place for 9
unfoldable pub told : (r : ℕ) (t : List ℕ) → Result Rescued Refused
unfolding changes_of
told zero t = Ok (record { length = length (proper_of t); changes = length (changes_of t) })
told (suc r) t = Err (record { refusal = suc r; place = place_with (suc r) t })

-- the answer, and what both lent memories hold: "a refusal changes no lent byte; an answer changes only its own length"
pub record RescueIs (t out out' list list' : List ℕ) (r : Result Rescued Refused) : Type 0 where
  pub answer : r ≡ told (rescue_refusal t (length out) (length list)) t
  pub text : out' ≡ given (rescue_refusal t (length out) (length list)) (in_front (proper_of t) out) out
  pub changed : list' ≡ given (rescue_refusal t (length out) (length list)) (in_front (flat (changes_of t)) list) list
