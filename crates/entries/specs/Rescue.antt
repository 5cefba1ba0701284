-- The answer of the entry that rescues a hand-edited text (02, W-206), as numbers: for each case of the library's answer the refusal number and the
-- values, zeros beside a refusal. Assumes nothing.
use Rattle.std.specs.Prelude.{◌⊎◌, List, [], ◌∷◌, ℕ, ◌*◌, ◌<◌, length, Err, Ok, Result}
use Rattle.reading.specs.declared.Refused.{Refused}
use Rattle.rescue.specs.declared.Rescued.{Rescued}
use Rattle.loose.specs.LooseText.{LooseText, OtherThanOne}
use Rattle.proper.specs.Proper.{proper_of}
use Rattle.rescue.specs.Rescue.{changes_of}
use Rattle.entries.specs.declared.RescueAnswer.{RescueAnswer}
use Rattle.entries.specs.Order.{Chain}

-- the length of the proper text, and how many changes there are
abbrev pub rescue_numbers : Result Rescued Refused → RescueAnswer
rescue_numbers (Ok x) = record { refusal = 0; place = 0; length = x.length; changes = x.changes }
rescue_numbers (Err e) = record { refusal = e.refusal; place = e.place; length = 0; changes = 0 }

-- 13; 10: "rescue still takes 1 only"; "9 for bodies outside the looser form"; "8 for text or list", two numbers for a change
abbrev pub rescue_tests : (t : List ℕ) (text-room list-room : ℕ) → Chain
rescue_tests t text-room list-room =
    (13, 65536 < length t) ∷
    (10, OtherThanOne t) ∷
    (9, LooseText t → ⊥) ∷
    (8, (text-room < length (proper_of t)) ⊎ (list-room < 2 * length (changes_of t))) ∷
    []
