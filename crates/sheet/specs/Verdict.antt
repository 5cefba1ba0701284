-- What checking a sheet answers, as tests that compute (02, W-211). Laws/Sheet shows that yes is `Yes` and that the record of a no is `FirstWrong`.
-- Assumes nothing.
use Rattle.std.specs.Prelude.{Bool, true, false, ◌&&◌, cond, List, [], ◌∷◌, ℕ, zero, suc, eqb, drop}
use Rattle.reader.specs.Check.{text_refusal, place_with}
use Rattle.sheet.specs.declared.Record.{Record}
use Rattle.sheet.specs.declared.Judged.{Judged}
use Rattle.sheet.specs.declared.Judged.TheVariants.{Right, Wrong, Refused}
use Rattle.sheet.specs.Sheet.{records_of, bytes_of, sheet_of}

-- the second list begins with the first
unfoldable pub starts : (a b : List ℕ) → Bool
starts [] b = true
starts (x ∷ a) [] = false
starts (x ∷ a) (y ∷ b) = eqb y x && starts a b

-- how many leading records of the sheet are, each, the one that our rules put there
unfoldable pub leading : List Record → List ℕ → ℕ
leading [] b = 0
leading (r ∷ rs) b = cond (starts (bytes_of r) b) (suc (leading rs (drop 40 b))) 0

-- the same bytes
unfoldable pub same : (a b : List ℕ) → Bool
same [] [] = true
same [] (y ∷ b) = false
same (x ∷ a) [] = false
same (x ∷ a) (y ∷ b) = eqb x y && same a b

-- yes for the sheet of our rules; a no names the record behind all that are ours
unfoldable pub verdict : (t b : List ℕ) → Judged
verdict t b = cond (same b (sheet_of t)) Right (Wrong (leading (records_of t) b))

-- "Refusals: those of the text only"
unfoldable pub judged : (r : ℕ) (t b : List ℕ) → Judged
unfolding verdict
judged zero t b = verdict t b
judged (suc r) t b = Refused (suc r) (place_with (suc r) t)

unfoldable pub judged_of : (t b : List ℕ) → Judged
unfolding judged
judged_of t b = judged (text_refusal t) t b
