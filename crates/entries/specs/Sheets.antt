-- The answers of the entries that check and write a neighbour sheet (02, W-211), as numbers: for each case of the library's answer the refusal number
-- and the values, zeros beside a refusal. Assumes nothing.
use Rattle.std.specs.Prelude.{◌≡◌, List, [], ◌∷◌, ℕ, ◌<◌, length, Err, Ok, Result}
use Rattle.reading.specs.declared.Refused.{Refused}
use Rattle.reading.specs.Text.{Accepted}
use Rattle.reader.specs.Check.{WrongVersion}
use Rattle.sheet.specs.declared.Judged.{Judged}
use Rattle.sheet.specs.declared.Judged.TheVariants as judged-as
use Rattle.sheet.specs.Sheet.{sheet_of}
use Rattle.entries.specs.declared.SheetAnswer.{SheetAnswer}
use Rattle.entries.specs.declared.SheetLengthAnswer.{SheetLengthAnswer}
use Rattle.entries.specs.Order.{Chain}

-- 1 for yes, with no record; 0 for no, with "the first record that is not the one our rules put there"
abbrev pub sheet_numbers : Judged → SheetAnswer
sheet_numbers judged-as.Right = record { refusal = 0; place = 0; right = 1; «record» = 0 }
sheet_numbers (judged-as.Wrong k) = record { refusal = 0; place = 0; right = 0; «record» = k }
sheet_numbers (judged-as.Refused refusal place) = record { refusal = refusal; place = place; right = 0; «record» = 0 }

-- the length of the sheet in bytes
abbrev pub sheet_length_numbers : Result ℕ Refused → SheetLengthAnswer
sheet_length_numbers (Ok length) = record { refusal = 0; place = 0; length = length }
sheet_length_numbers (Err e) = record { refusal = e.refusal; place = e.place; length = 0 }

-- checking has the text's 13, 10, 9 only. In writing 8: "lent buffer shorter than the answer"
abbrev pub sheet_write_tests : (t : List ℕ) (room : ℕ) → Chain
sheet_write_tests t room = (13, 65536 < length t) ∷ (10, WrongVersion t) ∷ (9, Accepted t → ⊥) ∷ (8, room < length (sheet_of t)) ∷ []
