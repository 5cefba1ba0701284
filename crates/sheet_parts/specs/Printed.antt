-- What `coverage sheet` prints, and what it says of a sheet that it reads (02, W-211). Assumes nothing.
use Rattle.std.specs.Prelude.{◌≡◌, List, [], ◌∷◌, ◌++◌, ℕ, zero, suc, ◌*◌, ◌%◌, ◌≤◌, ◌<◌, length, take, drop}
use Rattle.decimal.specs.Decimal.{printed}
use Rattle.reader.specs.Check.{place_with}
use Rattle.report.specs.Lines.{number_line}
use Rattle.sheet.specs.declared.Record.{Record}
use Rattle.sheet.specs.declared.Judged.{Judged}
use Rattle.sheet.specs.declared.Judged.TheVariants.{Right, Wrong, Refused}
use Rattle.sheet.specs.Sheet.{records_of, joined}
use Rattle.sheet.specs.Verdict.{verdict}
use Rattle.sheet_parts.specs.declared.SheetPut.{SheetPut}

-- `yes`; `no` and the record; or the refusal number
unfoldable pub judged_line : Judged → List ℕ
judged_line Right = 121 ∷ 101 ∷ 115 ∷ 10 ∷ []
judged_line (Wrong k) = (110 ∷ 111 ∷ 32 ∷ []) ++ (printed k ++ (10 ∷ []))
judged_line (Refused refusal place) = number_line refusal

-- ---- writing

-- Records are put part by part into a room, and each part is printed before the next is put. Of what was printed no statement can speak; so this one
-- speaks of what waits: the last part, whole records up to the last one, all of them where they have room
pub record PartsWritten (records : List Record) (out : List ℕ) (waiting : ℕ) : Type 0 where
  pub from : ℕ
  pub bytes : take waiting out ≡ joined (drop from records)
  pub some : 0 < length records → from < length records
  pub all : 40 * length records ≤ length out → from ≡ 0
  pub fits : waiting ≤ length out

-- `coverage sheet FILE`: the text's records; nothing where it is refused
abbrev pub SheetWritten : (refusal : ℕ) (t out : List ℕ) → SheetPut → Type 0
SheetWritten zero t out put = PartsWritten (records_of t) out put.end × (put.refusal ≡ 0) × (put.place ≡ 0)
SheetWritten (suc r) t out put = (put.end ≡ 0) × (put.refusal ≡ suc r) × (put.place ≡ place_with (suc r) t)

-- ---- reading

-- The answer is the verdict on the bytes read: those of earlier parts, which no statement can show, and those that stand in the room. Where these fill it,
-- reading stopped at a wrong record, and whatever follows does not change the answer
pub record Judges (t room : List ℕ) (r : Judged) : Type 0 where
  pub earlier : List ℕ
  pub count : ℕ
  pub whole : length earlier % 40 ≡ 0
  pub fits : count ≤ length room
  pub told : r ≡ verdict t (earlier ++ take count room)
  pub settled : count ≡ length room → (rest : List ℕ) → verdict t ((earlier ++ take count room) ++ rest) ≡ r

-- `coverage sheet FILE SHEET`: the text's refusal comes first
abbrev pub JudgesText : (refusal : ℕ) (t room : List ℕ) → Judged → Type 0
JudgesText zero t room r = Judges t room r
JudgesText (suc q) t room r = r ≡ Refused (suc q) (place_with (suc q) t)
