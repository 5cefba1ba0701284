-- A partner's neighbour sheet (02, W-211): the sheet of our rules, when a sheet is right, which record a no names, and what writing answers. Assumes
-- nothing.
use Rattle.std.specs.Prelude.{◌≡◌, List, [], ◌∷◌, ◌++◌, map, ℕ, zero, suc, ◌*◌, ◌/◌, ◌%◌, ◌^◌, ◌<◌, ltb, length, take, drop, Err, Ok, Result}
use Rattle.reading.specs.declared.Refused.{Refused}
use Rattle.logic.specs.Lent.{in_front}
use Rattle.logic.specs.Lists.{All, Mem}
use Rattle.logic.specs.Refusal.{refuse, ◌otherwise◌}
use Rattle.logic.specs.Rise.{Rise}
use Rattle.cell.specs.declared.Cell.{Cell}
use Rattle.cell.specs.declared.Arrangement.{Arrangement}
use Rattle.cell.specs.Neighbour.{neighbour_of}
use Rattle.code.specs.Code.{code_of, cell_of}
use Rattle.reading.specs.Ground.{whole_cells}
use Rattle.reading.specs.TextReading.{nodes_of, text_arrangement}
use Rattle.reader.specs.Check.{text_refusal, place_with}
use Rattle.listing.specs.List.{codes_of}
use Rattle.sheet.specs.declared.Record.{Record}

-- ---- the sheet of our rules

-- "its code and four neighbour codes in our direction order"
unfoldable pub record_of : Arrangement → Cell → Record
record_of a c =
    record {
      code = code_of a c;
      up = code_of a (neighbour_of a c 0);
      right = code_of a (neighbour_of a c 1);
      down = code_of a (neighbour_of a c 2);
      left = code_of a (neighbour_of a c 3);
    }

-- "for a coverage, one record .. per whole cell", in the heading's arrangement
unfoldable pub records_of : List ℕ → List Record
records_of t = map (record_of (text_arrangement t)) (whole_cells (nodes_of t))

-- the n lowest bytes of a number, "low byte first"
unfoldable pub low : (n x : ℕ) → List ℕ
low zero x = []
low (suc n) x = (x % 256) ∷ low n (x / 256)

-- "five 64-bit numbers, low byte first"
unfoldable pub bytes_of : Record → List ℕ
bytes_of r = low 8 r.code ++ (low 8 r.up ++ (low 8 r.right ++ (low 8 r.down ++ low 8 r.left)))

-- the bytes of records, one behind the other
unfoldable pub joined : List Record → List ℕ
joined [] = []
joined (r ∷ rs) = bytes_of r ++ joined rs

-- "A sheet made by our rules"
unfoldable pub sheet_of : List ℕ → List ℕ
sheet_of t = joined (records_of t)

-- ---- yes

-- each of the "five 64-bit numbers" is one
pub record Words (r : Record) : Type 0 where
  pub code : r.code < 2 ^ 64
  pub up : r.up < 2 ^ 64
  pub right : r.right < 2 ^ 64
  pub down : r.down < 2 ^ 64
  pub left : r.left < 2 ^ 64

-- "all neighbours are right": they are those of the code's cell, "in our direction order"
pub record Neighbours (a : Arrangement) (r : Record) : Type 0 where
  pub up : r.up ≡ code_of a (neighbour_of a (cell_of r.code) 0)
  pub right : r.right ≡ code_of a (neighbour_of a (cell_of r.code) 1)
  pub down : r.down ≡ code_of a (neighbour_of a (cell_of r.code) 2)
  pub left : r.left ≡ code_of a (neighbour_of a (cell_of r.code) 3)

abbrev pub codes_in : List Record → List ℕ
codes_in rs = map (λ (r : Record). r.code) rs

-- "Yes exactly when the records stand in rising order, each whole cell has one, no other has any, and all neighbours are right."
pub record Yes (t b : List ℕ) : Type 0 where
  pub records : List Record
  pub words : All Words records
  pub bytes : b ≡ joined records
  pub rising : Rise (codes_in records)
  pub each : All (λ (code : ℕ). Mem code (codes_in records)) (codes_of t)
  pub other : All (λ (code : ℕ). Mem code (codes_of t)) (codes_in records)
  pub neighbours : All (Neighbours (text_arrangement t)) records

-- ---- no

-- the bytes that a sheet has at record k: 40, fewer where it ends there, none behind that
abbrev pub record_at : (k : ℕ) (b : List ℕ) → List ℕ
record_at k b = take 40 (drop (40 * k) b)

-- "counted from 0, the first record that is not the one our rules put there"
pub record FirstWrong (ours b : List ℕ) (k : ℕ) : Type 0 where
  pub before : (j : ℕ) → j < k → record_at j b ≡ record_at j ours
  pub here : record_at k b ≡ record_at k ours → ⊥

-- ---- writing

-- 13, 10, 9: the text's. 8: "lent buffer shorter than the answer"
unfoldable pub sheet_refusal : (t : List ℕ) (room : ℕ) → ℕ
sheet_refusal t room = text_refusal t otherwise refuse (ltb room (length (sheet_of t))) 8

-- the lent bytes with the sheet in front: "an answer changes only its own length"
unfoldable pub sheet_in : (t b : List ℕ) → List ℕ
sheet_in t b = in_front (sheet_of t) b

-- how many bytes were written, or the refusal and the place
unfoldable pub written : (r : ℕ) (t : List ℕ) → Result ℕ Refused
written zero t = Ok (length (sheet_of t))
written (suc r) t = Err (record { refusal = suc r; place = place_with (suc r) t })
