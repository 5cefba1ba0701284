-- What `coverage summary FILE NAME` prints: whether the cell of a name is done, by the text's summary. Assumes nothing.
use Rattle.std.specs.Prelude.{true, false, List, [], ◌∷◌, ℕ, Err, Ok, Result, Bool}
use Rattle.reading.specs.declared.Refused.{Refused}
use Rattle.logic.specs.Refusal.{◌otherwise◌, given}
use Rattle.cell.specs.declared.Arrangement.{Arrangement}
use Rattle.name.specs.Name.{name_refusal, name_code}
use Rattle.reading.specs.Ground.{whole_cells}
use Rattle.reading.specs.TextReading.{nodes_of, text_arrangement}
use Rattle.reader.specs.Check.{text_refusal, place_with}
use Rattle.report.specs.Lines.{number_line}
use Rattle.summary.specs.Summary.{counters_of, question_refusal, questioned}

abbrev pub kept_arrangement : Result Arrangement Refused → Arrangement
kept_arrangement (Ok x) = x
kept_arrangement (Err e) = record { north = 0; south = 0 }

-- the name's refusal, otherwise the text's, otherwise that of the question in the text's own arrangement
unfoldable pub name_question_refusal : (t name : List ℕ) → ℕ
name_question_refusal t name = name_refusal name otherwise text_refusal t otherwise question_refusal (text_arrangement t) (name_code (text_arrangement t) name)

-- the text's place with its 9, and 0 with any other number
unfoldable pub question_place : (t name : List ℕ) → ℕ
question_place t name = given (name_refusal name) (place_with (text_refusal t) t) 0

unfoldable pub questioned_name : (t name : List ℕ) → Result Bool ℕ
unfolding name_question_refusal
questioned_name t name = questioned (name_question_refusal t name) (counters_of (whole_cells (nodes_of t))) (name_code (text_arrangement t) name)

-- "`yes`, `no` or the refusal number"
unfoldable pub question_line : Result Bool ℕ → List ℕ
question_line (Ok true) = 121 ∷ 101 ∷ 115 ∷ 10 ∷ []
question_line (Ok false) = 110 ∷ 111 ∷ 10 ∷ []
question_line (Err refusal) = number_line refusal

abbrev pub refusal_of : Result Bool ℕ → ℕ
refusal_of (Ok covered) = 0
refusal_of (Err refusal) = refusal
