-- The answers of the batches (02, W-202), as numbers, and the refusal that they give. Assumes nothing.
use Rattle.std.specs.Prelude.{List, [], ◌∷◌, ℕ, ◌+◌, ◌*◌, ◌<◌, length, get_or, Err, Ok, Result}
use Rattle.batch.specs.Batch.{cells_refusal, cells_in, codes_refusal, batched}
use Rattle.entries.specs.declared.CodeAnswer.{CodeAnswer}
use Rattle.entries.specs.declared.CellAnswer.{CellAnswer}
use Rattle.entries.specs.declared.CountAnswer.{CountAnswer}
use Rattle.entries.specs.Entries.{code_of_cell}
use Rattle.entries.specs.Order.{Chain}

-- how many cells were answered, or the refusal, as numbers
abbrev pub batch_numbers : Result ℕ ℕ → CountAnswer
batch_numbers (Ok count) = record { refusal = 0; count = count }
batch_numbers (Err refusal) = record { refusal = refusal; count = 0 }

unfoldable pub cells_answer : (codes : List ℕ) (room : ℕ) → CountAnswer
cells_answer codes room = batch_numbers (batched (cells_refusal codes room) (length codes))

unfoldable pub codes_answer : (ns : List ℕ) (room : ℕ) → CountAnswer
codes_answer ns room = batch_numbers (batched (codes_refusal ns room) (cells_in ns))

-- 8: "lent buffer shorter than the answer"
abbrev pub cells_tests : (codes : List ℕ) (room : ℕ) → Chain
cells_tests codes room = (8, room < 7 * length codes) ∷ []

abbrev pub codes_tests : (ns : List ℕ) (room : ℕ) → Chain
codes_tests ns room = (8, room < 2 * cells_in ns) ∷ []

-- what `jgv_code_cell` answers, and what `jgv_cell_code` answers, number by number
abbrev pub seven_numbers : CellAnswer → List ℕ
seven_numbers r = r.refusal ∷ r.n ∷ r.s ∷ r.face ∷ r.resolution ∷ r.row ∷ r.column ∷ []

abbrev pub two_numbers : CodeAnswer → List ℕ
two_numbers r = r.refusal ∷ r.code ∷ []

-- for the six numbers from a place on: n, s, face, resolution, row, column
abbrev pub code_from : (ns : List ℕ) (at : ℕ) → CodeAnswer
code_from ns at = code_of_cell (get_or ns at 0) (get_or ns (at + 1) 0) (get_or ns (at + 2) 0) (get_or ns (at + 3) 0) (get_or ns (at + 4) 0) (get_or ns (at + 5) 0)
