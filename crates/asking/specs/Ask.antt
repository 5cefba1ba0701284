-- Asking "tells whether all of one cell's finest cells are covered" (01 "The coverage text"). Laws/Ask shows that this is what is computed
-- here: a cell is covered whole exactly when one whole cell of the text has it inside. Assumes nothing.
use Rattle.std.specs.Prelude.{Bool, false, ◌||◌, not, List, [], ◌∷◌, ℕ, zero, suc, Err, Ok, Result}
use Rattle.reading.specs.declared.Refused.{Refused}
use Rattle.asking.specs.declared.Asked.{Asked}
use Rattle.logic.specs.Refusal.{refuse, ◌otherwise◌}
use Rattle.cell.specs.declared.Cell.{Cell}
use Rattle.code.specs.Code.{cell_of, is_of, code_refusal}
use Rattle.code.specs.Inside.{Inside, lies_within}
use Rattle.reading.specs.Ground.{whole_cells, Finest, Covers}
use Rattle.reading.specs.TextReading.{nodes_of, text_arrangement}
use Rattle.reader.specs.Check.{text_refusal, place_with}
use Rattle.asking.specs.Settle.{settled}

-- "all of one cell's finest cells are covered": every finest cell inside x is in the ground
abbrev pub AllCovered : List Cell → Cell → Type 0
AllCovered qs x = (y : Cell) → Finest y → Inside x y → Covers qs y

-- computed: the finest cells of x are among those of one of these cells
unfoldable pub any_within : List Cell → Cell → Bool
any_within [] x = false
any_within (q ∷ qs) x = lies_within q x || any_within qs x

-- 4: the code asked for. 13, 10, 9: the text's. 14: "asked arrangement differs from the heading's", the asked one being the code's
unfoldable pub ask_refusal : (t : List ℕ) (code : ℕ) → ℕ
ask_refusal t code =
    code_refusal code otherwise
    text_refusal t otherwise
    refuse (not (is_of (text_arrangement t) code)) 14

-- yes or no, and how many letters and digits settle it; or the refusal and the place
unfoldable pub asked : (r : ℕ) (t : List ℕ) (code : ℕ) → Result Asked Refused
unfolding any_within settled
asked zero t code = Ok (record { covered = any_within (whole_cells (nodes_of t)) (cell_of code); settled = settled (text_arrangement t) code (nodes_of t) })
asked (suc r) t code = Err (record { refusal = suc r; place = place_with (suc r) t })
