-- A summary kept beside the text (02, W-207): 486 counters and the heading's n and s; and questions answered from them. Laws/Summary shows that they
-- are answered as the text answers. Assumes nothing.
use Rattle.std.specs.Prelude.{Bool, true, false, ◌&&◌, ◌||◌, not, List, [], ◌∷◌, ℕ, zero, suc, ◌+◌, ◌*◌, ◌/◌, ◌^◌, eqb, ltb, get_or, replicate, Err, Ok, Result}
use Rattle.reading.specs.declared.Refused.{Refused}
use Rattle.logic.specs.Refusal.{refuse, ◌otherwise◌, given}
use Rattle.counting.specs.Count.{count_of, between, tabulate}
use Rattle.cell.specs.declared.Cell.{Cell}
use Rattle.cell.specs.declared.Arrangement.{Arrangement}
use Rattle.cell.specs.Cell.{arrangement_refusal}
use Rattle.code.specs.Code.{size_of, cell_of, is_of, code_refusal}
use Rattle.code.specs.Inside.{start_of, end_of}
use Rattle.reading.specs.Ground.{whole_cells}
use Rattle.reading.specs.TextReading.{nodes_of, north_of, south_of}
use Rattle.reader.specs.Check.{text_refusal, place_with}

-- the finest cell of this number is covered by these cells: the finest cells are numbered in code order, and a cell has those from its start to its end
unfoldable pub covered_at : List Cell → ℕ → Bool
covered_at [] y = false
covered_at (q ∷ qs) y = between (start_of q) (end_of q) y || covered_at qs y

-- "the number of covered finest cells inside it": the resolution-2 cell of number x has 9^13 finest cells
unfoldable pub counter_of : List Cell → (x : ℕ) → ℕ
counter_of qs x = count_of (9 ^ 13) (x * 9 ^ 13) (covered_at qs)

-- "486 counters, one for each resolution-2 cell, .. in code order"
unfoldable pub counters_of : List Cell → List ℕ
counters_of qs = tabulate 486 (counter_of qs)

-- "all zero before the first face is read"
abbrev pub zeros : List ℕ
zeros = replicate 486 0

-- ---- a text's summary

-- "and the heading's n and s"; or the text's refusal, 13, 10 or 9, and the place
unfoldable pub summarized : (r : ℕ) (t : List ℕ) → Result Arrangement Refused
summarized zero t = Ok (record { north = north_of t; south = south_of t })
summarized (suc r) t = Err (record { refusal = suc r; place = place_with (suc r) t })

-- the counters beside it, which are lent: "A refusal changes no lent byte"
unfoldable pub kept_counters : (t lent : List ℕ) → List ℕ
kept_counters t lent = given (text_refusal t) (counters_of (whole_cells (nodes_of t))) lent

-- ---- questions

-- each of n counters from `first` on is 9^13
unfoldable pub all_full : List ℕ → (first n : ℕ) → Bool
all_full counters first zero = true
all_full counters first (suc n) = all_full counters first n && eqb (get_or counters (first + n) 0) (9 ^ 13)

-- "yes exactly when each one inside the cell is 9^13": those of a cell of resolution 0 to 2 stand side by side (Laws/District: exactly those)
unfoldable pub is_full : List ℕ → Cell → Bool
unfolding all_full
is_full counters c = all_full counters (start_of c / 9 ^ 13) (size_of c / 9 ^ 13)

-- 5: "also for a kept n or s above 3". 4. "2 for a finer cell asked, after 4; 14 for a question of another arrangement than the one kept"
unfoldable pub question_refusal : (kept : Arrangement) (code : ℕ) → ℕ
question_refusal kept code =
    arrangement_refusal kept otherwise
    code_refusal code otherwise
    refuse (ltb 2 (cell_of code).resolution) 2 otherwise
    refuse (not (is_of kept code)) 14

-- yes or no, or the refusal
unfoldable pub questioned : (r : ℕ) (counters : List ℕ) (code : ℕ) → Result Bool ℕ
unfolding is_full
questioned zero counters code = Ok (is_full counters (cell_of code))
questioned (suc r) counters code = Err (suc r)
