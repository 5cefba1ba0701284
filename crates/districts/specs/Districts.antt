-- What `coverage summary FILE` prints: the districts, cells of resolution 2, that have anything. Assumes nothing.
use Rattle.std.specs.Prelude.{◌≡◌, cond, List, [], ◌∷◌, ◌++◌, ℕ, zero, suc, ◌*◌, ◌/◌, ◌^◌, ◌≤◌, ◌<◌, eqb, length, get_or}
use Rattle.code.specs.Number.{cell_as}
use Rattle.name.specs.Name.{name_of}
use Rattle.decimal.specs.Decimal.{printed}
use Rattle.reading.specs.Ground.{whole_cells}
use Rattle.reading.specs.TextReading.{nodes_of}
use Rattle.reader.specs.Check.{text_refusal}
use Rattle.report.specs.Lines.{number_line}
use Rattle.summary.specs.Summary.{counters_of}

-- `done`, or the percentage cut to a whole number and a percent sign; and a line end
unfoldable pub share_line : (count : ℕ) → List ℕ
share_line count = cond (eqb count (9 ^ 13)) (100 ∷ 111 ∷ 110 ∷ 101 ∷ 10 ∷ []) ((printed (count * 100 / 9 ^ 13) ++ (37 ∷ [])) ++ (10 ∷ []))

-- the district's name, its count and its share; nothing where it has none
unfoldable pub district_line : (x count : ℕ) → List ℕ
district_line x count = cond (eqb count 0) [] ((name_of (cell_as 2 x) ++ (32 ∷ [])) ++ ((printed count ++ (32 ∷ [])) ++ share_line count))

-- of the districts from number x on, by their counters
abbrev pub district_lines : (x : ℕ) → List ℕ → List ℕ
district_lines x [] = []
district_lines x (count ∷ counts) = district_line x count ++ district_lines (suc x) counts

-- counters as a text has them
pub record AtMostFull (counters : List ℕ) : Type 0 where
  pub long : length counters ≡ 486
  pub low : (x : ℕ) → x < 486 → get_or counters x 0 ≤ 9 ^ 13

-- of a text, or the refusal number on a line
abbrev pub lines_with : (refusal : ℕ) (t : List ℕ) → List ℕ
lines_with zero t = district_lines 0 (counters_of (whole_cells (nodes_of t)))
lines_with (suc r) t = number_line (suc r)

unfoldable pub summary_lines : (t : List ℕ) → List ℕ
summary_lines t = lines_with (text_refusal t) t
