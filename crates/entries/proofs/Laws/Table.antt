-- 01's proved table: its twelve lines as one table, over what the entries answer, and one statement. Assumes nothing.
use Rattle.std.specs.Prelude.{◌≡◌, refl, List, [], ◌∷◌, ◌++◌, map, ℕ, ◌*◌, ◌^◌, ℤ, pos, neg_ℤ}
use Rattle.ternary.specs.Digits.{value}
use Rattle.ternary.specs.Weave.{row_in, column_in}
use Rattle.root.specs.Floor.{root_floor}
use Rattle.logic.specs.Refusal.{◌otherwise◌, given}
use Rattle.cell.specs.Cell.{arrangement_refusal}
use Rattle.cell.specs.Neighbour.{neighbour_of}
use Rattle.code.specs.Code.{cell_code_at, cell_code, cell_coded, is_cell_code, code_at, code_of, cell_of, arrangement_of, is_code, code_refusal, coded}
use Rattle.plane.specs.Plane.{point_refusal}
use Rattle.locate.specs.Fix.{fix_cell, fix_refusal}
use Rattle.name.specs.Name.{name_code}
use Rattle.reading.specs.declared.Profile.TheVariants.{Full}
use Rattle.reading.specs.Text.{heading}
use Rattle.reading.specs.Parse.{parse}
use Rattle.reading.specs.Scan.{scan}
use Rattle.reading.specs.Place.{place_of}
use Rattle.reading.specs.Heading.{lead}
use Rattle.reading.specs.TextReading.{is_text, to_end, read_text}
use Rattle.reader.specs.Check.{text_refusal, checked_of}
use Rattle.entries.specs.Entries.{arrangement, fix_code, point_code, neighbour_code, code_answer}
use Rattle.entries.specs.Texts.{check_numbers}
use Rattle.entries.specs.declared.CodeAnswer.{CodeAnswer}

-- A line of the table. Names and bodies are bytes; n, s, k, then what is asked, then what 01 says.
pub data Line : Type 0 where
  fix : (n s k : ℕ) (L z : ℤ) (name : List ℕ) → Line
  step : (n s : ℕ) (name : List ℕ) (direction : ℕ) (neighbour : List ℕ) → Line
  body : (n s : ℕ) (bytes : List ℕ) (refusal place : ℕ) → Line
  point : (n s k : ℕ) (x y : ℤ) (refusal : ℕ) → Line

-- the numbers that the entry answers, refusal first, and those that 01 says
abbrev code_numbers : CodeAnswer → List ℕ
code_numbers r = r.refusal ∷ r.code ∷ []

unfoldable pub answered : Line → List ℕ
answered (fix n s k L z name) = code_numbers (fix_code n s k L z)
answered (step n s name d next) = code_numbers (neighbour_code (name_code (arrangement n s) name) d)
answered (body n s bytes refusal place) =
    (check_numbers (checked_of (heading Full n s ++ bytes))).refusal ∷ (check_numbers (checked_of (heading Full n s ++ bytes))).place ∷ []
answered (point n s k x y refusal) = code_numbers (point_code n s k x y)

unfoldable pub said : Line → List ℕ
said (fix n s k L z name) = 0 ∷ name_code (arrangement n s) name ∷ []
said (step n s name d next) = 0 ∷ name_code (arrangement n s) next ∷ []
said (body n s bytes refusal place) = refusal ∷ place ∷ []
said (point n s k x y refusal) = refusal ∷ 0 ∷ []

abbrev west : ℕ → ℤ
west L = neg_ℤ (pos L)

-- (n, s) = (0, 0) unless said; line 9 has four directions
pub table : List Line
table =
    fix 0 0 2 (pos 0) (pos 0) (81 ∷ 51 ∷ 51 ∷ []) ∷  -- 1: Q33
    fix 0 0 1 (pos 123456789) (pos (10 ^ 18)) (78 ∷ 52 ∷ []) ∷  -- 2: N4
    fix 0 0 1 (west 1350000000) (pos 666666666666666666) (79 ∷ 49 ∷ []) ∷  -- 3: O1
    fix 0 0 1 (west 1350000000) (pos 666666666666666667) (78 ∷ 55 ∷ []) ∷  -- 4: N7
    fix 0 0 1 (west 900000000) (pos 880000000000000000) (78 ∷ 56 ∷ []) ∷  -- 5: N8
    fix 1 0 1 (west 900000000) (pos 880000000000000000) (78 ∷ 54 ∷ []) ∷  -- 6: N6
    fix 0 0 1 (west 900000000) (neg_ℤ (pos 880000000000000000)) (83 ∷ 50 ∷ []) ∷  -- 7: S2
    fix 0 0 2 (west 1350000000) (pos 970000000000000000) (78 ∷ 52 ∷ 55 ∷ []) ∷  -- 8: N47
    step 0 0 (80 ∷ 48 ∷ []) 0 (78 ∷ 56 ∷ []) ∷  -- 9: P0 up, N8
    step 0 0 (80 ∷ 48 ∷ []) 1 (80 ∷ 49 ∷ []) ∷  -- right, P1
    step 0 0 (80 ∷ 48 ∷ []) 2 (80 ∷ 51 ∷ []) ∷  -- down, P3
    step 0 0 (80 ∷ 48 ∷ []) 3 (79 ∷ 50 ∷ []) ∷  -- left, O2
    body 0 0 (79 ∷ 40 ∷ 41 ∷ []) 9 9 ∷  -- 10: `O()`
    body 0 0 (79 ∷ 40 ∷ 48 ∷ 49 ∷ 50 ∷ 51 ∷ 52 ∷ 53 ∷ 54 ∷ 55 ∷ 56 ∷ 41 ∷ []) 9 18 ∷  -- 11: `O(012345678)`
    point 0 0 0 (pos (4 * 28697814)) (pos 0) 7 ∷  -- 12: X 4M, Y 0
    []

pub proved-table : map answered table ≡ map said table
unfolding answered said table ◌otherwise◌ given value row_in column_in code_answer coded code_at cell_code_at cell_code code_of cell_coded cell_of arrangement_of is_cell_code
    is_code code_refusal arrangement_refusal name_code fix_code fix_refusal fix_cell root_floor neighbour_code neighbour_of
    point_code point_refusal checked_of text_refusal is_text read_text to_end parse place_of lead scan
proved-table = refl
