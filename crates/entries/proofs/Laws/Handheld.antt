-- W-208 as tables of bytes (02): texts of both versions with what jgv_coverage_check answers, and lists with what jgv_coverage_write answers and writes.
-- Nothing of a heading is taken from a definition here. Assumes nothing.
use Rattle.std.specs.Prelude.{◌≡◌, refl, List, [], ◌∷◌, map, ℕ}
use Rattle.logic.specs.Refusal.{◌otherwise◌, given}
use Rattle.ternary.specs.Digits.{value}
use Rattle.ternary.specs.Weave.{row_in, column_in}
use Rattle.cell.specs.Cell.{arrangement_refusal}
use Rattle.code.specs.Code.{cell_code_at, cell_code, cell_coded, is_cell_code, code_at, code_of, cell_of, arrangement_of, is_code, is_of, digits_of, size_of}
use Rattle.code.specs.Inside.{lies_within}
use Rattle.name.specs.Name.{name_code}
use Rattle.reading.specs.Ground.{cell_named, whole_cells, size_sum}
use Rattle.reading.specs.Parse.{parse}
use Rattle.reading.specs.Prefix.{numbers_of}
use Rattle.reading.specs.Scan.{scan}
use Rattle.reading.specs.Place.{place_of}
use Rattle.reading.specs.Heading.{lead}
use Rattle.reading.specs.TextReading.{nodes_of, profile_of, north_of, south_of, is_text, read_text}
use Rattle.reading.specs.Written.{tails, any_ends, node_of, side, built, written_text, fitting}
use Rattle.reader.specs.Check.{other_version, text_refusal, checked_of}
use Rattle.writing.specs.Write.{all_codes, all_of, ordered, codes_refusal, is_version, fit_refusal, write_refusal, text_of, text_in, written}
use Rattle.entries.specs.Entries.{arrangement}
use Rattle.entries.specs.Texts.{check_numbers}
use Rattle.entries.proofs.Laws.Texts.{write_answer, written_bytes}
use Rattle.entries.specs.declared.CheckAnswer.{CheckAnswer}

-- ---- checking

-- a text, and the numbers that are answered: refusal, place, version, depth, n, s, cells, size
pub data Text : Type 0 where
  text : (bytes numbers : List ℕ) → Text

abbrev check_list : CheckAnswer → List ℕ
check_list r = r.refusal ∷ r.place ∷ r.version ∷ r.depth ∷ r.n ∷ r.s ∷ r.cells ∷ r.size ∷ []

unfoldable pub checked_as : Text → List ℕ
checked_as (text bytes numbers) = check_list (check_numbers (checked_of bytes))

unfoldable pub check_said : Text → List ℕ
check_said (text bytes numbers) = numbers

pub texts : List Text
texts =
    text (67 ∷ 86 ∷ 82 ∷ 0 ∷ 1 ∷ 49 ∷ 50 ∷ 79 ∷ 40 ∷ 48 ∷ 41 ∷ []) (0 ∷ 0 ∷ 1 ∷ 15 ∷ 1 ∷ 2 ∷ 1 ∷ 22876792454961 ∷ []) ∷  -- version 1 at (1, 2), `O(0)`: depth 15
    text (67 ∷ 86 ∷ 82 ∷ 0 ∷ 1 ∷ 48 ∷ 48 ∷ 78 ∷ 40 ∷ 48 ∷ 41 ∷ []) (0 ∷ 0 ∷ 1 ∷ 15 ∷ 0 ∷ 0 ∷ 1 ∷ 22876792454961 ∷ []) ∷  -- version 1, `N(0)`
    text (67 ∷ 86 ∷ 82 ∷ 0 ∷ 2 ∷ 49 ∷ 50 ∷ 97 ∷ 78 ∷ 79 ∷ 83 ∷ []) (0 ∷ 0 ∷ 2 ∷ 0 ∷ 1 ∷ 2 ∷ 3 ∷ 617673396283947 ∷ []) ∷  -- version 2 at (1, 2), `a`: depth 0, `NOS`
    text (67 ∷ 86 ∷ 82 ∷ 0 ∷ 2 ∷ 48 ∷ 48 ∷ 98 ∷ 79 ∷ 40 ∷ 48 ∷ 41 ∷ 82 ∷ []) (0 ∷ 0 ∷ 2 ∷ 1 ∷ 0 ∷ 0 ∷ 2 ∷ 228767924549610 ∷ []) ∷  -- `b`: depth 1
    text (67 ∷ 86 ∷ 82 ∷ 0 ∷ 2 ∷ 48 ∷ 48 ∷ 112 ∷ []) (0 ∷ 0 ∷ 2 ∷ 15 ∷ 0 ∷ 0 ∷ 0 ∷ 0 ∷ []) ∷  -- `p`: depth 15, nothing covered
    text (67 ∷ 86 ∷ 82 ∷ 0 ∷ 2 ∷ 48 ∷ 48 ∷ 97 ∷ 79 ∷ 40 ∷ 48 ∷ 41 ∷ []) (9 ∷ 9 ∷ 0 ∷ 0 ∷ 0 ∷ 0 ∷ 0 ∷ 0 ∷ []) ∷  -- `a`, `O(`: a digit at depth 0
    text (67 ∷ 86 ∷ 82 ∷ 0 ∷ 2 ∷ 48 ∷ 48 ∷ 98 ∷ 82 ∷ 40 ∷ 48 ∷ 40 ∷ 48 ∷ 41 ∷ 41 ∷ []) (9 ∷ 11 ∷ 0 ∷ 0 ∷ 0 ∷ 0 ∷ 0 ∷ 0 ∷ []) ∷  -- `b`, `R(0(`: a digit deeper than 1
    text (67 ∷ 86 ∷ 82 ∷ 0 ∷ 2 ∷ 48 ∷ 48 ∷ 112 ∷ 78 ∷ 40 ∷ 48 ∷ 41 ∷ []) (9 ∷ 9 ∷ 0 ∷ 0 ∷ 0 ∷ 0 ∷ 0 ∷ 0 ∷ []) ∷  -- `p`, `N(`: N only whole
    text (67 ∷ 86 ∷ 82 ∷ 0 ∷ 2 ∷ 48 ∷ 48 ∷ 112 ∷ 83 ∷ 40 ∷ 48 ∷ 41 ∷ []) (9 ∷ 9 ∷ 0 ∷ 0 ∷ 0 ∷ 0 ∷ 0 ∷ 0 ∷ []) ∷  -- `p`, `S(`: S only whole
    text (67 ∷ 86 ∷ 82 ∷ 0 ∷ 2 ∷ 48 ∷ 48 ∷ 113 ∷ []) (9 ∷ 7 ∷ 0 ∷ 0 ∷ 0 ∷ 0 ∷ 0 ∷ 0 ∷ []) ∷  -- `q` is no depth
    text (67 ∷ 86 ∷ 82 ∷ 0 ∷ 2 ∷ 48 ∷ 48 ∷ 96 ∷ []) (9 ∷ 7 ∷ 0 ∷ 0 ∷ 0 ∷ 0 ∷ 0 ∷ 0 ∷ []) ∷  -- nor is the byte before `a`
    text (67 ∷ 86 ∷ 82 ∷ 0 ∷ 2 ∷ 48 ∷ 48 ∷ []) (9 ∷ 7 ∷ 0 ∷ 0 ∷ 0 ∷ 0 ∷ 0 ∷ 0 ∷ []) ∷  -- no letter
    text (67 ∷ 86 ∷ 82 ∷ 0 ∷ 2 ∷ 48 ∷ []) (9 ∷ 6 ∷ 0 ∷ 0 ∷ 0 ∷ 0 ∷ 0 ∷ 0 ∷ []) ∷  -- no s
    text (67 ∷ 86 ∷ 82 ∷ 0 ∷ []) (9 ∷ 4 ∷ 0 ∷ 0 ∷ 0 ∷ 0 ∷ 0 ∷ 0 ∷ []) ∷  -- no version
    text (67 ∷ 86 ∷ 82 ∷ 0 ∷ 3 ∷ 48 ∷ 48 ∷ 97 ∷ []) (10 ∷ 0 ∷ 0 ∷ 0 ∷ 0 ∷ 0 ∷ 0 ∷ 0 ∷ []) ∷  -- version 3
    []

pub texts-checked : map checked_as texts ≡ map check_said texts
unfolding texts checked_as check_said ◌otherwise◌ checked_of text_refusal is_text read_text parse place_of lead scan nodes_of profile_of north_of south_of whole_cells cell_named size_sum size_of value
texts-checked = refl

-- ---- writing

-- at (1, 2): a version, a depth and the names of the cells, what is refused, and the text
pub data Asked : Type 0 where
  list : (version depth : ℕ) (names : List (List ℕ)) (refusal : ℕ) (bytes : List ℕ) → Asked

-- room for sixteen bytes
abbrev lent : List ℕ
lent = 0 ∷ 0 ∷ 0 ∷ 0 ∷ 0 ∷ 0 ∷ 0 ∷ 0 ∷ 0 ∷ 0 ∷ 0 ∷ 0 ∷ 0 ∷ 0 ∷ 0 ∷ 0 ∷ []

abbrev codes_named : List (List ℕ) → List ℕ
codes_named names = map (name_code (arrangement 1 2)) names

unfoldable pub written_as : Asked → List ℕ
written_as (list v d names refusal bytes) = (write_answer v d 1 2 (codes_named names) lent).refusal ∷ written_bytes v d 1 2 (codes_named names) lent

unfoldable pub write_said : Asked → List ℕ
write_said (list v d names refusal bytes) = refusal ∷ bytes

pub lists : List Asked
lists =
    list 2 0 ((78 ∷ 48 ∷ []) ∷ (78 ∷ 49 ∷ []) ∷ (78 ∷ 50 ∷ []) ∷ (78 ∷ 51 ∷ []) ∷ (78 ∷ 52 ∷ []) ∷ (78 ∷ 53 ∷ []) ∷ (78 ∷ 54 ∷ []) ∷ (78 ∷ 55 ∷ []) ∷ (78 ∷ 56 ∷ []) ∷ []) 0
    (67 ∷ 86 ∷ 82 ∷ 0 ∷ 2 ∷ 49 ∷ 50 ∷ 97 ∷ 78 ∷ []) ∷  -- N0 to N8 at depth 0 "pass as N"
    list 2 15 ((78 ∷ 48 ∷ []) ∷ []) 15 ([]) ∷  -- N0 at depth 15
    list 2 15 ((83 ∷ 56 ∷ []) ∷ []) 15 ([]) ∷  -- S8 at depth 15
    list 2 1 ((80 ∷ 52 ∷ []) ∷ []) 0 (67 ∷ 86 ∷ 82 ∷ 0 ∷ 2 ∷ 49 ∷ 50 ∷ 98 ∷ 80 ∷ 40 ∷ 52 ∷ 41 ∷ []) ∷  -- P4 at depth 1
    list 2 0 ((80 ∷ 52 ∷ []) ∷ []) 15 ([]) ∷  -- P4 at depth 0
    list 1 0 ((78 ∷ 48 ∷ []) ∷ (80 ∷ 52 ∷ []) ∷ []) 0 (67 ∷ 86 ∷ 82 ∷ 0 ∷ 1 ∷ 49 ∷ 50 ∷ 78 ∷ 40 ∷ 48 ∷ 41 ∷ 80 ∷ 40 ∷ 52 ∷ 41 ∷ []) ∷  -- N0 and P4 at version 1, which makes no use of the depth
    list 1 16 ((80 ∷ []) ∷ []) 2 ([]) ∷  -- depth 16, at version 1 too
    list 3 0 ((80 ∷ []) ∷ []) 10 ([]) ∷  -- version 3
    list 2 0 ((80 ∷ 52 ∷ []) ∷ (80 ∷ 52 ∷ []) ∷ []) 11 ([]) ∷  -- 11 before 15
    []

pub lists-written : map written_as lists ≡ map write_said lists
unfolding lists written_as write_said ◌otherwise◌ given value row_in column_in code_at cell_code_at cell_code code_of cell_coded cell_of arrangement_of is_cell_code
    is_code is_of arrangement_refusal name_code digits_of lies_within numbers_of built written_text fitting
    write_refusal codes_refusal all_codes all_of ordered is_version fit_refusal text_of text_in written size_of
lists-written = refl
