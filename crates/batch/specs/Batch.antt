-- Batches (02, W-202): the cells of many codes, and the codes of many cells, as numbers one behind the other. Each stands as it is answered alone, a bad
-- one with its own refusal. Assumes nothing.
use Rattle.std.specs.Prelude.{List, [], ◌∷◌, ◌++◌, ℕ, zero, suc, ◌*◌, ◌/◌, ltb, length, get_or, drop, Err, Ok, Result}
use Rattle.logic.specs.Lent.{in_front}
use Rattle.logic.specs.Refusal.{refuse, ◌otherwise◌, given}
use Rattle.cell.specs.declared.Cell.{Cell}
use Rattle.cell.specs.declared.Arrangement.{Arrangement}
use Rattle.cell.specs.Cell.{cell_refusal, arrangement_refusal, found}
use Rattle.code.specs.Code.{code_of, cell_of, arrangement_of, code_refusal, coded, refusal_in, code_in}

-- ---- "Turn codes into rows and columns"

-- seven numbers: refusal, n, s, face, resolution, row, column; zeros beside a refusal
abbrev pub seven : (refusal : ℕ) → Arrangement → Cell → List ℕ
seven r a c = r ∷ a.north ∷ a.south ∷ c.face ∷ c.resolution ∷ c.row ∷ c.column ∷ []

abbrev pub seven_good : Arrangement → Cell → List ℕ
seven_good a c = seven 0 a c

abbrev pub seven_bad : (refusal : ℕ) → List ℕ
seven_bad r = r ∷ 0 ∷ 0 ∷ 0 ∷ 0 ∷ 0 ∷ 0 ∷ []

abbrev pub seven_in : Arrangement → Result Cell ℕ → List ℕ
seven_in a (Ok c) = seven_good a c
seven_in a (Err r) = seven_bad r

unfoldable pub seven_of : ℕ → List ℕ
seven_of code = seven_in (arrangement_of code) (found (code_refusal code) (cell_of code))

unfoldable pub cells_of : List ℕ → List ℕ
cells_of [] = []
cells_of (code ∷ codes) = seven_of code ++ cells_of codes

-- 8: "lent buffer shorter than the answer"
unfoldable pub cells_refusal : (codes : List ℕ) (room : ℕ) → ℕ
cells_refusal codes room = refuse (ltb room (7 * length codes)) 8

-- the lent numbers afterwards: the cells in front, and with a refusal what stood there
abbrev pub cells_memory : (codes lent : List ℕ) → List ℕ
cells_memory codes lent = given (cells_refusal codes (length lent)) (in_front (cells_of codes) lent) lent

-- ---- "and back"

-- the six numbers in front: n, s, face, resolution, row, column
abbrev pub arrangement_at : List ℕ → Arrangement
arrangement_at ns = record { north = get_or ns 0 0; south = get_or ns 1 0 }

abbrev pub cell_at : List ℕ → Cell
cell_at ns = record { face = get_or ns 2 0; resolution = get_or ns 3 0; row = get_or ns 4 0; column = get_or ns 5 0 }

-- their code, or the refusal
unfoldable pub coded_at : List ℕ → Result ℕ ℕ
coded_at ns = coded (arrangement_refusal (arrangement_at ns) otherwise cell_refusal (cell_at ns)) (code_of (arrangement_at ns) (cell_at ns))

-- two numbers: refusal, code
abbrev pub two_in : Result ℕ ℕ → List ℕ
two_in c = refusal_in c ∷ code_in c ∷ []

-- of the first k cells
unfoldable pub first_codes : (k : ℕ) → List ℕ → List ℕ
first_codes zero ns = []
first_codes (suc k) ns = two_in (coded_at ns) ++ first_codes k (drop 6 ns)

-- six numbers are a cell; up to five behind the last are none
abbrev pub cells_in : List ℕ → ℕ
cells_in ns = length ns / 6

unfoldable pub codes_of : List ℕ → List ℕ
codes_of ns = first_codes (cells_in ns) ns

unfoldable pub codes_refusal : (ns : List ℕ) (room : ℕ) → ℕ
codes_refusal ns room = refuse (ltb room (2 * cells_in ns)) 8

abbrev pub codes_memory : (ns lent : List ℕ) → List ℕ
codes_memory ns lent = given (codes_refusal ns (length lent)) (in_front (codes_of ns) lent) lent

-- ---- the answer: how many cells were answered, or the number of the refusal

unfoldable pub batched : (r n : ℕ) → Result ℕ ℕ
batched zero n = Ok n
batched (suc r) n = Err (suc r)
