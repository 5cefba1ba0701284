-- The list of the cells that meet a cell at a corner (02, W-204): "list these cells in rising code order, under any arrangement". What is here is the
-- computing form. Laws/List shows that it has the codes of the cells that `MeetsAtCorner` says, no others, rising. Assumes nothing.
use Rattle.std.specs.Prelude.{Bool, ◌&&◌, cond, List, [], ℕ, zero, suc, ◌+◌, ◌%◌, ltb, length, Err, Ok, Result}
pub use Rattle.logic.specs.Lent.{in_front}
use Rattle.logic.specs.Refusal.{refuse, ◌otherwise◌, given}
use Rattle.cell.specs.declared.Cell.{Cell}
use Rattle.cell.specs.declared.Arrangement.{Arrangement}
use Rattle.cell.specs.Neighbour.{leaves, neighbour_of}
use Rattle.code.specs.Code.{code_of, cell_of, arrangement_of, code_refusal}
use Rattle.track.specs.Track.{inserted}

-- the next direction: up, right, down, left, up
abbrev pub clockwise : ℕ → ℕ
clockwise d = (d + 1) % 4

-- the corner between a direction and the next one is a corner of the face, where three cells meet
unfoldable pub face_corner : Cell → ℕ → Bool
face_corner c d = leaves c d && leaves c (clockwise d)

-- the cell across the corner, where four meet: a step inside the face, and one at a right angle to it
unfoldable pub across_corner : Arrangement → Cell → ℕ → Cell
across_corner a c d =
    cond (leaves c d)
    (neighbour_of a (neighbour_of a c (clockwise d)) d)
    (neighbour_of a (neighbour_of a c d) (clockwise d))

-- its code is taken into the codes held
unfoldable pub with_corner : Arrangement → Cell → ℕ → List ℕ → List ℕ
with_corner a c d held = cond (face_corner c d) held (inserted (code_of a (across_corner a c d)) held)

-- the codes at the first corners, and at all four
unfoldable pub first_corners : Arrangement → Cell → ℕ → List ℕ
first_corners a c zero = []
first_corners a c (suc d) = with_corner a c d (first_corners a c d)

unfoldable pub corner_codes : Arrangement → Cell → List ℕ
corner_codes a c = first_corners a c 4

-- of a code: its cell's, in its arrangement
abbrev pub codes_at : ℕ → List ℕ
codes_at code = corner_codes (arrangement_of code) (cell_of code)

-- 4: "a code is no cell's". 8: "lent buffer shorter than the answer"
unfoldable pub corners_refusal : (code room : ℕ) → ℕ
corners_refusal code room = code_refusal code otherwise refuse (ltb room (length (codes_at code))) 8

-- the lent codes afterwards: the list in front, and with a refusal what stood there
abbrev pub corner_memory : (code : ℕ) (lent : List ℕ) → List ℕ
corner_memory code lent = given (corners_refusal code (length lent)) (in_front (codes_at code) lent) lent

-- ---- the answer: how many codes were listed, or the number of the refusal
unfoldable pub cornered : (r n : ℕ) → Result ℕ ℕ
cornered zero n = Ok n
cornered (suc r) n = Err (suc r)
