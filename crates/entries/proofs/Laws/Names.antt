-- The two readings of a name agree: the cell that a coverage text's letter and digits name is the cell that the same bytes name as a name (01 "The
-- coverage text": "the cell whose name is the face letter, then the digits .."). Assumes nothing.
use Rattle.std.specs.Prelude.{◌≡◌, refl, List, [], ◌∷◌, ℕ, ◌+◌}
use Rattle.std.proofs.Common.{sym, ap, ◌∙◌}
use Rattle.cell.specs.declared.Cell.{Cell}
use Rattle.cell.specs.declared.Arrangement.{Arrangement}
use Rattle.cell.specs.Cell.{IsArrangement}
use Rattle.code.specs.Code.{cell_of}
use Rattle.code.proofs.Laws.Code.{cell-code}
use Rattle.name.specs.Name.{digit_bytes, name_of, name_code}
use Rattle.name.specs.Laws.Name.{name-code}
use Rattle.reading.specs.Ground.{cell_named}
use Rattle.reading.specs.Prefix.{Name, IsName, numbers_of}
use Rattle.reading.proofs.Laws.Named.{named-cell, name-named}

-- the bytes of a name: a face's letter, and digits
abbrev pub bytes_of : Name → List ℕ
bytes_of [] = []
bytes_of (f ∷ ds) = (78 + f) ∷ digit_bytes ds

bytes-of-cell : (c : Cell) → name_of c ≡ bytes_of (numbers_of c)
unfolding name_of numbers_of
bytes-of-cell c = refl

module _ (q : Name) (n : IsName 6 15 q) where
  -- these bytes are the cell's name
  pub named-bytes : name_of (cell_named q) ≡ bytes_of q
  named-bytes = bytes-of-cell (cell_named q) ∙ ap bytes_of (name-named q n)

  -- and what they name, read as a name in any arrangement, is the cell
  pub bytes-named : {a : Arrangement} → IsArrangement a → cell_of (name_code a (bytes_of q)) ≡ cell_named q
  bytes-named {a} g =
      ap (λ (bs : List ℕ). cell_of (name_code a bs)) (sym named-bytes) ∙ ap cell_of (name-code a (cell_named q)) ∙ cell-code g (cell_named q) (named-cell q n)
