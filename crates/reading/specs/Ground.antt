-- The whole cells of a reading and its ground, over the cells of the grid (01 "The coverage text"). Ground is 01's word for the finest cells that a
-- text covers. Assumes nothing.
use Rattle.std.specs.Prelude.{List, [], ◌∷◌, map, ℕ, ◌+◌, ◌/◌, ◌%◌, ◌<◌, length}
pub use Rattle.logic.specs.Lists.{All}
use Rattle.logic.specs.Lists.{Any, Pairwise}
use Rattle.ternary.specs.Digits.{value}
use Rattle.cell.specs.declared.Cell.{Cell}
use Rattle.cell.specs.Cell.{IsCell}
use Rattle.code.specs.Code.{cell_code, size_of}
use Rattle.code.specs.Inside.{Inside}
pub use Rattle.code.specs.Finest.{Finest}
use Rattle.reading.specs.Reading.{Nodes, names}

-- the cell with this name: a face's number, and digits, each 3 times that of the row plus that of the column
unfoldable pub cell_named : List ℕ → Cell
cell_named [] = record { face = 0; resolution = 0; row = 0; column = 0 }
cell_named (f ∷ ds) =
    record { face = f; resolution = length ds; row = value 3 (map (λ d. d / 3) ds); column = value 3 (map (λ d. d % 3) ds) }

-- "These are the text's whole cells."
unfoldable pub whole_cells : Nodes → List Cell
whole_cells ns = map cell_named (names ns)

-- "It covers every finest cell inside any of them."
abbrev pub Covers : List Cell → Cell → Type 0
Covers qs x = Any (λ (q : Cell). Inside q x) qs

-- the cells cover a ground, a choice of finest cells, and nothing else
abbrev pub Fills : (Cell → Type 0) → List Cell → Type 0
Fills P qs = (x : Cell) → Finest x → (Covers qs x → P x) × (P x → Covers qs x)

-- two lists of cells have the same ground
abbrev pub SameGround : List Cell → List Cell → Type 0
SameGround qs ps = Fills (Covers ps) qs

-- "any cells of the text's arrangement, at any resolutions, in any order, repeated or one inside another, or none at all"
abbrev pub Cells : List Cell → Type 0
Cells qs = All IsCell qs

-- "the codes of the whole cells in rising order"
abbrev pub Rising : List Cell → Type 0
Rising qs = Pairwise (λ (q p : Cell). cell_code q < cell_code p) qs

-- "none inside another"
abbrev pub Apart : List Cell → Type 0
Apart qs = Pairwise (λ (q p : Cell). (Inside q p → ⊥) × (Inside p q → ⊥)) qs

-- the sum of sizes
unfoldable pub size_sum : List Cell → ℕ
size_sum [] = 0
size_sum (q ∷ qs) = size_of q + size_sum qs
