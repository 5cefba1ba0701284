-- The codes that listing gives are those of the reading's whole cells in the heading's arrangement, strictly rising, none inside another. Assumes nothing.
use Rattle.std.specs.Prelude.{◌≡◌, refl, true, List, [], ◌∷◌, map, ℕ, length, drop}
use Rattle.std.proofs.Math.Path.{ap}
use Rattle.std.proofs.Common.{ap₂, ◌∙◌, arith}
use Rattle.std.proofs.lemmas.List.{length-map}
use Rattle.logic.specs.Rise.{Rise}
use Rattle.cell.specs.declared.Cell.{Cell}
use Rattle.cell.specs.declared.Arrangement.{Arrangement}
use Rattle.cell.specs.Cell.{IsArrangement}
use Rattle.code.specs.Code.{code_of, cell_of, arrangement_of}
use Rattle.code.proofs.Laws.Code.{cell-code, arrangement-code}
use Rattle.code.specs.Number.{code_as}
use Rattle.code.proofs.Laws.Number.{code-as}
use Rattle.reading.specs.Ground.{whole_cells, Cells, All, Rising, Apart}
use Rattle.reading.specs.TextReading.{nodes_of, text_arrangement, is_text, body_start}
use Rattle.reading.proofs.Laws.TextReading.{reads-body, text-arranged}
use Rattle.reading.proofs.Laws.Demand.{whole_cells_lem}
use Rattle.reading.proofs.Laws.Rising.{codes-rise}
use Rattle.walk.specs.declared.Spot.{Spot}
use Rattle.walk.specs.Walk.{origin, spot_of, walk}
use Rattle.walk.specs.Laws.Walk.{walk-text}
use Rattle.listing.specs.List.{codes_of}

-- the code of the cell where the walk stands
abbrev pub spot_code : Arrangement → Spot → ℕ
spot_code a s = code_as a s.resolution s.number

module _ (a : Arrangement) where
  pub spot-codes : (cs : List Cell) → Cells cs → map (spot_code a) (map spot_of cs) ≡ map (code_of a) cs
  spot-codes [] h = refl
  spot-codes (c ∷ cs) h = ap₂ ◌∷◌ (code-as a c h.0) (spot-codes cs h.1)

  module _ (g : IsArrangement a) where
    -- a code's cell is the cell, and its arrangement the one it was made in
    pub cells-back : (cs : List Cell) → Cells cs → map cell_of (map (code_of a) cs) ≡ cs
    cells-back [] h = refl
    cells-back (c ∷ cs) h = ap₂ ◌∷◌ (cell-code g c h.0) (cells-back cs h.1)

    pub all_of : (cs : List Cell) → Cells cs → All (λ (code : ℕ). arrangement_of code ≡ a) (map (code_of a) cs)
    all_of [] h = tt
    all_of (c ∷ cs) h = (arrangement-code g c h.0, all_of cs h.1)

module _ (t : List ℕ) (e : is_text t ≡ true) where
  cells : Cells (whole_cells (nodes_of t)) × Rising (whole_cells (nodes_of t)) × Apart (whole_cells (nodes_of t))
  cells = whole_cells_lem tt (omega arith) (reads-body t e)

  -- the codes along the walk
  pub walk-codes : map (spot_code (text_arrangement t)) (walk origin (drop (body_start t) t)) ≡ codes_of t
  unfolding codes_of
  walk-codes = ap (map (spot_code (text_arrangement t))) (walk-text t e) ∙ spot-codes (text_arrangement t) (whole_cells (nodes_of t)) cells.0

  -- "the codes of the whole cells": their cells are the whole cells
  pub listed-cells : map cell_of (codes_of t) ≡ whole_cells (nodes_of t)
  unfolding codes_of
  listed-cells = cells-back (text_arrangement t) (text-arranged t e) (whole_cells (nodes_of t)) cells.0

  -- and they are of the heading's arrangement
  pub listed-of-heading : All (λ (code : ℕ). arrangement_of code ≡ text_arrangement t) (codes_of t)
  unfolding codes_of
  listed-of-heading = all_of (text_arrangement t) (text-arranged t e) (whole_cells (nodes_of t)) cells.0

  -- "in rising order"
  pub listed-rise : Rise (codes_of t)
  unfolding codes_of
  listed-rise = codes-rise (text_arrangement t) (whole_cells (nodes_of t)) cells.1

  -- none inside another
  pub listed-apart : Apart (map cell_of (codes_of t))
  listed-apart = rw listed-cells cells.2

-- as many as there are whole cells
pub listed-count : (t : List ℕ) → length (codes_of t) ≡ length (whole_cells (nodes_of t))
unfolding codes_of
listed-count t = length-map (whole_cells (nodes_of t)) (code_of (text_arrangement t))
