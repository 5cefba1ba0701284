-- The walk over a looser text gives the codes of its whole cells in the order they stand. Assumes nothing.
use Rattle.std.specs.Prelude.{◌≡◌, refl, ℕ, ◌≤◌, length, drop}
use Rattle.std.proofs.Math.Path.{ap}
use Rattle.std.proofs.Common.{◌∙◌, arith}
use mathlib.Core.List.{List, map}
use Rattle.cell.specs.declared.Arrangement.{Arrangement}
use Rattle.reading.specs.declared.Level.TheVariants.{Faces}
use Rattle.reading.specs.Reading.{Nodes}
use Rattle.reading.specs.Ground.{whole_cells}
use Rattle.walk.specs.Walk.{origin, walk, goes, Walks}
use Rattle.walk.specs.Laws.Walk.{walk-body, goes-body, spots-cells}
use Rattle.listing.proofs.Laws.List.{spot_code, spot-codes}
use Rattle.loose.specs.LooseText.{LooseBody}
use Rattle.loose.specs.LooseScan.{loose_nodes}
use Rattle.loose.proofs.Laws.Names.{names-loose, loose-cells}
use Rattle.proper.specs.Wholes.{loose_codes}

module _ (t : List ℕ) (b : LooseBody (drop 7 t) (loose_nodes (drop 7 t))) where
  abbrev nodes : Nodes
  nodes = loose_nodes (drop 7 t)

  pub loose-codes : (a : Arrangement) → map (spot_code a) (walk origin (drop 7 t)) ≡ loose_codes a t
  unfolding loose_codes
  loose-codes a =
      ap (λ (x : List ℕ). map (spot_code a) (walk origin x)) b.all
      ∙ ap (map (spot_code a)) (walk-body nodes b.loose ∙ spots-cells nodes (names-loose nodes Faces 15 b.loose))
      ∙ spot-codes a (whole_cells nodes) (loose-cells nodes b.loose)

  pub loose-start : 7 ≤ length t → Walks t 7 origin
  loose-start h =
      record {
        within = h;
        fits = record { fine = omega arith; small = omega arith; beside = refl };
        goes = ap (goes origin) b.all ∙ goes-body nodes b.loose;
      }
