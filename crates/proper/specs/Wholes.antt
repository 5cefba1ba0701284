-- The codes of a looser text's whole cells in an arrangement, in the order they stand. Assumes nothing.
use Rattle.std.specs.Prelude.{List, map, ℕ, drop}
use Rattle.cell.specs.declared.Arrangement.{Arrangement}
use Rattle.code.specs.Code.{code_of}
use Rattle.reading.specs.Ground.{whole_cells}
use Rattle.loose.specs.LooseScan.{loose_nodes}

unfoldable pub loose_codes : Arrangement → List ℕ → List ℕ
loose_codes a t = map (code_of a) (whole_cells (loose_nodes (drop 7 t)))
