-- What measuring a good list says of its text. Assumes nothing.
use Rattle.std.specs.Prelude.{◌≡◌, not, List, map, ℕ, ◌^◌, ◌≤◌, length}
use Rattle.cell.specs.declared.Arrangement.{Arrangement}
use Rattle.code.specs.Code.{cell_of}
use Rattle.reading.specs.declared.Profile.{Profile}
use Rattle.reading.specs.Text.{IsProfile}
use Rattle.reading.specs.Written.{keeps}
use Rattle.writing.specs.declared.Extent.{Extent}
use Rattle.writing.specs.Write.{text_of}
use Rattle.writing.specs.Internal.Depth.{breaks}

-- the length, whatever n and s are, and the depth
pub record LengthIs (p : Profile) (codes : List ℕ) (r : Extent) : Type 0 where
  pub is : (a : Arrangement) → r.length ≡ length (text_of p a codes)
  pub small : r.length ≤ 2 ^ 62
  pub kept : IsProfile p → not (keeps p (map cell_of codes)) ≡ breaks p r.depth
