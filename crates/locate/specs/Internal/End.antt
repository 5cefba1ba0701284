-- A turned point as the code has it: two numbers, each by its sign and its size. Assumes nothing.
use Rattle.std.specs.Prelude.{◌≡◌, Bool, cond, ℕ, ◌/◌, ◌%◌, ◌≤◌}
use Rattle.cell.specs.declared.Arrangement.{Arrangement}
use Rattle.cell.specs.Neighbour.{turn_of}
use Rattle.root.specs.Floor.{axis_of}
use Rattle.locate.specs.declared.End.{End}
use Rattle.locate.specs.Fix.{CapPoint, quarter, start_north, start_south, turned_north, turned_south}

-- the point of a cap, turned: that of `south_cell` or of `north_cell`
abbrev pub turned_end : Arrangement → (south : Bool) (east : ℕ) → CapPoint
turned_end a south east =
    cond south (turned_south (turn_of (east / quarter) a.south) (start_south (east % quarter)))
    (turned_north (turn_of (east / quarter) a.north) (start_north (east % quarter)))

-- the numbers are those of the point, and small enough for a floor
pub record Stands (x : CapPoint) (r : End) : Type 0 where
  pub first : axis_of r.p ≡ x.0
  pub second : axis_of r.q ≡ x.1
  pub first_small : r.p.size ≤ quarter
  pub second-small : r.q.size ≤ quarter
