-- The cell of a fix in a cap is the one whose column and row are 01's floors. Assumes nothing.
use Rattle.std.specs.Prelude.{◌≡◌, refl, true, false, ℕ, ◌/◌, ◌%◌, ◌^◌, ◌<◌, ℤ, pos, neg_ℤ}
use Rattle.std.proofs.Common.{sym, arith}
use Rattle.std.proofs.Math.Path.{subst}
use Rattle.std.specs.Int.Signed.{lt_z}
use Rattle.cell.specs.declared.Cell.{Cell}
use Rattle.cell.specs.declared.Arrangement.{Arrangement}
use Rattle.cell.specs.Neighbour.{turn_of}
use Rattle.root.specs.Floor.{IsFloor}
use Rattle.root.specs.Laws.Floor.{floor-is}
use Rattle.ternary.proofs.Laws.Powers.{power_pos}
use Rattle.locate.specs.Fix.{CapPoint, quarter, is_belt, east_of, height_of, start_north, start_south, turned_north, turned_south, cap_cell, north_cell, south_cell, fix_cell}
use Rattle.locate.specs.Internal.RangeLaws.{height-small}
use Rattle.locate.proofs.Laws.Turn.{Spanned, opposite-le, north-within, south-within, start-north, start-south}
use Rattle.locate.proofs.Laws.Fix.{fix-north, fix-south}

-- "For the end (p, q): column floor(m (1/2 + p)), row floor(m (1/2 - q))"
pub record AtFloors (face k t : ℕ) (end : CapPoint) (c : Cell) : Type 0 where
  pub face-is : c.face ≡ face
  pub fine : c.resolution ≡ k
  pub column : IsFloor (3 ^ k) t end.0 c.column
  pub row : IsFloor (3 ^ k) t (neg_ℤ end.1) c.row

cap-floors : (face k t : ℕ) (x : CapPoint) → t < 10 ^ 18 → Spanned quarter x → AtFloors face k t x (cap_cell face k t x)
unfolding cap_cell
cap-floors face k t x l w =
    record {
      face-is = refl;
      fine = refl;
      column = floor-is (3 ^ k) t x.0 (power_pos k) w.first l;
      row = floor-is (3 ^ k) t (neg_ℤ x.1) (power_pos k) (opposite-le x.1 w.second) l;
    }

module _ (a : Arrangement) (k : ℕ) (L z : ℤ) (e : is_belt z ≡ false) where
  -- "Turn (c - n) mod 4 times", "face N"
  pub north-floors :
      lt_z z (pos 0) ≡ false →
      AtFloors 0 k (height_of z) (turned_north (turn_of (east_of L / quarter) a.north) (start_north (east_of L % quarter))) (fix_cell a k L z)
  unfolding north_cell
  north-floors f =
      let s : CapPoint = start_north (east_of L % quarter) in
      let x : CapPoint = turned_north (turn_of (east_of L / quarter) a.north) s in
      subst (AtFloors 0 k (height_of z) x) (sym (fix-north a k L z e f))
      (cap-floors 0 k (height_of z) x (height-small z e) (north-within (turn_of (east_of L / quarter) a.north) s (start-north (east_of L % quarter) (omega arith))))

  -- "turns (c - s) mod 4", "face S"
  pub south-floors :
      lt_z z (pos 0) ≡ true →
      AtFloors 5 k (height_of z) (turned_south (turn_of (east_of L / quarter) a.south) (start_south (east_of L % quarter))) (fix_cell a k L z)
  unfolding south_cell
  south-floors f =
      let s : CapPoint = start_south (east_of L % quarter) in
      let x : CapPoint = turned_south (turn_of (east_of L / quarter) a.south) s in
      subst (AtFloors 5 k (height_of z) x) (sym (fix-south a k L z e f))
      (cap-floors 5 k (height_of z) x (height-small z e) (south-within (turn_of (east_of L / quarter) a.south) s (start-south (east_of L % quarter) (omega arith))))
