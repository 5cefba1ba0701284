-- The cell of a fix with a geodetic latitude (02 W-203): "For such a fix z is our answer, and demand 2's "no rounding" starts there". Assumes nothing.
use Rattle.std.specs.Prelude.{Bool, ◌&&◌, not, cond, ℕ, ◌≤◌, ltb, leb, ℤ, pos}
use Rattle.logic.specs.Refusal.{refuse, ◌otherwise◌}
use Rattle.cell.specs.declared.Cell.{Cell}
use Rattle.cell.specs.declared.Arrangement.{Arrangement}
use Rattle.cell.specs.Cell.{arrangement_refusal}
use Rattle.locate.specs.Fix.{InRange, in_range, fix_cell}
use Rattle.authalic.specs.Authalic.{is_geodetic}
use Rattle.authalic.specs.Computed.{authalic_sine}

-- a longitude and a sine, which has the range of z, and "E .., from 0 to 10,000,000,000"
pub record GeodeticRange (L S : ℤ) (E : ℕ) : Type 0 where
  pub fix : InRange L S
  pub eccentricity : E ≤ 10000000000

-- the same as a test (Laws/GeodeticFix, `six-exactly`)
unfoldable pub in_geodetic_range : (L S : ℤ) (E : ℕ) → Bool
in_geodetic_range L S E = in_range L S && leb E 10000000000

-- 5: the arrangement. 2: resolution above 15. 6: L, "also .. S or E out of range"
unfoldable pub geodetic_refusal : Arrangement → (k : ℕ) (L S : ℤ) (E : ℕ) → ℕ
unfolding in_geodetic_range
geodetic_refusal a k L S E = arrangement_refusal a otherwise refuse (ltb 15 k) 2 otherwise refuse (not (in_geodetic_range L S E)) 6

-- z, or a number that is no sine where S or E is out of range (Laws/GeodeticFix, `by-z`: the fix with it has the refusal and the cell of such a fix)
unfoldable pub z_for : (S : ℤ) (E : ℕ) → ℤ
z_for S E = cond (is_geodetic S E) (authalic_sine S E) (pos 2000000000000000000)

unfoldable pub geodetic_cell : Arrangement → (k : ℕ) (L S : ℤ) (E : ℕ) → Cell
geodetic_cell a k L S E = fix_cell a k L (authalic_sine S E)
