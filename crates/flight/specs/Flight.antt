-- A flight: "a line for each fix". Assumes nothing.
use Rattle.std.specs.Prelude.{List, ℕ, ℤ, Err, None, Option, Result, Some}
use Rattle.logic.specs.Refusal.{◌otherwise◌}
use Rattle.cell.specs.declared.Arrangement.{Arrangement}
use Rattle.cell.specs.declared.Cell.{Cell}
use Rattle.code.specs.Code.{code_of, coded}
use Rattle.locate.specs.Fix.{fix_refusal, fix_cell}
use Rattle.geodetic.specs.GeodeticFix.{geodetic_refusal, geodetic_cell}
use Rattle.decimal.specs.Decimal.{fix_in}
use Rattle.flight.specs.declared.Latitude.{Latitude}
use Rattle.flight.specs.declared.Latitude.TheVariants.{Authalic, Geodetic}
use Rattle.flight.specs.declared.Setting.{Setting}
use Rattle.flight.specs.Setting.{setting_refusal}

-- the second number of a line is z; or, with an eccentricity, "the sine of the geodetic latitude" (02, W-203)
abbrev refusal_by : Latitude → Arrangement → (k : ℕ) (longitude second : ℤ) → ℕ
refusal_by Authalic a k longitude z = fix_refusal a k longitude z
refusal_by (Geodetic E) a k longitude sine = geodetic_refusal a k longitude sine E

abbrev cell_by : Latitude → Arrangement → (k : ℕ) (longitude second : ℤ) → Cell
cell_by Authalic a k longitude z = fix_cell a k longitude z
cell_by (Geodetic E) a k longitude sine = geodetic_cell a k longitude sine E

unfoldable pub line_refusal : Setting → (longitude second : ℤ) → ℕ
line_refusal s longitude second = refusal_by s.latitude s.arrangement s.resolution longitude second

unfoldable pub line_cell : Setting → (longitude second : ℤ) → Cell
line_cell s longitude second = cell_by s.latitude s.arrangement s.resolution longitude second

-- the code of the cell of a fix, in the setting's arrangement, or the refusal
unfoldable pub fix_coded : Setting → (longitude second : ℤ) → Result ℕ ℕ
fix_coded s longitude second = coded (line_refusal s longitude second) (code_of s.arrangement (line_cell s longitude second))

-- a line that is no fix is refused as one out of range, and like that one after 5 and 2
unfoldable pub no_fix : Setting → Result ℕ ℕ
no_fix s = Err (setting_refusal s otherwise 6)

unfoldable pub of_line : Setting → Option (ℤ × ℤ) → Result ℕ ℕ
of_line s (Some (longitude, second)) = fix_coded s longitude second
of_line s None = no_fix s

unfoldable pub line_code : Setting → List ℕ → Result ℕ ℕ
unfolding of_line fix_in
line_code s line = of_line s (fix_in line)
