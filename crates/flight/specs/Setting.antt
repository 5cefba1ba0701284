-- What a flight is recorded in: n, s, the resolution, and what the second number of a line is. Assumes nothing.
use Rattle.std.specs.Prelude.{ℕ, ◌≤◌, ltb}
use Rattle.logic.specs.Refusal.{refuse, ◌otherwise◌}
use Rattle.cell.specs.Cell.{IsArrangement, arrangement_refusal}
use Rattle.authalic.specs.Authalic.{eccentricity_refusal}
use Rattle.flight.specs.declared.Latitude.{Latitude}
use Rattle.flight.specs.declared.Latitude.TheVariants.{Authalic, Geodetic}
use Rattle.flight.specs.declared.Setting.{Setting}

-- "the squared eccentricity E .., from 0 to 10,000,000,000" (02, W-203)
abbrev pub UsableLatitude : Latitude → Type 0
UsableLatitude Authalic = Unit {0}
UsableLatitude (Geodetic E) = E ≤ 10000000000

-- what a flight can be recorded in
pub record UsableSetting (s : Setting) : Type 0 where
  pub arrangement : IsArrangement s.arrangement
  pub fine : s.resolution ≤ 15
  pub latitude : UsableLatitude s.latitude

-- the same as refusals (Laws/Setting, `usable-exactly`). 6: E out of range
abbrev pub latitude_refusal : Latitude → ℕ
latitude_refusal Authalic = 0
latitude_refusal (Geodetic E) = eccentricity_refusal E

-- 5: n or s above 3. 2: resolution above 15
unfoldable pub setting_refusal : Setting → ℕ
setting_refusal s = arrangement_refusal s.arrangement otherwise refuse (ltb 15 s.resolution) 2 otherwise latitude_refusal s.latitude
