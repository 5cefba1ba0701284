-- The setting of a revision: that of a valid history can be used, and a line flown with it has the code of its fix. Assumes nothing.
use Rattle.std.specs.Prelude.{◌≡◌, refl, ◌∷◌, ◌++◌, ℕ, ℤ}
use Rattle.std.proofs.Common.{◌∙◌}
use Rattle.cell.specs.declared.Arrangement.{Arrangement}
use Rattle.authalic.specs.Authalic.{eccentricity_refusal}
use Rattle.code.specs.Code.{code_of, coded}
use Rattle.geodetic.specs.GeodeticFix.{geodetic_refusal, geodetic_cell}
use Rattle.decimal.specs.Decimal.{printed_number}
use Rattle.decimal.proofs.Laws.Decimal.{FitsSigned}
use Rattle.flight.specs.Setting.{setting_refusal}
use Rattle.flight.specs.Flight.{line_code}
use Rattle.flight.proofs.Laws.Code.{line-geodetic}
use Rattle.history.specs.declared.Settings.{Settings}
use Rattle.history.specs.declared.History.{History}
use Rattle.history.specs.Settings.{settings_refusal, read_refusal}
use Rattle.history.specs.History.{placed}
use Rattle.history.specs.Valid.{Valid}
use Rattle.history.proofs.Laws.Valid.{valid-read}
use Rattle.console.specs.History.{setting_from}

-- the recorder and the office judge the same settings alike
pub same-refusal : (x : Settings) → setting_refusal (setting_from x) ≡ settings_refusal x
unfolding setting_refusal settings_refusal eccentricity_refusal
same-refusal x = refl

-- so a kept revision is never refused
pub kept-usable : (h : History) (r : ℕ) → Valid h → read_refusal h.newest r ≡ 0 → setting_refusal (setting_from (placed h r)) ≡ 0
kept-usable h r v e = same-refusal (placed h r) ∙ valid-read h r v e

-- N lies above face n and S below face s
abbrev arranged : Settings → Arrangement
arranged x = record { north = x.n; south = x.s }

-- a line flown with a revision has the code of the fix with its n, s, resolution and eccentricity, or the refusal of it
pub revision-line : (x : Settings) (longitude sine : ℤ) → FitsSigned longitude → FitsSigned sine →
    line_code (setting_from x) (printed_number longitude ++ (32 ∷ printed_number sine)) ≡
    coded (geodetic_refusal (arranged x) x.resolution longitude sine x.eccentricity)
    (code_of (arranged x) (geodetic_cell (arranged x) x.resolution longitude sine x.eccentricity))
revision-line x longitude sine h k = line-geodetic (arranged x) x.resolution longitude sine x.eccentricity h k
