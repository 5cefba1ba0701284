-- `flight::coded_fix` meets its contract: each way is one case of the setting's latitude. Assumes nothing.
use Rattle.std.specs.Prelude.{Result, ℕ}
use mathlib.Core.Path.{sym, ap, ap₂, ◌∙◌}
use lib.IntN.{ℤ}
use Rattle.cell.specs.Cell.{found}
use Rattle.code.specs.Code.{found_code}
use Rattle.signed.specs.Laws.Sign.{back}
use Rattle.flight.specs.declared.Latitude.{Latitude}
use Rattle.flight.specs.declared.Latitude.TheVariants.{Authalic, Geodetic}
use Rattle.flight.specs.declared.Setting.{Setting}
use Rattle.flight.specs.Flight.{line_refusal, line_cell}
use Rattle.flight.proofs.coded_fix.Goals as goal

-- the answer, where the setting's latitude is x
abbrev by : Latitude → Setting → (longitude second : ℤ) → Result ℕ ℕ
by x s longitude second =
    let t : Setting = record { arrangement = s.arrangement; resolution = s.resolution; latitude = x } in
    found_code s.arrangement (found (line_refusal t longitude second) (line_cell t longitude second))

pub returns-in-Authalic : goal.returns-in-Authalic
unfolding line_refusal line_cell
returns-in-Authalic c =
    let s = c in
    c.coded_fix.ensures
    ∙ ap₂ (by Authalic s.args.setting) (back s.ranges.longitude) (back s.ranges.second)
    ∙ ap (λ (x : Latitude). by x s.args.setting s.args.longitude s.args.second) (sym c.in-Authalic.is)

pub returns-in-Geodetic : goal.returns-in-Geodetic
unfolding line_refusal line_cell
returns-in-Geodetic c =
    let s = c in
    c.coded_fix-in-Geodetic.ensures
    ∙ ap₂ (by (Geodetic c.in-Geodetic.eccentricity) s.args.setting) (back s.ranges.longitude) (back s.ranges.second)
    ∙ ap (λ (x : Latitude). by x s.args.setting s.args.longitude s.args.second) (sym c.in-Geodetic.is)
