-- The lines that `settings` prints (02 W-209). Assumes nothing.
use Rattle.std.specs.Prelude.{cond, List, [], ◌∷◌, ◌++◌, ℕ, zero, suc, ◌+◌, ◌-◌, ltb}
use Rattle.decimal.specs.Decimal.{printed}
use Rattle.history.specs.declared.Settings.{Settings}
use Rattle.history.specs.declared.History.{History}
use Rattle.history.specs.History.{placed}
use Rattle.report.specs.Lines.{four_numbers}

-- `n s resolution eccentricity`
abbrev pub settings_line : Settings → List ℕ
settings_line x = four_numbers x.n x.s x.resolution x.eccentricity 10

-- `revision n s resolution eccentricity`
abbrev pub revision_line : History → ℕ → List ℕ
revision_line h r = (printed r ++ (32 ∷ [])) ++ settings_line (placed h r)

-- the last k revisions, the newest last
unfoldable pub last_lines : (k : ℕ) → History → List ℕ
last_lines zero h = []
last_lines (suc k) h = revision_line h (h.newest - k) ++ last_lines k h

-- how many are kept: Laws/History, `Listed-kept`
abbrev pub kept_number : (newest : ℕ) → ℕ
kept_number newest = cond (ltb newest 31) (newest + 1) 32

unfoldable pub history_lines : History → List ℕ
history_lines h = last_lines (kept_number h.newest) h
