-- A history in a file, and the setting of one of its revisions (02 W-209). Which bytes a file has no statement can say. Assumes nothing.
use Rattle.std.specs.Prelude.{◌≡◌, cond, List, ℕ, eqb, None, Option, Some}
use Rattle.logic.specs.Refusal.{given}
use Rattle.flight.specs.declared.Setting.{Setting}
use Rattle.flight.specs.declared.Latitude.TheVariants.{Geodetic}
use Rattle.history.specs.declared.Settings.{Settings}
use Rattle.history.specs.declared.History.{History}
use Rattle.history.specs.Settings.{read_refusal}
use Rattle.history.specs.History.{placed}
use Rattle.encoding.specs.Decoding.{decoded_of}
use Rattle.console.specs.declared.Loaded.{Loaded}

-- what the bytes encode, or nothing
unfoldable pub loaded_from : List ℕ → Loaded
loaded_from t = record { done = eqb (decoded_of t).refusal 0; history = (decoded_of t).history }

-- some bytes, decoded
abbrev pub OfBytes : Loaded → Type 0
OfBytes r = (t : List ℕ) × (r ≡ loaded_from t)

-- two arguments, and the newest revision; or three, and the one that the last says. The program's own name is counted too
abbrev pub revision_wanted : (count : ℕ) (word : Option ℕ) (newest : ℕ) → Option ℕ
revision_wanted count word newest = cond (eqb count 3) (Some newest) (cond (eqb count 4) word None)

-- the settings of the office hold an eccentricity, so a line has the sine of a geodetic latitude
abbrev pub setting_from : Settings → Setting
setting_from x = record { arrangement = record { north = x.n; south = x.s }; resolution = x.resolution; latitude = Geodetic x.eccentricity }

unfoldable pub setting_at : History → (revision : ℕ) → Option Setting
setting_at h r = given (read_refusal h.newest r) (Some (setting_from (placed h r))) None

abbrev pub setting_wanted : History → (wanted : Option ℕ) → Option Setting
setting_wanted h (Some r) = setting_at h r
setting_wanted h None = None
