-- The arguments of a program. Which they are no statement can say. Assumes nothing.
use Rattle.std.specs.Prelude.{◌≡◌, cond, List, ℕ, eqb, None, Option, Some}
use Rattle.flight.specs.declared.Latitude.{Latitude}
use Rattle.flight.specs.declared.Setting.{Setting}
use Rattle.logic.specs.Refusal.{given}
use Rattle.decimal.specs.Decimal.{whole_in}
use Rattle.flight.specs.declared.Latitude.TheVariants.{Authalic, Geodetic}
use Rattle.flight.specs.Setting.{setting_refusal}

-- some word, read as a number
abbrev pub OfWord : Option ℕ → Type 0
OfWord r = (word : List ℕ) × (r ≡ whole_in word)

-- what is handed on can be used
abbrev pub Usable : Option Setting → Type 0
Usable (Some s) = setting_refusal s ≡ 0
Usable None = Unit {0}

-- the setting that is given, if it is not refused
abbrev pub judged : Option Setting → Option Setting
judged (Some s) = given (setting_refusal s) (Some s) None
judged None = None

-- "the squared eccentricity E" (02, W-203), if the word is a number
abbrev pub eccentricity_given : (fourth : Option ℕ) → Option Latitude
eccentricity_given (Some E) = Some (Geodetic E)
eccentricity_given None = None

-- three arguments, and the lines are `longitude z`; or four, and the last is the eccentricity. The program's own name is counted too
abbrev pub latitude_given : (count : ℕ) (fourth : Option ℕ) → Option Latitude
latitude_given count fourth = cond (eqb count 4) (Some Authalic) (cond (eqb count 5) (eccentricity_given fourth) None)

-- all that is given goes into the setting, or there is none
abbrev pub setting_given : Option Latitude → (n s resolution : Option ℕ) → Option Setting
setting_given None n s k = None
setting_given (Some x) None s k = None
setting_given (Some x) (Some n) None k = None
setting_given (Some x) (Some n) (Some s) None = None
setting_given (Some x) (Some n) (Some s) (Some k) = Some (record { arrangement = record { north = n; south = s }; resolution = k; latitude = x })
