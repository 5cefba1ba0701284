-- What the words of `settings` ask for. Which words there are no statement can say. Assumes nothing.
use Rattle.std.specs.Prelude.{None, Option, Some, ℕ}
use Rattle.history.specs.declared.Settings.{Settings}
use Rattle.settings.specs.declared.Change.TheVariants.{Fresh, To, Back}
use Rattle.settings.specs.declared.Asked.{Asked}
use Rattle.settings.specs.declared.Asked.TheVariants as asked-as

-- all four are numbers, or there are no settings
abbrev pub settings_given : (n s resolution eccentricity : Option ℕ) → Option Settings
settings_given None s k e = None
settings_given (Some n) None k e = None
settings_given (Some n) (Some s) None e = None
settings_given (Some n) (Some s) (Some k) None = None
settings_given (Some n) (Some s) (Some k) (Some e) = Some (record { n = n; s = s; resolution = k; eccentricity = e })

abbrev pub asked_fresh : Option Settings → Asked
asked_fresh (Some x) = asked-as.Changed (Fresh x)
asked_fresh None = asked-as.Wrong

-- "A change, going back included, names the revision it was made from"
abbrev pub asked_change : (from : Option ℕ) → Option Settings → Asked
asked_change None given = asked-as.Wrong
asked_change (Some from) (Some x) = asked-as.Changed (To from x)
asked_change (Some from) None = asked-as.Wrong

abbrev pub asked_back : (from wanted : Option ℕ) → Asked
asked_back None wanted = asked-as.Wrong
asked_back (Some from) None = asked-as.Wrong
asked_back (Some from) (Some wanted) = asked-as.Changed (Back from wanted)

abbrev pub asked_read : Option ℕ → Asked
asked_read (Some r) = asked-as.Read r
asked_read None = asked-as.Wrong
