-- What `settings` makes of a history (02 W-209). Assumes nothing.
use Rattle.std.specs.Prelude.{cond, List, [], ℕ, eqb}
use Rattle.logic.specs.Refusal.{given}
use Rattle.history.specs.declared.History.{History}
use Rattle.history.specs.declared.HistoryAnswer.{HistoryAnswer}
use Rattle.history.specs.Settings.{read_refusal}
use Rattle.history.specs.History.{placed, fresh, changed, backed}
use Rattle.report.specs.History.{settings_line}
use Rattle.console.specs.declared.Loaded.{Loaded}
use Rattle.settings.specs.declared.Change.{Change}
use Rattle.settings.specs.declared.Change.TheVariants.{Fresh, To, Back}

-- a fresh history has none before it
abbrev pub answered : History → Change → HistoryAnswer
answered h (Fresh x) = fresh x
answered h (To from x) = changed h from x
answered h (Back from wanted) = backed h from wanted

-- the history to go on with, if there was one before the change and the change is not refused
unfoldable pub changed_from : Loaded → Change → Loaded
changed_from l c = cond l.done (record { done = eqb (answered l.history c).refusal 0; history = (answered l.history c).history }) l

-- `n s resolution eccentricity`, or nothing where the revision is not kept
unfoldable pub read_line : History → (revision : ℕ) → List ℕ
read_line h r = given (read_refusal h.newest r) (settings_line (placed h r)) []
