-- What a file becomes by the commands of `settings` (02 W-209). Assumes nothing.
use Rattle.std.specs.Prelude.{cond, List, [], ◌∷◌, ℕ}
use Rattle.history.specs.Log.{Call, change, back}
use Rattle.encoding.specs.Encoding.{encoding_of}
use Rattle.console.specs.History.{loaded_from}
use Rattle.settings.specs.declared.Change.{Change}
use Rattle.settings.specs.declared.Change.TheVariants.{To, Back}
use Rattle.settings.specs.Answered.{changed_from}

-- `change` and `back` as commands
abbrev pub command_of : Call → Change
command_of (change from x) = To from x
command_of (back from to) = Back from to

-- the encoding of the history after the change; a file that holds none, or whose change is refused, stays as it is
unfoldable pub file_after : List ℕ → Change → List ℕ
file_after t c = cond (changed_from (loaded_from t) c).done (encoding_of (changed_from (loaded_from t) c).history) t

unfoldable pub files_after : List ℕ → List Call → List ℕ
files_after t [] = t
files_after t (c ∷ run) = files_after (file_after t (command_of c)) run
