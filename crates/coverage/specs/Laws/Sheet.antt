-- `coverage sheet FILE SHEET` says yes, no and a refusal in the words of `coverage ask`. Assumes nothing.
use Rattle.std.specs.Prelude.{◌≡◌, refl, true, false, ◌∷◌, ◌++◌, ℕ, take, Err, Ok}
use Rattle.report.specs.Lines.{number_line, asked_line}
use Rattle.sheet.specs.declared.Judged.TheVariants as judged-as
use Rattle.sheet_parts.specs.Printed.{judged_line}

pub right-words : (n : ℕ) → judged_line judged-as.Right ≡ asked_line (Ok (record { covered = true; settled = n }))
unfolding judged_line asked_line
right-words n = refl

-- behind `no` a space and the record's number
pub wrong-words : (k n : ℕ) → judged_line (judged-as.Wrong k) ≡ take 2 (asked_line (Ok (record { covered = false; settled = n }))) ++ (32 ∷ number_line k)
unfolding judged_line asked_line
wrong-words k n = refl

pub refused-words : (r p : ℕ) → judged_line (judged-as.Refused r p) ≡ asked_line (Err (record { refusal = r; place = p }))
unfolding judged_line asked_line
refused-words r p = refl
