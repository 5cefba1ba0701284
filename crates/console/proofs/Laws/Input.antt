-- What an answer of `console::next_line` gives, case by case. Assumes nothing.
use Rattle.std.specs.Prelude.{◌≡◌, List, ℕ, ◌≤◌, length, Option, Some}
use Rattle.std.proofs.Common.{subst}
use Rattle.console.specs.declared.LineRead.{LineRead}
use Rattle.console.specs.declared.LineRead.TheVariants.{Line, Last}
use Rattle.console.specs.Input.{Fits, Given}

-- so many bytes were read
pub count_fits : (bytes : List ℕ) (n : ℕ) {r : Option ℕ} → Fits bytes r → r ≡ Some n → n ≤ length bytes
count_fits bytes n h e = subst (Fits bytes) e h

module _ (left bytes room : List ℕ) {r : LineRead} (h : Given left bytes room r) where
  pub line-given : (n from end : ℕ) → r ≡ Line n from end → Given left bytes room (Line n from end)
  line-given n from end e = subst (Given left bytes room) e h

  pub line-length : (n from end : ℕ) → r ≡ Line n from end → n ≤ length room
  line-length n from end e = (line-given n from end e).5

  pub line-places : (n from end : ℕ) → r ≡ Line n from end → (from ≤ end) × (end ≤ length bytes)
  line-places n from end e = let g = line-given n from end e in (g.6, g.7)

  pub last-given : (n : ℕ) → r ≡ Last n → Given left bytes room (Last n)
  last-given n e = subst (Given left bytes room) e h

  pub last-length : (n : ℕ) → r ≡ Last n → n ≤ length room
  last-length n e = (last-given n e).4
