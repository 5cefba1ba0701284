-- A line longer than 42 bytes may be cut: it is no fix either way. Assumes nothing.
use Rattle.std.specs.Prelude.{◌≡◌, List, ℕ, ◌≤◌, length, take}
use Rattle.std.proofs.Common.{sym, ◌∙◌, ⊎_elim, arith, take_all, length-take-le}
use Rattle.std.proofs.Math.Path.{ap}
use Rattle.logic.specs.Laws.Order.{lt-or}
use Rattle.decimal.proofs.Laws.Long.{fix-long}
use Rattle.flight.specs.declared.Setting.{Setting}
use Rattle.flight.specs.Flight.{no_fix, of_line, line_code}

module _ (s : Setting) where
  long-line : (line : List ℕ) → 43 ≤ length line → line_code s line ≡ no_fix s
  unfolding line_code of_line
  long-line line h = ap (of_line s) (fix-long line h)

  pub cut_line : (room : ℕ) (x : List ℕ) → 43 ≤ room → line_code s (take room x) ≡ line_code s x
  cut_line room x h =
      ⊎_elim
      (λ l.
      let a : length (take room x) ≡ room = length-take-le room x (omega arith) in
      long-line (take room x) (omega arith) ∙ sym (long-line x (omega arith)))
      (λ l. ap (line_code s) (take_all room x l)) (lt-or room (length x))
