-- `asking::letter_from` meets its contract. Assumes nothing.
use mathlib.Core.Path.{◌≡◌}
use lib.ListN.{drop}
use Rattle.reading.specs.Letters.{letter_count}
use Rattle.asking.proofs.letter_from.Given as goal

abbrev pub invariant-loop-i : goal.invariant-loop-i
invariant-loop-i l = letter_count (drop l.i l.text) ≡ letter_count (drop l.at l.text)
