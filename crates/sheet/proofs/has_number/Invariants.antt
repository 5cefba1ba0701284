-- `sheet::has_number` meets its contract. Assumes nothing.
use mathlib.Core.Path.{◌≡◌}
use lib.ListN.{drop}
use Rattle.sheet.specs.Sheet.{low}
use Rattle.sheet.specs.Verdict.{starts}
use Rattle.sheet.proofs.has_number.Given as goal

abbrev pub invariant-loop-n : goal.invariant-loop-n
invariant-loop-n l = starts (low 8 l.number) (drop l.at l.sheet) ≡ starts (low l.n l.rest) (drop l.i l.sheet)

abbrev pub decreases-loop-n : goal.decreases-loop-n
decreases-loop-n l = l.n
