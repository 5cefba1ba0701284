-- `ternary::six_apart` meets its contract. Assumes nothing.
use mathlib.Core.Path.{refl}
use native.Mathlib.Omega.{arith}
use lib.Dec.{lit≤}
use Rattle.ternary.proofs.Both.{both-split, both-fits}
use Rattle.ternary.proofs.six_apart.Goals as goal

pub overflow_mul-result : goal.overflow_mul-result
overflow_mul-result c = omega (arith, both-fits 3 3 c.args.x (lit≤ tt) c.three_apart.ensures refl)

pub overflow_add-result : goal.overflow_add-result
overflow_add-result c = omega (arith, both-fits 3 3 c.args.x (lit≤ tt) c.three_apart.ensures c.three_apart-2.ensures)

pub returns : goal.returns
returns c = both-split 3 3 c.args.x c.three_apart.ensures c.three_apart-2.ensures
