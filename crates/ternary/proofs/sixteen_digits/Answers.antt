-- `ternary::sixteen_digits` meets its contract. Assumes nothing.
use mathlib.Core.Path.{refl}
use native.Mathlib.Omega.{arith}
use lib.Dec.{lit≤}
use Rattle.ternary.proofs.Both.{both-split, both-fits}
use Rattle.ternary.proofs.sixteen_digits.Goals as goal

pub overflow_mul-result : goal.overflow_mul-result
overflow_mul-result c = omega (arith, both-fits 8 8 c.args.x (lit≤ tt) c.eight_digits.ensures refl)

pub overflow_add-result : goal.overflow_add-result
overflow_add-result c = omega (arith, both-fits 8 8 c.args.x (lit≤ tt) c.eight_digits.ensures c.eight_digits-2.ensures)

pub returns : goal.returns
returns c = both-split 8 8 c.args.x c.eight_digits.ensures c.eight_digits-2.ensures
