-- `wide::product` meets its contract: the four products of halves, and then sums, quotients and remainders by 2^32. Assumes nothing.
use native.Mathlib.Omega.{arith}
use Rattle.wide.proofs.Laws.{halves}
use Rattle.wide.proofs.product.Goals as goal

pub returns : goal.returns
returns c = omega (arith, halves c.args.a c.args.b)
