-- `wide::high` meets its contract. Assumes nothing.
use native.Mathlib.Omega.{arith}
use Rattle.wide.specs.High.{high_word}
use Rattle.wide.proofs.high.Goals as goal

pub returns : goal.returns
unfolding high_word
returns c = omega arith
