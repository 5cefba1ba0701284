-- `walk::number_in` meets its contract. Assumes nothing.
use native.Mathlib.Omega.{arith}
use borrow.Author.Tests.{lt-ltb, le-ltb}
use Rattle.walk.specs.Walk.{number_in}
use Rattle.walk.proofs.number_in.Goals as goal

pub returns-then-b-ge78 : goal.returns-then-b-ge78
unfolding number_in
returns-then-b-ge78 c = rw (le-ltb c.args.b 78 (omega arith))

pub returns-then-b-ge48 : goal.returns-then-b-ge48
unfolding number_in
returns-then-b-ge48 c = rw (lt-ltb c.args.b 78 (omega arith))

pub returns : goal.returns
unfolding number_in
returns c = rw (lt-ltb c.args.b 78 (omega arith)) (omega arith)
