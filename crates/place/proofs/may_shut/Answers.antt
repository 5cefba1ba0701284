-- `may_shut` meets its contract: each return is the case that the tests before it pick. Assumes nothing.
use borrow.Author.Tests.{eq-eqb, ne_eqb}
use Rattle.place.specs.Internal.Stack.{may_shut}
use Rattle.place.proofs.may_shut.Goals as goal

pub returns-then-k-eq0 : goal.returns-then-k-eq0
unfolding may_shut
returns-then-k-eq0 c = rw (eq-eqb c.args.k 0 c.if-k-eq0.true)

pub returns-then-low-eq0 : goal.returns-then-low-eq0
unfolding may_shut
returns-then-low-eq0 c = rw (ne_eqb c.args.k 0 c.if-k-eq0.false, eq-eqb c.args.low 0 c.if-low-eq0.true)

pub returns : goal.returns
unfolding may_shut
returns c = rw (ne_eqb c.args.k 0 c.if-k-eq0.false, ne_eqb c.args.low 0 c.if-low-eq0.false)
