-- `asking::letter_in` meets its contract. Assumes nothing.
use borrow.Author.Tests.{eq-eqb, ne_eqb}
use Rattle.reading.specs.Letters.{is_letter}
use Rattle.asking.proofs.letter_in.Goals as goal

pub returns-then-b-eq40 : goal.returns-then-b-eq40
unfolding is_letter
returns-then-b-eq40 c = rw (eq-eqb c.args.b 40 c.if-b-eq40.true)

pub returns-then-b-eq41 : goal.returns-then-b-eq41
unfolding is_letter
returns-then-b-eq41 c = let a = c.args in rw (ne_eqb a.b 40 c.if-b-eq40.false, eq-eqb a.b 41 c.if-b-eq41.true)

pub returns : goal.returns
unfolding is_letter
returns c = let a = c.args in rw (ne_eqb a.b 40 c.if-b-eq40.false, ne_eqb a.b 41 c.if-b-eq41.false)
