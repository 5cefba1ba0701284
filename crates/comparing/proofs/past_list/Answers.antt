-- `comparing::past_list` meets its contract. Assumes nothing.
use borrow.Author.Tests.{eq-eqb, ne_eqb, lt-ltb, le-ltb}
use Rattle.comparing.specs.Internal.Found.{past_of}
use Rattle.comparing.proofs.past_list.Goals as goal

pub returns-then-portion-ne-LIST : goal.returns-then-portion-ne-LIST
unfolding past_of
returns-then-portion-ne-LIST c = simp (ne_eqb _ _ c.if-portion-ne-LIST.true)

pub returns-then-at-text : goal.returns-then-at-text
unfolding past_of
returns-then-at-text c = simp (eq-eqb _ _ c.if-portion-ne-LIST.false, lt-ltb _ _ c.if-at-text.true)

pub returns : goal.returns
unfolding past_of
returns c = simp (eq-eqb _ _ c.if-portion-ne-LIST.false, le-ltb _ _ c.if-at-text.false)
