-- `Arrangement::refusal` meets its contract: each return is the case that the tests before it pick. Assumes nothing.
use borrow.Author.Tests.{lt-ltb, le-ltb}
use Rattle.logic.specs.Refusal.{◌otherwise◌}
use Rattle.cell.specs.Cell.{arrangement_refusal}
use Rattle.cell.proofs.Arrangement.refusal.Goals as goal

pub returns-then-self-gt3 : goal.returns-then-self-gt3
unfolding arrangement_refusal ◌otherwise◌
returns-then-self-gt3 c = simp (lt-ltb _ _ c.if-self-gt3.true)

pub returns-then-self-gt3-2 : goal.returns-then-self-gt3-2
unfolding arrangement_refusal ◌otherwise◌
returns-then-self-gt3-2 c = simp (le-ltb _ _ c.if-self-gt3.false, lt-ltb _ _ c.if-self-gt3-2.true)

pub returns : goal.returns
unfolding arrangement_refusal ◌otherwise◌
returns c = simp (le-ltb _ _ c.if-self-gt3.false, le-ltb _ _ c.if-self-gt3-2.false)
