-- `writing::depth_above` meets its contract. Assumes nothing.
use borrow.Author.Tests.{eq-eqb, ne_eqb}
use Rattle.writing.specs.Internal.Depth.{depth_above}
use Rattle.writing.proofs.depth_above.Goals as goal

pub returns-then-size-ne-FACE_SIZE : goal.returns-then-size-ne-FACE_SIZE
unfolding depth_above
returns-then-size-ne-FACE_SIZE c = rw (ne_eqb _ 205891132094649 c.if-size-ne-FACE_SIZE.true) cc

pub returns-then-start-eq0 : goal.returns-then-start-eq0
unfolding depth_above
returns-then-start-eq0 c = rw (eq-eqb _ 205891132094649 c.if-size-ne-FACE_SIZE.false, eq-eqb _ 0 c.if-start-eq0.true) cc

pub returns-then-start : goal.returns-then-start
unfolding depth_above
returns-then-start c = rw (eq-eqb _ 205891132094649 c.if-size-ne-FACE_SIZE.false, ne_eqb _ 0 c.if-start-eq0.false, eq-eqb _ 1029455660473245 c.if-start.true) cc

pub returns : goal.returns
unfolding depth_above
returns c = rw (eq-eqb _ 205891132094649 c.if-size-ne-FACE_SIZE.false, ne_eqb _ 0 c.if-start-eq0.false, ne_eqb _ 1029455660473245 c.if-start.false) cc
