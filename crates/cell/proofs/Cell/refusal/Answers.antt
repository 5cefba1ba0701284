-- `Cell::refusal` meets its contract: each return is the case that the tests before it pick. Assumes nothing.
use borrow.Author.Tests.{lt-ltb, le-ltb, le-leb, lt-leb}
use Rattle.logic.specs.Refusal.{◌otherwise◌}
use Rattle.cell.specs.Cell.{cell_refusal}
use Rattle.cell.proofs.Cell.refusal.Goals as goal

pub returns-then-self-gt15 : goal.returns-then-self-gt15
unfolding cell_refusal ◌otherwise◌
returns-then-self-gt15 c = simp (lt-ltb _ _ c.if-self-gt15.true)

pub returns-then-self-gt5 : goal.returns-then-self-gt5
unfolding cell_refusal ◌otherwise◌
returns-then-self-gt5 c = simp (le-ltb _ _ c.if-self-gt15.false, lt-ltb _ _ c.if-self-gt5.true)

pub returns-then-self-m : goal.returns-then-self-m
unfolding cell_refusal ◌otherwise◌
returns-then-self-m c =
    let p = c in
    simp (le-ltb _ _ p.if-self-gt15.false, le-ltb _ _ p.if-self-gt5.false, le-leb _ _ (rw p.power-m.ensures at c.if-self-m.true))

pub returns-then-self-m-2 : goal.returns-then-self-m-2
unfolding cell_refusal ◌otherwise◌
returns-then-self-m-2 c =
    let p = c in
    let e = p.power-m.ensures in
    simp
    (le-ltb _ _ p.if-self-gt15.false, le-ltb _ _ p.if-self-gt5.false, lt-leb _ _ (rw e at c.if-self-m.false), le-leb _ _ (rw e at c.if-self-m-2.true))

pub returns : goal.returns
unfolding cell_refusal ◌otherwise◌
returns c =
    let p = c in
    let e = p.power-m.ensures in
    simp
    (le-ltb _ _ p.if-self-gt15.false, le-ltb _ _ p.if-self-gt5.false, lt-leb _ _ (rw e at c.if-self-m.false), lt-leb _ _ (rw e at c.if-self-m-2.false))
