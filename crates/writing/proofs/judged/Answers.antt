-- `writing::judged` meets its contract. Assumes nothing.
use borrow.Author.Tests.{not-true, not-false}
use mathlib.Core.Path.{refl, sym}
use Rattle.logic.specs.Refusal.{◌otherwise◌}
use Rattle.logic.specs.Laws.Refusal.{stops, passes}
use Rattle.writing.proofs.judged.Goals as goal

pub returns-then-not-own : goal.returns-then-not-own
unfolding ◌otherwise◌
returns-then-not-own c = rw (not-true c.args.own c.if-not-own.true-raw) refl

pub returns-then-refusal-ne0 : goal.returns-then-refusal-ne0
unfolding ◌otherwise◌
returns-then-refusal-ne0 c = rw (not-false c.args.own c.if-not-own.false-raw) (sym (stops _ _ c.if-refusal-ne0.true))

pub returns-then-follows : goal.returns-then-follows
unfolding ◌otherwise◌
returns-then-follows c = rw (not-false c.args.own c.if-not-own.false-raw, c.if-follows.true) (sym (passes 0 c.if-refusal-ne0.false))

pub returns : goal.returns
unfolding ◌otherwise◌
returns c = rw (not-false c.args.own c.if-not-own.false-raw, c.if-follows.false) (sym (passes 11 c.if-refusal-ne0.false))
