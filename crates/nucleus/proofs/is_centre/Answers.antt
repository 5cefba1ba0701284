-- `nucleus::is_centre` meets its contract. Assumes nothing.
use mathlib.Core.Path.{sym, ◌∙◌}
use borrow.Author.Tests.{eq-eqb, ne_eqb}
use Rattle.nucleus.specs.Internal.StartLaws.{centred-is}
use Rattle.nucleus.proofs.is_centre.Goals as goal

pub returns-then-a-m : goal.returns-then-a-m
returns-then-a-m c = let a = c.args in sym (centred-is a.m a.a a.b ∙ rw (eq-eqb _ _ c.if-a-m.true))

pub returns : goal.returns
returns c = let a = c.args in sym (centred-is a.m a.a a.b ∙ rw (ne_eqb _ _ c.if-a-m.false))
