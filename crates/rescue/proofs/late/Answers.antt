-- Assumes nothing.
use mathlib.Core.Path.{refl}
use Rattle.rescue.specs.Internal.Note.{late-first, late-other}
use Rattle.rescue.proofs.late.Goals as goal

pub returns-then-before-eq40 : goal.returns-then-before-eq40
returns-then-before-eq40 c = late-first c.args.before c.args.old c.args.new c.if-before-eq40.true

pub returns : goal.returns
returns c = late-other c.args.before c.args.old c.args.new c.if-before-eq40.false refl
