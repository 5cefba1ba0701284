-- `writing::is_version` meets its contract. Assumes nothing.
use borrow.Author.Tests.{eq-eqb, ne_eqb}
use Rattle.writing.specs.Write.{is_version}
use Rattle.writing.proofs.is_version.Goals as goal

pub returns-then-version-eq1 : goal.returns-then-version-eq1
unfolding is_version
returns-then-version-eq1 c = rw (eq-eqb _ 1 c.if-version-eq1.true) cc

pub returns : goal.returns
unfolding is_version
returns c = rw (ne_eqb _ 1 c.if-version-eq1.false) cc
