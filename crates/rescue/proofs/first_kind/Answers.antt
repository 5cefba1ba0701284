-- Assumes nothing.
use mathlib.Core.Path.{refl}
use Rattle.rescue.specs.Internal.Note.{first-not, first-noted}
use Rattle.rescue.proofs.first_kind.Goals as goal

pub returns-then-not-whole : goal.returns-then-not-whole
returns-then-not-whole c = first-not (c.if-not-whole.true)

pub returns : goal.returns
returns c = first-noted (c.if-not-whole.false) c.note-standing.ensures refl
