-- Assumes nothing.
use mathlib.Core.Path.{refl}
use Rattle.rescue.specs.Internal.Note.{fourth-none, fourth-noted}
use Rattle.rescue.proofs.fourth_kind.Goals as goal

pub returns-then-not-new : goal.returns-then-not-new
returns-then-not-new c = let p = c.requires in fourth-none p.0 (p.3 (c.if-not-new.true))

pub returns : goal.returns
returns c = fourth-noted c.note-standing.ensures refl
