-- Assumes nothing.
use Rattle.rescue.specs.Internal.Note.{mask_is}
use Rattle.rescue.proofs.mask.Goals as goal

pub returns : goal.returns
returns c = let a = c.args in mask_is a.first a.second a.fourth c.one.ensures.0 c.one-2.ensures.0 c.one-3.ensures.0
