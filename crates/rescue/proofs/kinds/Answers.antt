-- Assumes nothing.
use Rattle.rescue.specs.Internal.Note.{kinds-are}
use Rattle.rescue.proofs.kinds.Goals as goal

pub returns : goal.returns
returns c =
    kinds-are c.args.m c.one-first.ensures.0 c.one-second.ensures.0 c.one-third.ensures.0 c.one-fourth.ensures.0
