-- `code::is_of` meets its contract. Assumes nothing.
use Rattle.code.proofs.Laws.{arranged}
use Rattle.code.proofs.is_of.Goals as goal

pub returns : goal.returns
returns c = let s = c in arranged s.requires s.args.code
