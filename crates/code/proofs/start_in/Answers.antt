-- `code::start_in` meets its contract: a code without its resolution is the first finest cell. Assumes nothing.
use Rattle.code.proofs.Laws.Inside.{start-at}
use Rattle.code.proofs.start_in.Goals as goal

pub returns : goal.returns
returns c = start-at c.args.code c.requires
