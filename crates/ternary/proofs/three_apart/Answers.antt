-- `ternary::three_apart` meets its contract: the table's rule at one entry. Assumes nothing.
use Rattle.ternary.proofs.Laws.Threes.{apart-entry}
use Rattle.ternary.proofs.three_apart.Goals as goal

pub returns : goal.returns
returns c = apart-entry c.requires.0 c.args.x c.requires.1
