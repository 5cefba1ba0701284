-- `ternary::unwoven` meets its contract: the row and the column stand in one number. Assumes nothing.
use lib.Dec.{lit≤}
use Rattle.ternary.proofs.Both.{both-apart}
use Rattle.ternary.proofs.unwoven.Goals as goal

pub returns : goal.returns
returns c = both-apart 16 c.args.path (lit≤ tt) c.sixteen_digits-both.ensures
