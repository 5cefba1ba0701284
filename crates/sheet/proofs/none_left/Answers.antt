-- `sheet::none_left` meets its contract. Assumes nothing.
use Rattle.sheet.proofs.Beside.{came, ended, some_left, no-left}
use Rattle.sheet.proofs.none_left.Goals as goal

pub returns-in-Some : goal.returns-in-Some
returns-in-Some c = some_left (came c.requires c.next_whole.ensures c.in-Some.is)

pub returns-in-None : goal.returns-in-None
returns-in-None c = let s = c in no-left s.args.text.now _ (ended s.requires c.next_whole.ensures c.in-None.is)
