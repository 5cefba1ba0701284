-- `code::is_code` meets its contract. Assumes nothing.
use Rattle.code.specs.Code.{is_code}
use Rattle.code.proofs.is_code.Goals as goal

pub returns : goal.returns
unfolding is_code
returns c = c.is_cell_code.ensures
