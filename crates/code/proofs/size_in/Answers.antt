-- `code::size_in` meets its contract. Assumes nothing.
use Rattle.code.specs.Code.{cell_coded, cell_of, size_of}
use Rattle.code.proofs.size_in.Goals as goal

pub returns : goal.returns
unfolding size_of cell_of cell_coded
returns c = c.nine_power.ensures
