-- `code::parts_of` meets its contract. Assumes nothing.
use Rattle.code.specs.Code.{code_refusal, cell_code_refusal, is_code}
use Rattle.code.proofs.parts_of.Goals as goal

pub returns : goal.returns
unfolding code_refusal cell_code_refusal is_code
returns c = c.cell_parts.ensures
