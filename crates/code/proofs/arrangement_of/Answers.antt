-- `code::arrangement_of` meets its contract. Assumes nothing.
use mathlib.Core.Path.{refl}
use Rattle.code.specs.Code.{arrangement_of}
use Rattle.code.proofs.arrangement_of.Goals as goal

pub returns : goal.returns
unfolding arrangement_of
returns c = refl
