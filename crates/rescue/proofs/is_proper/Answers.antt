-- `is_proper` meets its contract: what the reader accepts is read as version 1. Assumes nothing.
use mathlib.Core.Path.{sym, ◌∙◌}
use Rattle.rescue.proofs.Internal.Same.{text_same}
use Rattle.rescue.proofs.is_proper.Goals as goal

pub returns-in-Ok : goal.returns-in-Ok
returns-in-Ok c = λ _. let s = c in text_same s.args.text.now s.requires (sym c.in-Ok.is ∙ c.check.ensures)
