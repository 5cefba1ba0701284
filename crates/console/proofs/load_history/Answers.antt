-- Assumes nothing.
use Rattle.std.specs.Prelude.{[]}
use Rattle.console.proofs.Kept.{nothing-loaded}
use Rattle.console.proofs.load_history.Goals as goal

pub returns-in_default : goal.returns-in_default
returns-in_default c = ([], nothing-loaded c.no_history.result c.no_history.ensures)
