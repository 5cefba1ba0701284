-- `root::is_firm` meets its contract. Assumes nothing.
use borrow.Author.Rules.{rules}
use Rattle.root.specs.Part.{firm}
use Rattle.root.proofs.is_firm.Goals as goal

pub returns : goal.returns
unfolding firm
returns c = search rules
