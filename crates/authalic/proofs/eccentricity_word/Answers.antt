-- `authalic::eccentricity_word` meets its contract. Assumes nothing.
use Rattle.authalic.specs.Computed.{eccentricity_word}
use Rattle.authalic.proofs.eccentricity_word.Goals as goal

pub returns : goal.returns
unfolding eccentricity_word
returns c = c.high.ensures
