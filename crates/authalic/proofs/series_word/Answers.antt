-- `authalic::series_word` meets its contract: the steps one inside the other. Assumes nothing.
use Rattle.authalic.specs.Computed.{coefficient, series, series_word}
use Rattle.authalic.proofs.series_word.Goals as goal

pub returns : goal.returns
unfolding series_word series coefficient
returns c = cc
