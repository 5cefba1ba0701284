-- `gather_as` meets its contract: a ninth child gives way to its parent, eight places before. Assumes nothing.
use Rattle.gathering.proofs.+gather_as.Given as goal

abbrev pub decreases-gather_as : goal.decreases-gather_as
decreases-gather_as l = l.resolution
