-- `fields::number_at` meets its contract: at each turn the bytes gone over are right, and the numbers that begin so are known. Assumes nothing.
use Rattle.fields.proofs.Laws.{Gone}
use Rattle.fields.proofs.number_at.Given as goal

abbrev pub invariant-loop-place : goal.invariant-loop-place
invariant-loop-place l = Gone l.bytes l.at l.width l.least l.most l.place l.unit l.from
