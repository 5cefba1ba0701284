-- `encoding::decode` meets its contract: place by place, what is read from there on makes the answer. Assumes nothing.
use Rattle.encoding.proofs.Turns.{Reading}
use Rattle.encoding.proofs.decode.Given as goal

abbrev pub invariant-loop-place : goal.invariant-loop-place
invariant-loop-place l = Reading l.bytes l.newest l.place l.kept
