-- The proof of the cycle of calls {node, nodes}. The measure of both is the unread bytes: the list reader calls the node reader past a letter or digit,
-- and the node reader the list reader past a `(`. The loop's invariant is Runs, of Readers. Assumes nothing.
use Prim.Native.Nat.{◌-◌}
use lib.ListN.{length}
use Rattle.reading.specs.Reading.{room}
use Rattle.reader.proofs.Readers as rd
use Rattle.reader.proofs.Readers.{Runs}
use Rattle.reader.proofs.+node_nodes.Given as goal

abbrev pub decreases-node : goal.decreases-node
decreases-node l = length l.text.now - l.at

abbrev pub decreases-nodes : goal.decreases-nodes
decreases-nodes l = length l.text.now - l.start

abbrev pub invariant-nodes-loop-at : goal.invariant-nodes-loop-at
invariant-nodes-loop-at l = Runs l.text l.start l.level l.room l.size l.at l.low l.cells l.sum l.wholes

abbrev pub decreases-nodes-loop-at : goal.decreases-nodes-loop-at
decreases-nodes-loop-at l = length l.text - l.at
