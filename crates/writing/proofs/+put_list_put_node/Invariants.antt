-- The proof of the cycle of calls {put_list, put_node}. The measures are twice the size, and one more for the list. What each hands back, and how far the
-- list has come, is said by the laws of PutSteps. Assumes nothing.
use Prim.Native.Nat.{◌+◌, ◌-◌, ◌*◌}
use Rattle.writing.proofs.MeasureSteps as ms
use Rattle.writing.proofs.PutSteps as ps
use Rattle.writing.proofs.+put_list_put_node.Given as goal

abbrev pub decreases-put_list : goal.decreases-put_list
decreases-put_list l = 2 * l.size + 1

abbrev pub decreases-put_node : goal.decreases-put_node
decreases-put_node l = 2 * l.size

abbrev pub invariant-put_list-loop : goal.invariant-put_list-loop
invariant-put_list-loop l = ps.Putting l.codes l.at l.left l.start l.size l.place l.byte l.initial.text l.next l.first l.child l.ends l.name (l.left - l.counter) l.text
