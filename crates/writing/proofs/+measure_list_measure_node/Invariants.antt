-- The proof of the cycle of calls {measure_list, measure_node}. The measures are twice the size, and one more for the list. What each hands back, and how far
-- the list has come, is said by the laws of MeasureSteps. Assumes nothing.
use Prim.Native.Nat.{◌+◌, ◌-◌, ◌*◌}
use Rattle.writing.proofs.MeasureSteps as ms
use Rattle.writing.proofs.+measure_list_measure_node.Given as goal

abbrev pub decreases-measure_list : goal.decreases-measure_list
decreases-measure_list l = 2 * l.size + 1

abbrev pub decreases-measure_node : goal.decreases-measure_node
decreases-measure_node l = 2 * l.size

abbrev pub invariant-measure_list-loop : goal.invariant-measure_list-loop
invariant-measure_list-loop l = ms.Measuring l.codes l.at l.left l.start l.size l.next l.first l.bytes l.wholes l.depth (l.left - l.counter)
