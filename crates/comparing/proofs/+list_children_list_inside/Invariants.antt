-- The proof of the cycle of calls {list_children, list_inside}. The measures are twice the resolutions that are left, and one more for the children. What
-- each finds is said by the laws of Steps. Assumes nothing.
use Prim.Native.Nat.{◌+◌, ◌-◌, ◌*◌}
use Rattle.comparing.specs.Compare.{lists}
use Rattle.comparing.proofs.Steps.{Going}
use Rattle.comparing.proofs.+list_children_list_inside.Given as goal

abbrev pub decreases-list_children : goal.decreases-list_children
decreases-list_children l = 2 * (15 - l.resolution) + 1

abbrev pub decreases-list_inside : goal.decreases-list_inside
decreases-list_inside l = 2 * (15 - l.resolution)

abbrev pub invariant-list_children-loop-more : goal.invariant-list_children-loop-more
invariant-list_children-loop-more l = Going l.first l.second l.initial.cursor l.x l.y l.arrangement l.left l.byte l.resolution l.number (lists l.initial.firsts l.initial.seconds l.initial.boths) l.cursor l.more l.name l.child (lists l.firsts l.seconds l.boths)

abbrev pub decreases-list_children-loop-more : goal.decreases-list_children-loop-more
decreases-list_children-loop-more l = l.more
