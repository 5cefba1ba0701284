-- The proof of the cycle of calls {put_list, put_node}. The measures are twice the size, and one more for the list. What each hands back, and how far the
-- list has come, is said by the laws of PutSteps. Assumes nothing.
use native.Mathlib.Omega.{arith}
use mathlib.Core.Path.{◌≡◌}
use Prim.Native.Nat.{◌+◌, ◌-◌}
use Rattle.writing.proofs.MeasureSteps as ms
use Rattle.writing.proofs.PutSteps as ps
use Rattle.writing.proofs.+put_list_put_node.Goals as goal
use Rattle.writing.proofs.+put_list_put_node.Goals.{put_list-then-first-end, put_list-else-first-end}

pub put_list-loop-init : goal.put_list-loop-init
put_list-loop-init t c =
    let e : c.args.left - 0 ≡ c.args.left = omega arith in
    rw e (ps.put-starts c.requires.1 c.requires.2 c.requires.4 c.requires.5 c.requires.6 c.start_at-first.ensures)

pub put_list-loop-preserved : goal.put_list-loop-preserved
put_list-loop-preserved t c =
    let v = c.loop.invariant in
    let e : c.args.left - c.loop.counter - 1 ≡ c.args.left - (c.loop.counter + 1) = omega arith in
    elim c.if-first-end.branch [
      | put_list-then-first-end w ↦ rw e at (ps.put_in v (λ e. omega arith) w.if-first-end.true w.put_node-node.ensures (omega (arith, w.put_node-node.auto.text))
          w.start_at-first-then-first-end.ensures w.text-is w.next-is w.first-is w.ends-is)
      | put_list-else-first-end w ↦ rw e at (ps.put-out v (λ e. omega arith) (λ l. omega (arith, w.if-first-end.false)) w.text-is w.next-is w.first-is w.ends-is)
    ]

pub put_list-returns : goal.put_list-returns
put_list-returns t c = ps.put-ends c.loop.invariant (omega arith)

pub put_node-returns-then-next-at : goal.put_node-returns-then-next-at
put_node-returns-then-next-at t c = ps.whole-put (omega arith) c.whole_until-next.ensures c.if-next-at.true c.put.ensures

pub put_node-returns : goal.put_node-returns
put_node-returns t c =
    let l = c in
    let w = l in
    ps.held-put w.requires.1 w.whole_until-next.ensures l.if-next-at.false
    w.put.ensures l.put-2.ensures l.put_list-list.ensures c.put-3.ensures
