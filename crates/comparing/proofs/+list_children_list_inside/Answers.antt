-- The proof of the cycle of calls {list_children, list_inside}. The measures are twice the resolutions that are left, and one more for the children. What
-- each finds is said by the laws of Steps. Assumes nothing.
use native.Mathlib.Omega.{arith}
use mathlib.Core.Path.{ap, sym, ◌∙◌}
use lib.ListN.{length}
use Rattle.comparing.proofs.Steps.{going_on, flat-found, inside_found, none_found, number_small, power-more, power-less}
use Rattle.comparing.proofs.+list_children_list_inside.Goals as goal
use Rattle.comparing.proofs.+list_children_list_inside.Goals.{list_children-then-is_divided, list_children-else-is_divided}

pub list_children-overflow_add-child : goal.list_children-overflow_add-child
list_children-overflow_add-child t c =
    let a = c in
    omega (arith, c.loop-more.invariant.numbered, number_small a.args.resolution a.requires.resolution_bound.0)

pub list_children-loop-more-preserved : goal.list_children-loop-more-preserved
list_children-loop-more-preserved t c =
    let v = c.loop-more.invariant in
    let m = c.loop-more-test.true in
    let p = c.child_at-one.ensures in
    let q = c.child_at-two.ensures in
    let d = c.is_divided.ensures in
    let z = c.if-is_divided.auto in
    elim c.if-is_divided.branch [
      | list_children-then-is_divided w ↦
          going_on v m p q w.list_inside-cursor.ensures
          (sym (ap length w.firsts-is) ∙ z.firsts, sym (ap length w.seconds-is) ∙ z.seconds, sym (ap length w.boths-is) ∙ z.boths)
          (w.firsts-is, w.seconds-is, w.boths-is, w.cursor-is)
      | list_children-else-is_divided w ↦
          going_on v m p q (flat-found (sym d ∙ w.if-is_divided.false) w.list_cell-cursor.ensures)
          (sym (ap length w.firsts-is) ∙ z.firsts, sym (ap length w.seconds-is) ∙ z.seconds, sym (ap length w.boths-is) ∙ z.boths)
          (w.firsts-is, w.seconds-is, w.boths-is, w.cursor-is)
    ]

pub list_children-returns : goal.list_children-returns
list_children-returns t c = c.loop-more.invariant.rest _ _ (none_found (omega arith))

pub list_inside-overflow_mul-number : goal.list_inside-overflow_mul-number
list_inside-overflow_mul-number t c = let a = c in omega (arith, a.requires.resolution_bound.1, number_small a.args.resolution a.requires.resolution_bound.0)

pub list_inside-list_children-ends-requires : goal.list_inside-list_children-ends-requires
list_inside-list_children-ends-requires t c =
    let a = c in
    let k = a.args.resolution in
    let p = a.requires in
    let o = c.if-resolution-ge15.false in (
      omega arith,
      (p.arrangement.0, (omega arith, omega arith, omega arith, omega (arith, p.resolution_bound.1, power-more k), omega (arith, p.resolution_bound.2, power-less k (omega arith)))),
    )

pub list_inside-returns : goal.list_inside-returns
list_inside-returns t c =
    let l = c in
    let o = l in
    inside_found o.requires.arrangement.1 (omega (arith, o.if-resolution-ge15.false)) l.list_children-ends.ensures c.past_list.ensures
    c.past_list-2.ensures
