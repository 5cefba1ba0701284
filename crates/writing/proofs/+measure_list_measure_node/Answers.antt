-- The proof of the cycle of calls {measure_list, measure_node}. The measures are twice the size, and one more for the list. What each hands back, and how far
-- the list has come, is said by the laws of MeasureSteps. Assumes nothing.
use mathlib.Core.Path.{◌≡◌, sym, ap, ◌∙◌}
use native.Mathlib.Omega.{arith}
use Prim.Native.Nat.{◌+◌, ◌-◌, ◌*◌, ◌^◌}
use Rattle.writing.specs.Internal.Measure.{cell_start}
use Rattle.writing.specs.Internal.MeasureLaws.{code-at}
use Rattle.writing.proofs.MeasureSteps as ms
use Rattle.writing.proofs.+measure_list_measure_node.Goals as goal

pub measure_list-loop-init : goal.measure_list-loop-init
measure_list-loop-init t c =
    let e : c.args.left - 0 ≡ c.args.left = omega arith in
    rw e (ms.l-starts (omega arith) c.start_at-first.ensures)

pub measure_list-returns-then-limit-first : goal.measure_list-returns-then-limit-first
measure_list-returns-then-limit-first t c = ms.l-stops c.loop.invariant (omega arith) c.if-limit-first.true

pub measure_list-loop-preserved : goal.measure_list-loop-preserved
measure_list-loop-preserved t c =
    let n = c in
    let l = n.loop in
    let s = n in
    let h = ms.hand-there (s.args.start + s.args.left * s.args.size) l.invariant.hand (omega arith) n.if-limit-first.false in
    let e : s.args.left - l.counter - 1 ≡ s.args.left - (l.counter + 1) = omega arith in
    let m = ms.l-takes l.invariant (omega arith) (λ z. omega arith) h n.if-limit-first.false n.measure_node-node.ensures c.start_at-first-in-loop.ensures in
    rw c.greater-depth.ensures (rw e at m)

pub measure_list-returns : goal.measure_list-returns
measure_list-returns t c = ms.l-ends c.loop.invariant (omega arith) (omega arith)

pub measure_node-returns-then-size_in-size : goal.measure_node-returns-then-size_in-size
measure_node-returns-then-size_in-size t c = ms.n-same (omega arith) (omega arith) (sym c.size_in.ensures ∙ c.if-size_in-size.true)

pub measure_node-returns-then-size-lt9 : goal.measure_node-returns-then-size-lt9
measure_node-returns-then-size-lt9 t c = ms.n-finest (omega arith) (omega arith) c.if-size-lt9.true

pub measure_node-start_in-requires : goal.measure_node-start_in-requires
measure_node-start_in-requires t c = let s = c in code-at s.args.codes.now s.args.at s.requires.0 (omega arith)

pub measure_node-measure_list-list-requires : goal.measure_node-measure_list-list-requires
measure_node-measure_list-list-requires t c =
    let s = c in
    let f = ms.first-most s.args.codes.now s.args.at s.requires.0 (omega arith) in
    let m = ms.start-most s.args.base s.args.size c.start_in.result (9 ^ 16) (omega arith) (omega (arith, f, c.start_in.ensures)) in
    (omega arith, (s.requires.0, omega arith, omega arith, omega arith, omega (arith, m, c.cell_start-start.ensures), omega arith))

pub measure_node-returns-then-list-eq9 : goal.measure_node-returns-then-list-eq9
measure_node-returns-then-list-eq9 t c =
    let m = c in
    let f = m in
    let i = f in
    let s = i in
    ms.n-nine s.args.base (omega arith) f.if-size-lt9.false (λ e. i.if-size_in-size.false (i.size_in.ensures ∙ e))
    (m.cell_start-start.ensures ∙ ap (cell_start s.args.base s.args.size) f.start_in.ensures) m.measure_list-list.ensures c.if-list-eq9.true

pub measure_node-returns : goal.measure_node-returns
measure_node-returns t c =
    let m = c in
    let f = m in
    let i = f in
    let s = i in
    ms.n_held s.args.base (omega arith) f.if-size-lt9.false (λ e. i.if-size_in-size.false (i.size_in.ensures ∙ e))
    (m.cell_start-start.ensures ∙ ap (cell_start s.args.base s.args.size) f.start_in.ensures) m.measure_list-list.ensures
    c.if-list-eq9.false c.depth_above.ensures
