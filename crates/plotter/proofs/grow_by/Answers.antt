-- What the frame has grown to, grown by the codes that are left, is the whole. Assumes nothing.
use Rattle.std.specs.Prelude.{Result, ℕ}
use Rattle.plotter.specs.declared.Frame.{Frame}
use mathlib.Core.Path.{sym, ap, ◌∙◌}
use Prim.Native.Nat.{◌+◌}
use native.Mathlib.Omega.{arith}
use lib.ListN.{drop}
use Rattle.plotter.specs.Plotter.{grown_by, as_around}
use Rattle.plotter.proofs.Grown.{grown-at, refused-stays}
use Rattle.plotter.proofs.grow_by.Goals as goal

pub returns-in-Err : goal.returns-in-Err
returns-in-Err c =
    let k = c in
    let l = k.loop-code in
    let a = k.args in
    let codes = a.codes.now in
    let e = sym c.in-Err.is ∙ k.frame_grow.ensures in
    ap as_around (sym (refused-stays a.side _ (drop (l.code-index + 1) codes)) ∙ ap (λ (f : Result Frame ℕ). grown_by a.side f (drop (l.code-index + 1) codes)) e
    ∙ sym (grown-at a.side l.frame codes l.code-index (omega arith)) ∙ l.invariant)
