-- Without a code the side alone decides; else the first frame, grown by the codes behind it. Assumes nothing.
use Rattle.std.specs.Prelude.{Result}
use Rattle.plotter.specs.declared.Frame.{Frame}
use mathlib.Core.Path.{sym, ap, ap₂, ◌∙◌}
use mathlib.Core.List.{List}
use Prim.Native.Nat.{ℕ}
use lib.ListN.{drop}
use Rattle.plotter.specs.Plotter.{grown_by, as_around}
use Rattle.plotter.proofs.Grown.{behind-first, refused-stays, none-around, none-refused, some-around}
use Rattle.plotter.proofs.frame_around.Goals as goal

pub returns-then-is_side : goal.returns-then-is_side
returns-then-is_side c =
    let a = c.args in
    none-around a.side a.codes.now c.if-codes-eq0.true (sym c.is_side.ensures ∙ c.if-is_side.true)

pub returns-then-codes-eq0 : goal.returns-then-codes-eq0
returns-then-codes-eq0 c =
    let a = c.args in
    none-refused a.side a.codes.now c.if-codes-eq0.true (sym c.is_side.ensures ∙ c.if-is_side.false)

pub returns-in-Ok : goal.returns-in-Ok
returns-in-Ok c =
    let k = c in
    let a = k.args in
    let e = sym c.in-Ok.is ∙ k.frame_first.ensures in
    c.grow_by.ensures ∙ ap₂ (λ (f : Result Frame ℕ) (codes : List ℕ). as_around (grown_by a.side f codes)) e (behind-first a.codes.now)
    ∙ sym (some-around a.side a.codes.now k.if-codes-eq0.false)

pub returns-in-Err : goal.returns-in-Err
returns-in-Err c =
    let k = c in
    let a = k.args in
    let e = sym c.in-Err.is ∙ k.frame_first.ensures in
    let codes = drop 1 a.codes.now in
    ap as_around (sym (refused-stays a.side _ codes) ∙ ap (λ (f : Result Frame ℕ). grown_by a.side f codes) e) ∙ sym (some-around a.side a.codes.now k.if-codes-eq0.false)
