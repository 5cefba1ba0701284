-- `root::reaches` meets its contract: minus 0 is plus 0. Assumes nothing.
use mathlib.Core.Path.{◌≡◌, refl, sym, ap, ◌∙◌}
use mathlib.Core.Bool.{Bool, true, false, cond}
use Prim.Native.Nat.{ℕ, zero, suc, ◌<◌, ◌≤◌}
use native.Mathlib.Omega.{arith}
use lib.IntN.{ℤ, pos, neg_ℤ}
use Rattle.root.specs.Floor.{plus_at, minus_at, at_most}
use Rattle.root.proofs.reaches.Goals as goal
use Rattle.root.proofs.reaches.Goals.{then-minus+else-size-gt0, else-minus}

minus-at : (m radicand g w : ℕ) → 0 < g → minus_at m radicand g w ≡ at_most m radicand (neg_ℤ (pos g)) w
unfolding at_most
minus-at m radicand zero w h = absurd (omega arith)
minus-at m radicand (suc g) w h = refl

plus-at : (m radicand g w : ℕ) → plus_at m radicand g w ≡ at_most m radicand (pos g) w
unfolding at_most
plus-at m radicand g w = refl

minus-zero : (b : Bool) (g : ℕ) → g ≤ 0 → pos g ≡ cond b (neg_ℤ (pos g)) (pos g)
minus-zero false g h = refl
minus-zero true zero h = refl
minus-zero true (suc g) h = absurd (omega arith)

pub returns-then-size-gt0 : goal.returns-then-size-gt0
returns-then-size-gt0 c =
    let a = c.args in
    c.minus_reaches.ensures ∙ minus-at a.m a.radicand a.p.size a.w (omega arith)
    ∙ ap (λ (b : Bool). at_most a.m a.radicand (cond b (neg_ℤ (pos a.p.size)) (pos a.p.size)) a.w) (sym c.if-minus.true)

pub returns : goal.returns
returns c =
    let a = c.args in
    let whole : pos a.p.size ≡ cond a.p.minus (neg_ℤ (pos a.p.size)) (pos a.p.size) =
    elim c.if-minus.branch [
      | then-minus+else-size-gt0 w ↦ minus-zero a.p.minus a.p.size w.if-size-gt0.false
      | else-minus w ↦ sym (ap (λ (b : Bool). cond b (neg_ℤ (pos a.p.size)) (pos a.p.size)) w.if-minus.false)
    ] in
    c.plus_reaches.ensures ∙ plus-at a.m a.radicand a.p.size a.w ∙ ap (λ (x : ℤ). at_most a.m a.radicand x a.w) whole
