-- `decimal::put_whole` meets its contract: the digits still to write, and the bytes behind them, are the whole. Assumes nothing.
use mathlib.Core.Path.{◌≡◌, sym, ap, ap₂, ◌∙◌}
use mathlib.Core.List.{List, ◌++◌}
use Prim.Native.Nat.{ℕ, ◌+◌, ◌-◌, ◌≤◌, ◌<◌}
use native.Mathlib.Omega.{arith}
use lib.ListN.{length, take, drop, length-set, take-append-drop}
use lib.Seq.{take-set-le}
use Rattle.decimal.specs.Decimal.{printed}
use Rattle.decimal.proofs.Laws.{last_bytes, printed-last, byte-kept, front_kept}
use Rattle.decimal.proofs.put_whole.Goals as goal

pub loop-i-preserved : goal.loop-i-preserved
loop-i-preserved c =
    let l = c.loop-i in
    let a = c.args in
    let s = l.out in
    let some : a.at < l.i = omega arith in
    let h : l.i ≤ length s = omega arith in
    let n : l.i - 1 ≤ l.i - 1 = omega arith in
    (omega arith, simp length-set l.invariant.1, simp take-set-le (front_kept s a.out.now l.i l.invariant.2), byte-kept s a.at l.i some h l.rest ∙ l.invariant.3)

pub returns : goal.returns
unfolding last_bytes
returns c =
    let l = c.loop-i in
    let a = c.args in
    let s = l.out in
    let n = c.length_of.result in
    let m : n ≡ length (printed a.x) = c.length_of.ensures.value in
    let e : l.i ≡ a.at = omega arith in
    let z : l.i - a.at ≡ 0 = omega arith in
    let k : a.at + n - a.at ≡ length (printed a.x) = omega arith in
    let f = ap (λ (i : ℕ). take i s) (sym e) ∙ l.invariant.2 ∙ ap (λ (i : ℕ). take i a.out.now) e in
    let g = ap₂ (λ (i j : ℕ). last_bytes i l.rest ++ drop j s) (sym z) (sym e) ∙ l.invariant.3 in
    let r = ap₂ (λ (i j : ℕ). last_bytes i a.x ++ drop (a.at + j) a.out.now) k m ∙ ap (λ (p : List ℕ). p ++ drop (a.at + length (printed a.x)) a.out.now)
    (sym (printed-last a.x)) in
    record { value = omega arith; upper_bound = omega arith; out_after = sym (take-append-drop a.at s) ∙ ap₂ ◌++◌ f (g ∙ r) }
