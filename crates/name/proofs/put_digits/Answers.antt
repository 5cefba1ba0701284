-- `name::put_digits` meets its contract: the digits still to write, and the bytes behind them, are the whole. Assumes nothing.
use mathlib.Core.Path.{◌≡◌, sym, ap, ap₂, ◌∙◌}
use mathlib.Core.List.{◌++◌}
use Prim.Native.Nat.{ℕ, ◌+◌, ◌%◌, ◌<◌}
use native.Mathlib.Omega.{arith}
use lib.ListN.{length, take, drop, length-set, take-append-drop}
use Rattle.ternary.specs.Digits.{digits}
use Rattle.name.specs.Name.{digit_bytes}
use Rattle.name.proofs.Laws.{digit-kept, front_kept}
use Rattle.name.proofs.put_digits.Goals as goal

pub loop-place-preserved : goal.loop-place-preserved
loop-place-preserved c =
    let l = c.loop-place in
    let s = l.name in
    let t = c.args.name.now in
    let some : 0 < l.place = omega arith in
    let h : l.place < length s = omega arith in
    (length-set s l.place (48 + l.p % 9) ∙ l.invariant.0, front_kept s l.place some h t (48 + l.p % 9) l.invariant.1, digit-kept s l.place some h l.p ∙ l.invariant.2)

pub returns : goal.returns
unfolding digits
returns c =
    let l = c.loop-place in
    let s = l.name in
    let e : l.place ≡ 0 = omega arith in
    let f = ap (λ (x : ℕ). take (x + 1) s) (sym e) ∙ l.invariant.1 ∙ ap (λ (x : ℕ). take (x + 1) c.args.name.now) e in
    let g = ap (λ (x : ℕ). digit_bytes (digits 9 x l.p) ++ drop (x + 1) s) (sym e) ∙ l.invariant.2 in
    sym (take-append-drop 1 s) ∙ ap₂ ◌++◌ f g
