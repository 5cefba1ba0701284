-- `ternary::woven` meets its contract: the turns that are left end in the same path. Assumes nothing.
use mathlib.Core.Path.{◌≡◌, sym, ap, ◌∙◌}
use Prim.Native.Nat.{ℕ, ◌+◌, ◌-◌, ◌*◌, ◌/◌, ◌%◌, ◌≤◌, ◌<◌}
use native.Mathlib.Nat.{mul-le-mul}
use native.Mathlib.Omega.{arith}
use Rattle.ternary.proofs.Laws.Weave.{weave-small}
use Rattle.ternary.proofs.ByFive.{turned, turn, woven, small}
use Rattle.ternary.proofs.woven.Goals as goal

product : (n b : ℕ) → n < 205891132094649 → b ≤ 19683 → n * b ≤ 205891132094649 * 19683
product n b h k = let g : n ≤ 205891132094649 = omega arith in mul-le-mul g k

pub overflow_mul-path : goal.overflow_mul-path
overflow_mul-path c =
    let l = c.loop-turns in
    let s = c in
    let i = l.invariant in
    let b = small l.turns l.this l.other l.by l.then l.path s.args.row s.args.column s.requires.0 s.requires.1 i.2 i.4 i.6 in
    let m = product l.path l.by b i.3 in
    omega arith

pub overflow_add-path : goal.overflow_add-path
overflow_add-path c =
    let l = c.loop-turns in
    let s = c in
    let i = l.invariant in
    let b = small l.turns l.this l.other l.by l.then l.path s.args.row s.args.column s.requires.0 s.requires.1 i.2 i.4 i.6 in
    let m = product l.path l.by b i.3 in
    let w = weave-small 5 0 (l.this * 243 / 72057594037927936) in
    let e = c.five_digits.ensures in
    omega arith

pub loop-turns-preserved : goal.loop-turns-preserved
loop-turns-preserved c =
    let l = c.loop-turns in
    let i = l.invariant in
    let t = turn l.turns l.this l.other l.by l.then l.path (omega arith) in
    let rest : ℕ = l.this * 243 % 72057594037927936 in
    let e = ap (λ (x : ℕ). turned (l.turns - 1) l.other rest l.then l.by (l.path * l.by + x)) c.five_digits.ensures in
    (i.1, omega arith, i.4, i.5, i.2, i.3, e ∙ sym t ∙ i.6)

pub returns : goal.returns
returns c =
    let l = c.loop-turns in
    let s = c in
    let z : l.turns ≡ 0 = omega arith in
    sym (ap (λ (k : ℕ). turned k l.this l.other l.by l.then l.path) z) ∙ l.invariant.6 ∙ woven s.args.row s.args.column s.requires.0 s.requires.1
