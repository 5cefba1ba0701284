-- `code::cell_parts` meets its contract. Assumes nothing.
use mathlib.Core.Path.{◌≡◌, ap}
use Prim.Native.Nat.{ℕ, ◌-◌, ◌/◌, ◌%◌}
use native.Mathlib.Omega.{arith}
use Rattle.ternary.proofs.Laws.Powers.{nine-pos}
use Rattle.code.specs.Code.{path_in}
use Rattle.code.proofs.Laws.{no_code, a-cell-code, no-face, a-rest, no-rest}
use Rattle.code.proofs.cell_parts.Goals as goal

pub returns-then-face-ge6 : goal.returns-then-face-ge6
returns-then-face-ge6 c = let a = c.args.part in no_code a (no-face a c.if-face-ge6.true)

pub nonzero_div-path : goal.nonzero_div-path
nonzero_div-path c = let e = c.nine_power-step.ensures in let p = nine-pos (15 - c.args.part % 16) in omega arith

pub returns-then-path-step : goal.returns-then-path-step
returns-then-path-step c = let a = c.args.part in no_code a (a-rest a c.nine_power-step.ensures c.if-path-step.true)

pub returns : goal.returns
unfolding path_in
returns c =
    let n = c in
    let a = n.args.part in
    let p : a / 16 % 205891132094649 / n.nine_power-step.result ≡ path_in a = ap (λ (x : ℕ). a / 16 % 205891132094649 / x) n.nine_power-step.ensures in
    let f = n.if-face-ge6.false in
    a-cell-code a (no-rest a n.nine_power-step.ensures (omega arith) c.if-path-step.false) p
