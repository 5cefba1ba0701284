-- `code::is_cell_code` meets its contract. Assumes nothing.
use mathlib.Core.Path.{sym, ap, ◌∙◌}
use mathlib.Core.Bool.{◌&&◌}
use Prim.Native.Nat.{ℕ, ◌/◌, ◌%◌, ◌-◌, ◌^◌, ◌≤◌, ◌<◌}
use native.Mathlib.Omega.{arith}
use lib.Dec.{eqb}
use borrow.Author.Tests.{lt-ltb, le-ltb}
use Rattle.ternary.proofs.Laws.Powers.{nine-pos}
use Rattle.code.specs.Code.{is_cell_code}
use Rattle.code.proofs.Laws.{rest-cut}
use Rattle.code.proofs.is_cell_code.Goals as goal

pub nonzero_rem-result : goal.nonzero_rem-result
nonzero_rem-result c = let e = c.nine_power.ensures in let p = nine-pos (15 - c.args.part % 16) in omega arith

pub returns-then-finest-lt1235346792567894 : goal.returns-then-finest-lt1235346792567894
unfolding is_cell_code
returns-then-finest-lt1235346792567894 c =
    let a = c.args.part in
    let f : a / 16 / 9 ^ 15 < 6 = omega arith in
    ap (λ (x : ℕ). eqb (a / 16 % x) 0) c.nine_power.ensures
    ∙ ap (λ (x : ℕ). eqb x 0) (sym (rest-cut (a / 16) (15 - a % 16) (omega arith)))
    ∙ sym (ap (λ b. b && eqb (a / 16 % 9 ^ 15 % 9 ^ (15 - a % 16)) 0) (lt-ltb (a / 16 / 9 ^ 15) 6 f))

pub returns : goal.returns
unfolding is_cell_code
returns c =
    let a = c.args.part in
    let f : 6 ≤ a / 16 / 9 ^ 15 = omega arith in
    simp (le-ltb _ _ f)
