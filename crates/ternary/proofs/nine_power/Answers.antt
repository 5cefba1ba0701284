-- `ternary::nine_power` meets its contract: 9^e is the square of 3^e. Assumes nothing.
use mathlib.Core.Path.{◌≡◌, sym, ap₂, ◌∙◌}
use Prim.Native.Nat.{◌*◌, ◌^◌}
use native.Mathlib.Omega.{arith}
use Rattle.ternary.proofs.Laws.Powers.{nine-square, nine-le}
use Rattle.ternary.proofs.nine_power.Goals as goal
use Rattle.ternary.proofs.nine_power.Goals.{After-power-root}

square : (c : After-power-root) → c.power-root.result * c.power-root.result ≡ 9 ^ c.args.e
square c = ap₂ ◌*◌ c.power-root.ensures c.power-root.ensures ∙ sym (nine-square c.args.e)

pub overflow_mul-result : goal.overflow_mul-result
overflow_mul-result c = omega (arith, square (goal.at.overflow_mul-result c).After-power-root, nine-le {i = c.args.e} {j = 15} c.requires)

pub returns : goal.returns
returns c = square (goal.at.returns c).After-power-root
