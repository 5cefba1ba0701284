-- `locate::offset` meets its contract. Assumes nothing.
use mathlib.Core.Path.{◌≡◌, ap, ◌∙◌}
use Prim.Native.Nat.{ℕ, ◌-◌, ◌*◌}
use native.Mathlib.Omega.{arith}
use lib.IntN.{ℤ, pos, nat_abs, ◌+ℤ◌}
use Rattle.signed.specs.Laws.Sign.{back}
use Rattle.locate.specs.Internal.RangeLaws.{offset_up}
use Rattle.locate.proofs.Laws.Above.{above-bottom}
use Rattle.locate.proofs.offset.Goals as goal
use Rattle.locate.proofs.offset.Goals.{After-shifted-up}

up_is : (c : After-shifted-up) → c.shifted-up.result ≡ nat_abs (c.args.z +ℤ pos 666666666666666666)
up_is c = c.shifted-up.ensures ∙ ap (λ (x : ℤ). nat_abs (x +ℤ pos 666666666666666666)) (back c.ranges.z)

pub shifted-up-requires : goal.shifted-up-requires
shifted-up-requires c = rw (back c.ranges.z) (record { by_bound = omega arith; x_value = above-bottom c.args.z c.requires })

pub overflow_mul-result : goal.overflow_mul-result
overflow_mul-result c = omega (arith, up_is (goal.at.overflow_mul-result c).After-shifted-up, (offset_up c.args.z c.requires).0)

pub overflow_sub-result : goal.overflow_sub-result
overflow_sub-result c = omega (arith, up_is (goal.at.overflow_sub-result c).After-shifted-up, (offset_up c.args.z c.requires).0)

pub returns : goal.returns
returns c = ap (λ (x : ℕ). 3999999999999999998 - 3 * x) (up_is (goal.at.returns c).After-shifted-up) ∙ (offset_up c.args.z c.requires).1
