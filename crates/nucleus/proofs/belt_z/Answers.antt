-- `nucleus::belt_z` meets its contract. Assumes nothing.
use mathlib.Core.Path.{◌≡◌, ap₂, ◌∙◌}
use mathlib.Core.Bool.{true, false, cond}
use mathlib.Core.Logic.{⊎_elim}
use Prim.Native.Nat.{ℕ, ◌+◌, ◌-◌, ◌*◌, ◌<◌}
use native.Mathlib.Omega.{arith}
use lib.Dec.{eqb, ltb, lit<}
use lib.IntN.{pos, sub_ℕ}
use borrow.Author.Tests.{lt-ltb, le-ltb}
use Rattle.logic.specs.Laws.Order.{lt-or}
use Rattle.signed.specs.Laws.Sign.{back_as}
use Rattle.nucleus.specs.Nucleus.{floor_z}
use Rattle.nucleus.specs.Internal.Caps.{sided}
use Rattle.nucleus.specs.Internal.FlooredLaws.{floor-sided, floor-signed}
use Rattle.nucleus.proofs.belt_z.Goals as goal

-- the sign of m - b
signed :
    (n b : ℕ) → n ≡ 14348907 - b + (b - 14348907) →
    floor_z (sided (ltb 14348907 b) (pos (1000000000000000000 * (2 * n)))) 43046721 ≡
    floor_z (sub_ℕ 28697814000000000000000000 (2000000000000000000 * b)) 43046721
signed n b e =
    let x : ℕ = 1000000000000000000 * (2 * n) in
    ⊎_elim
    (λ h. rw (lt-ltb 14348907 b h) (floor-sided true x (2000000000000000000 * b) 28697814000000000000000000 43046721 (omega arith)))
    (λ h. rw (le-ltb 14348907 b h) (floor-sided false x 28697814000000000000000000 (2000000000000000000 * b) 43046721 (omega arith)))
    (lt-or 14348907 b)

pub returns : goal.returns
returns c =
    let b = c.args.b in
    let q = c.scaled-q.ensures in
    let n : ℕ = c.apart.result in
    back_as c.floored.type_inv
    (c.floored.ensures
    ∙ ap₂ (λ (w r : ℕ). cond (ltb 14348907 b) (sub_ℕ 0 (w + cond (eqb r 0) 0 1)) (pos w)) q.whole q.rest
    ∙ floor-signed (1000000000000000000 * (2 * n)) 43046721 (lit< tt) (ltb 14348907 b)
    ∙ signed n b c.apart.ensures)
