-- `nucleus::cap_z` meets its contract. Assumes nothing.
use mathlib.Core.Path.{ap₂, ◌∙◌}
use mathlib.Core.Bool.{cond}
use Prim.Native.Nat.{ℕ, ◌+◌, ◌-◌, ◌*◌, ◌<◌}
use lib.Dec.{eqb, lit<}
use lib.IntN.{pos, sub_ℕ}
use Rattle.signed.specs.Laws.Sign.{back_as}
use Rattle.nucleus.specs.Internal.FlooredLaws.{floor-signed}
use Rattle.nucleus.specs.Internal.CapLaws.{z-is}
use Rattle.nucleus.proofs.cap_z.Goals as goal

pub returns : goal.returns
returns c =
    let a = c.args in
    let q = c.scaled-q.ensures in
    let n : ℕ = 1000000000000000000 * (617673396283947 - a.h * a.h) in
    back_as c.floored.type_inv
    (c.floored.ensures
    ∙ ap₂ (λ (w r : ℕ). cond a.south (sub_ℕ 0 (w + cond (eqb r 0) 0 1)) (pos w)) q.whole q.rest
    ∙ floor-signed n 617673396283947 (lit< tt) a.south
    ∙ z-is a.south 14348907 a.h c.requires.h_bound)
