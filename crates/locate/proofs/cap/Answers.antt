-- `locate::cap` meets its contract. Assumes nothing.
use mathlib.Core.Path.{ap, ◌∙◌}
use Prim.Native.Nat.{◌^◌}
use lib.IntN.{ℤ}
use Rattle.root.specs.Floor.{root_floor}
use Rattle.locate.specs.Fix.{cap_cell}
use Rattle.locate.proofs.cap.Goals as goal

pub returns : goal.returns
unfolding cap_cell
returns c =
    let f = c in
    let a = f.args in
    let row = f.floor.ensures.0 ∙ ap (λ (x : ℤ). root_floor (3 ^ a.resolution) a.height x) f.negated-q.ensures.0 in
    λ i. record { face = a.face; resolution = a.resolution; row = row i; column = c.floor-2.ensures.0 i }
