-- The two comparisons are those of the definition. Assumes nothing.
use mathlib.Core.Path.{◌≡◌, sym, ap, ap₂, ◌∙◌}
use mathlib.Core.Bool.{Bool, false, ◌&&◌}
use lib.IntN.{pos}
use lib.Ieee.{Float, of_bits, le, fin}
use Rattle.metres.specs.Metres.{is_side}
use Rattle.metres.proofs.Laws.Metres.{one-is, most-is}
use Rattle.metres.proofs.is_side.Goals as goal

-- with the bounds as the machine has them
side-as : (side : Float) → (le (fin false 1 (pos 0)) side && le side (fin false 1 (pos 30))) ≡ is_side side
unfolding is_side
side-as side = sym (ap₂ (λ (a b : Float). le a side && le side b) one-is most-is)

pub returns-then-side : goal.returns-then-side
unfolding of_bits
returns-then-side c =
    sym (ap (λ (b : Bool). b && le c.args.side (fin false 1 (pos 30))) c.if-side.true) ∙ side-as c.args.side

pub returns-else-side : goal.returns-else-side
unfolding of_bits
returns-else-side c =
    sym (ap (λ (b : Bool). b && le c.args.side (fin false 1 (pos 30))) c.if-side.false) ∙ side-as c.args.side
