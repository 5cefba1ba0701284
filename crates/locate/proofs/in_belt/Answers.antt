-- `locate::in_belt` meets its contract: of z as the machine reads it back, and so of z. Assumes nothing.
use mathlib.Core.Path.{◌≡◌, sym, ap, ◌∙◌}
use mathlib.Core.Bool.{Bool, true, false, ◌&&◌}
use lib.IntN.{pos, neg_ℤ}
use lib.Signed.{le_z}
use mir.Syntax.{w64}
use mir.Val.{to_z, of_z}
use Rattle.signed.specs.Laws.Sign.{back}
use Rattle.locate.specs.Fix.{is_belt}
use Rattle.locate.specs.Internal.RangeLaws.{belt-ends}
use Rattle.locate.proofs.in_belt.Goals as goal
use Rattle.locate.proofs.in_belt.Goals.{Start}

read : (s : Start) → is_belt (to_z w64 (of_z w64 s.args.z)) ≡ is_belt s.args.z
read s = ap is_belt (back s.ranges.z)

-- one test after the other
second : (a b : Bool) → a ≡ true → b ≡ (a && b)
second a b p = rw p

no-first : (a b : Bool) → a ≡ false → false ≡ (a && b)
no-first a b p = rw p

pub returns-then-at_most : goal.returns-then-at_most
returns-then-at_most c =
    let s = c in
    let z = to_z w64 (of_z w64 s.args.z) in
    c.at_most-then-at_most.ensures
    ∙ second (le_z (neg_ℤ (pos 666666666666666666)) z) (le_z z (pos 666666666666666666)) (sym c.at_most.ensures ∙ c.if-at_most.true)
    ∙ belt-ends z
    ∙ read (goal.at.returns-then-at_most c).Start

pub returns : goal.returns
returns c =
    let s = c in
    let z = to_z w64 (of_z w64 s.args.z) in
    no-first (le_z (neg_ℤ (pos 666666666666666666)) z) (le_z z (pos 666666666666666666)) (sym c.at_most.ensures ∙ c.if-at_most.false)
    ∙ belt-ends z
    ∙ read (goal.at.returns c).Start
