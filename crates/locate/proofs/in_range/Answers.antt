-- `locate::in_range` meets its contract: of the numbers as the machine reads them back, and so of the numbers. Assumes nothing.
use mathlib.Core.Path.{◌≡◌, sym, ap₂, ◌∙◌}
use mir.Syntax.{w64}
use mir.Val.{to_z, of_z}
use Rattle.signed.specs.Laws.Sign.{back}
use Rattle.locate.specs.Fix.{in_range}
use Rattle.locate.proofs.Laws.{last, no_third, no_second, no-first}
use Rattle.locate.proofs.in_range.Goals as goal
use Rattle.locate.proofs.in_range.Goals.{Start}

read : (s : Start) → in_range (to_z w64 (of_z w64 s.args.longitude)) (to_z w64 (of_z w64 s.args.z)) ≡ in_range s.args.longitude s.args.z
read s = ap₂ in_range (back s.ranges.longitude) (back s.ranges.z)

pub returns-then-at_most-3 : goal.returns-then-at_most-3
unfolding in_range
returns-then-at_most-3 c =
    let third = c in
    let second = third in
    let first = second in
    c.at_most-then-at_most-3.ensures
    ∙ last _ _ _ _ (sym first.at_most.ensures ∙ first.if-at_most.true) (sym second.at_most-then-at_most.ensures ∙ second.if-at_most-2.true)
    (sym third.at_most-then-at_most-2.ensures ∙ third.if-at_most-3.true)
    ∙ read (goal.at.returns-then-at_most-3 c).Start

pub returns-else-at_most-3 : goal.returns-else-at_most-3
unfolding in_range
returns-else-at_most-3 c =
    let second = c in
    let first = second in
    no_third _ _ _ _ (sym first.at_most.ensures ∙ first.if-at_most.true) (sym second.at_most-then-at_most.ensures ∙ second.if-at_most-2.true)
    (sym c.at_most-then-at_most-2.ensures ∙ c.if-at_most-3.false)
    ∙ read (goal.at.returns-else-at_most-3 c).Start

pub returns-else-at_most-2 : goal.returns-else-at_most-2
unfolding in_range
returns-else-at_most-2 c =
    let first = c in
    no_second _ _ _ (sym first.at_most.ensures ∙ first.if-at_most.true) (sym c.at_most-then-at_most.ensures ∙ c.if-at_most-2.false)
    ∙ read (goal.at.returns-else-at_most-2 c).Start

pub returns-else-at_most : goal.returns-else-at_most
unfolding in_range
returns-else-at_most c = no-first _ _ _ (sym c.at_most.ensures ∙ c.if-at_most.false) ∙ read (goal.at.returns-else-at_most c).Start
