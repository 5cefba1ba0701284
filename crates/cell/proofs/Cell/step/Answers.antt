-- `Cell::step` meets its contract: the refusals in their order. Assumes nothing.
use Rattle.std.specs.Prelude.{Ok, Result, ℕ}
use mathlib.Core.Path.{◌≡◌, sym, ap, ◌∙◌}
use Prim.Native.Nat.{◌-◌}
use native.Mathlib.Omega.{arith}
use lib.Dec.{ltb}
use borrow.Author.Tests.{lt-ltb, le-ltb}
use Rattle.logic.specs.Refusal.{refuse}
use Rattle.cell.specs.declared.Cell.{Cell}
use Rattle.cell.specs.Cell.{IsCell, IsArrangement, found}
use Rattle.cell.proofs.Laws.Cell.{is-cell, is-arrangement}
use Rattle.cell.specs.Neighbour.{neighbour_of, neighbour_refusal}
use Rattle.cell.proofs.Laws.Found.{refused, then}
use Rattle.cell.proofs.Cell.step.Goals as goal
use Rattle.cell.proofs.Cell.step.Goals.{Else-direction-gt3, Else-refusal-ne0, Else-unarranged-ne0}

arranged : (c : Else-unarranged-ne0) → IsArrangement c.args.arrangement
arranged c = is-arrangement (sym c.refusal-unarranged.ensures ∙ c.if-unarranged-ne0.false)

celled : (c : Else-refusal-ne0) → IsCell c.args.self
celled c = is-cell (sym c.refusal-refusal.ensures ∙ c.if-refusal-ne0.false)

-- what is left to refuse is the direction
directed :
    (c : Else-refusal-ne0) {x : Result Cell ℕ} →
    let a = c.args in
    x ≡ found (refuse (ltb 3 a.direction) 3) (neighbour_of a.arrangement a.self a.direction) →
    x ≡ found (neighbour_refusal a.arrangement a.self a.direction) (neighbour_of a.arrangement a.self a.direction)
unfolding neighbour_refusal
directed c h =
    let f = c in
    then _ _ f.refusal-unarranged.ensures f.if-unarranged-ne0.false (then _ _ c.refusal-refusal.ensures c.if-refusal-ne0.false h)

-- nothing is refused
passed :
    (c : Else-direction-gt3) {x : Cell} →
    let a = c.args in
    x ≡ neighbour_of a.arrangement a.self a.direction →
    Ok x ≡ found (neighbour_refusal a.arrangement a.self a.direction) (neighbour_of a.arrangement a.self a.direction)
unfolding found
passed c e =
    let s = c in
    directed c.before (rw (le-ltb 3 s.args.direction (omega arith)) (ap Ok e))

pub returns-then-unarranged-ne0 : goal.returns-then-unarranged-ne0
unfolding neighbour_refusal
returns-then-unarranged-ne0 c = refused _ _ c.refusal-unarranged.ensures c.if-unarranged-ne0.true

pub returns-then-refusal-ne0 : goal.returns-then-refusal-ne0
unfolding neighbour_refusal
returns-then-refusal-ne0 c =
    let f = c in
    then _ _ f.refusal-unarranged.ensures f.if-unarranged-ne0.false (refused _ _ c.refusal-refusal.ensures c.if-refusal-ne0.true)

pub returns-then-direction-gt3 : goal.returns-then-direction-gt3
unfolding found
returns-then-direction-gt3 c =
    let s = c in
    directed (goal.at.returns-then-direction-gt3 c).Else-refusal-ne0 (rw (lt-ltb 3 s.args.direction (omega arith)))

pub neighbour-requires : goal.neighbour-requires
neighbour-requires c = let g = c in record { arrangement = arranged (goal.at.neighbour-requires c).Else-unarranged-ne0; cell = celled (goal.at.neighbour-requires c).Else-refusal-ne0 }

pub returns : goal.returns
returns c = passed (goal.at.returns c).Else-direction-gt3 c.neighbour.ensures
