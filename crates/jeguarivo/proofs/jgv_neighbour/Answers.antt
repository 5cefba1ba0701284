-- `jgv_neighbour` meets its contract. Assumes nothing.
use native.Mathlib.Omega.{arith}
use mathlib.Core.Path.{◌≡◌, sym, ap, ap₂, ◌∙◌, subst}
use mathlib.Core.Bool.{Bool}
use lib.Dec.{ltb}
use borrow.Author.Tests.{lt-ltb, le-ltb}
use Rattle.logic.specs.Refusal.{refuse, ◌otherwise◌}
use Rattle.logic.specs.Laws.Refusal.{passes}
use Rattle.cell.specs.declared.Arrangement.{Arrangement}
use Rattle.cell.specs.declared.Cell.{Cell}
use Rattle.cell.specs.Cell.{IsCell}
use Rattle.cell.specs.Neighbour.{neighbour_of}
use Rattle.cell.proofs.Laws.Neighbour.{neighbour-is-cell}
use Rattle.code.specs.Code.{coded, code_of, arrangement_of}
use Rattle.code.proofs.Laws.Decoded.{decoded, undecoded}
use Rattle.entries.specs.Entries.{code_answer, neighbour_code}
use Rattle.jeguarivo.proofs.Laws.{code-refused, next-code, placed-stands}
use Rattle.jeguarivo.proofs.jgv_neighbour.Goals as goal
use Rattle.jeguarivo.proofs.jgv_neighbour.Goals.{Else-direction-gt3}

-- the direction is one
directed : (c : Else-direction-gt3) → refuse (ltb 3 c.args.direction) 3 ≡ 0
directed c = ap (λ (b : Bool). refuse b 3) (le-ltb _ _ c.if-direction-gt3.false)

pub returns-then-direction-gt3 : goal.returns-then-direction-gt3
unfolding neighbour_code code_answer coded ◌otherwise◌
returns-then-direction-gt3 c = simp (lt-ltb _ _ c.if-direction-gt3.true)

pub returns-in_default : goal.returns-in_default
unfolding neighbour_code
returns-in_default c =
    let u = c in
    code-refused _ (sym (undecoded _ u.cell_of.ensures c.in_default.is)) (λ z. omega arith) ∙ next-code _ _ (directed (goal.at.returns-in_default c).Else-direction-gt3)

pub neighbour-requires : goal.neighbour-requires
neighbour-requires c =
    let k = c in
    let p = placed-stands _ k.cell_of.ensures c.in-Ok.is c.arrangement_of.ensures in
    record { arrangement = p.0; cell = p.1 }

pub kept-requires : goal.kept-requires
kept-requires c =
    let g = c in
    let k = g in
    let p = placed-stands _ k.cell_of.ensures g.in-Ok.is g.arrangement_of.ensures in
    subst IsCell (sym c.neighbour.ensures) (neighbour-is-cell _ p.0 p.1 (omega (arith, k.if-direction-gt3.false)))

pub returns : goal.returns
unfolding neighbour_code
returns c =
    let g = c in
    let x = g in
    let u = x in
    let a = u.args in
    let d = decoded a.code u.cell_of.ensures x.in-Ok.is in
    c.kept.ensures
    ∙ ap₂ code_answer (sym (passes _ (directed (goal.at.returns c).Else-direction-gt3) ∙ d.allowed))
    (ap (code_of (arrangement_of a.code)) (c.neighbour.ensures ∙ ap₂ (λ (b : Arrangement) (y : Cell). neighbour_of b y a.direction) g.arrangement_of.ensures d.is))
