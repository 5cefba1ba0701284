-- `corner::across_corner` meets its contract. Assumes nothing.
use mathlib.Core.Path.{sym, ap, ◌∙◌}
use Rattle.cell.specs.declared.Cell.{Cell}
use Rattle.cell.specs.Neighbour.{neighbour_of}
use Rattle.cell.proofs.Laws.Neighbour.{neighbour-is-cell}
use Rattle.corner.specs.List.{clockwise}
use Rattle.corner.specs.Internal.Square.{route-ahead, route-right}
use native.Mathlib.Omega.{arith}
use Rattle.corner.proofs.across_corner.Goals as goal

pub neighbour-requires : goal.neighbour-requires
neighbour-requires c =
    let s = c in
    record { arrangement = s.requires.arrangement; cell = rw c.neighbour-beside.ensures (neighbour-is-cell (clockwise s.args.direction) s.requires.arrangement s.requires.cell (omega arith)) }

pub returns-then-leaves : goal.returns-then-leaves
returns-then-leaves c =
    let a = c.args in
    c.neighbour.ensures
    ∙ ap (λ (x : Cell). neighbour_of a.arrangement x a.direction) c.neighbour-beside.ensures
    ∙ sym (route-right a.arrangement a.cell a.direction (sym c.leaves.ensures ∙ c.if-leaves.true))

pub neighbour-requires-2 : goal.neighbour-requires-2
neighbour-requires-2 c =
    let s = c in
    record { arrangement = s.requires.arrangement; cell = rw c.neighbour-ahead.ensures (neighbour-is-cell s.args.direction s.requires.arrangement s.requires.cell s.requires.direction_bound) }

pub returns : goal.returns
returns c =
    let a = c.args in
    c.neighbour-2.ensures
    ∙ ap (λ (x : Cell). neighbour_of a.arrangement x (clockwise a.direction)) c.neighbour-ahead.ensures
    ∙ sym (route-ahead a.arrangement a.cell a.direction (sym c.leaves.ensures ∙ c.if-leaves.false))
