-- `sheet::record_of` meets its contract: the code's cell is found. Assumes nothing.
use mathlib.Core.Path.{sym, subst}
use Rattle.cell.specs.Cell.{IsArrangement, IsCell}
use Rattle.code.proofs.Laws.Code.{code-arranged}
use Rattle.sheet.proofs.Records.{of_code, is-of-code, not-no-code, made}
use native.Mathlib.Omega.{arith}
use Rattle.sheet.proofs.record_of.Goals as goal
use Rattle.sheet.proofs.record_of.Goals.{In-Ok}

-- the code is of an arrangement, and its cell was found
stands : (c : In-Ok) → IsArrangement c.arrangement_of-arrangement.result × IsCell c.in-Ok.cell
stands c =
    let a = c in (
      subst IsArrangement (sym a.arrangement_of-arrangement.ensures) (code-arranged a.args.code),
      is-of-code a.args.code a.requires c.cell_of.ensures c.in-Ok.is,
    )

pub returns-in_default : goal.returns-in_default
returns-in_default c =
    let s = c in
    absurd (not-no-code s.args.code s.requires c.cell_of.ensures c.in_default.is)

pub neighbour_code-requires : goal.neighbour_code-requires
neighbour_code-requires c = let s = stands (goal.at.neighbour_code-requires c).In-Ok in (s.0, s.1, omega arith)

pub neighbour_code-requires-2 : goal.neighbour_code-requires-2
neighbour_code-requires-2 c = let s = stands (goal.at.neighbour_code-requires-2 c).In-Ok in (s.0, s.1, omega arith)

pub neighbour_code-requires-3 : goal.neighbour_code-requires-3
neighbour_code-requires-3 c = let s = stands (goal.at.neighbour_code-requires-3 c).In-Ok in (s.0, s.1, omega arith)

pub neighbour_code-requires-4 : goal.neighbour_code-requires-4
neighbour_code-requires-4 c = let s = stands (goal.at.neighbour_code-requires-4 c).In-Ok in (s.0, s.1, omega arith)

pub returns : goal.returns
returns c =
    let n = c in
    let k = n in
    let a = k in
    let s = a in
    made s.args.code s.requires a.arrangement_of-arrangement.ensures
    (of_code s.args.code s.requires k.cell_of.ensures k.in-Ok.is)
    n.neighbour_code.ensures c.neighbour_code-2.ensures c.neighbour_code-3.ensures c.neighbour_code-4.ensures
