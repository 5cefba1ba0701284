-- `sheet::neighbour_code` meets its contract: a neighbour of a cell is one. Assumes nothing.
use mathlib.Core.Path.{sym, subst}
use Rattle.cell.specs.Cell.{IsCell}
use Rattle.cell.proofs.Laws.Neighbour.{neighbour-is-cell}
use Rattle.sheet.proofs.neighbour_code.Goals as goal

pub code_of-requires : goal.code_of-requires
code_of-requires c =
    let p = c.requires in
    record { arrangement = p.0; cell = subst IsCell (sym c.neighbour.ensures) (neighbour-is-cell c.args.direction p.0 p.1 p.2) }
