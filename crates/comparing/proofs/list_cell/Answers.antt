-- `comparing::list_cell` meets its contract: each branch stores one code, or none. Assumes nothing.
use Rattle.comparing.proofs.Cells.{cell-none, cell-first, cell-second, cell-both}
use Rattle.comparing.proofs.list_cell.Goals as goal

pub returns-then-y-eq-NOTHING : goal.returns-then-y-eq-NOTHING
returns-then-y-eq-NOTHING c = cell-none c.if-x-eq-NOTHING.true c.if-y-eq-NOTHING.true

pub returns-then-x-eq-NOTHING : goal.returns-then-x-eq-NOTHING
returns-then-x-eq-NOTHING c = let b = c in cell-second b.if-x-eq-NOTHING.true b.if-y-eq-NOTHING.false b.put.ensures

pub returns-then-y-eq-NOTHING-2 : goal.returns-then-y-eq-NOTHING-2
returns-then-y-eq-NOTHING-2 c = let b = c in cell-first b.if-x-eq-NOTHING.false b.if-y-eq-NOTHING-2.true b.put-then-y-eq-NOTHING-2.ensures

pub returns : goal.returns
returns c =
    let b = c in
    cell-both b.if-x-eq-NOTHING.false b.if-y-eq-NOTHING-2.false c.nine_power.ensures b.put-2.ensures
