-- `batch::put_code` meets its contract. Assumes nothing.
use mathlib.Core.Path.{ap, ◌∙◌}
use mathlib.Core.List.{List}
use Prim.Native.Nat.{ℕ}
use lib.Seq.{sets}
use Rattle.batch.proofs.Batches.{seven-good, seven-bad}
use Rattle.batch.proofs.put_code.Goals as goal

pub returns-in-Ok : goal.returns-in-Ok
returns-in-Ok c =
    let n = c in
    let g = n in
    let e = g in
    let a = e.args in
    c.put_cell.ensures
    ∙ ap (λ (x : List ℕ). sets a.numbers.now a.at x) (seven-good a.code e.cell_by.ensures g.in-Ok.is n.arrangement_of.ensures)

pub returns-in-Err : goal.returns-in-Err
returns-in-Err c =
    let g = c in
    let e = g in
    let a = e.args in
    c.put_cell-in-Err.ensures ∙ ap (λ (x : List ℕ). sets a.numbers.now a.at x) (seven-bad a.code e.cell_by.ensures g.in-Err.is)
