-- `batch::cell_by` meets its contract, which is that of `code::cell_of`. Assumes nothing.
use Rattle.std.specs.Prelude.{Ok}
use mathlib.Core.Path.{sym, ap, ◌∙◌}
use Prim.Native.Nat.{ℕ}
use Rattle.ternary.specs.Weave.{row_in, column_in}
use Rattle.cell.specs.Cell.{found}
use Rattle.code.specs.Code.{cell_coded, cell_of}
use Rattle.code.proofs.Laws.Decoded.{parted, unparted}
use Rattle.batch.proofs.Fifteen.{path-below, row-fifteen, column-fifteen}
use Rattle.batch.proofs.cell_by.Goals as goal

pub returns-in_default : goal.returns-in_default
unfolding found
returns-in_default c =
    let a = c.args.code in
    let r = unparted a c.parts_of.ensures c.in_default.is in
    sym (ap (λ (x : ℕ). found x (cell_of a)) r)

pub apart_by-place-requires : goal.apart_by-place-requires
apart_by-place-requires c =
    let n = c in
    let p = parted n.args.code n.parts_of.ensures c.in-Ok.is in
    (n.requires, rw p.path (path-below n.args.code p.allowed))

pub returns : goal.returns
unfolding cell_of cell_coded found
returns c =
    let n = c in
    let a = n.args.code in
    let p = parted a n.parts_of.ensures c.in-Ok.is in
    ap Ok
    (λ i. record {
      face = p.face i;
      resolution = p.resolution i;
      row = (c.apart_by-place.ensures.0 ∙ ap (row_in 15) p.path ∙ row-fifteen a p.allowed) i;
      column = (c.apart_by-place.ensures.1 ∙ ap (column_in 15) p.path ∙ column-fifteen a p.allowed) i;
    })
    ∙ sym (ap (λ (x : ℕ). found x (cell_of a)) p.allowed)
