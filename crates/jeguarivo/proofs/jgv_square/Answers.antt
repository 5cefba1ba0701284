-- `jgv_square` meets its contract. Assumes nothing.
use mathlib.Core.Path.{ap, ◌∙◌}
use Rattle.signed.specs.Laws.Sign.{back-result}
use Rattle.plane.specs.Plane.{square_of}
use Rattle.entries.specs.Entries.{cell_square, a_square, no_square}
use Rattle.jeguarivo.proofs.Laws.{placed-stands, placed-value, placed-none}
use Rattle.jeguarivo.proofs.jgv_square.Goals as goal

pub square_of-square-requires : goal.square_of-square-requires
square_of-square-requires c =
    let k = c in
    let p = placed-stands k.args.code k.cell_of.ensures c.in-Ok.is c.arrangement_of-arrangement.ensures in
    record { arrangement = p.0; cell = p.1 }

pub returns-in-Ok : goal.returns-in-Ok
unfolding cell_square
returns-in-Ok c =
    let q = c in
    let r = q.square_of-square.result in
    let told = c.struct_told-1.given in
    let g = q in
    let x = g in
    let k = x in
    placed-value k.args.code k.cell_of.ensures x.in-Ok.is g.arrangement_of-arrangement.ensures (λ a c. a_square (square_of a c)) no_square
    ((λ i. record {
      refusal = 0;
      left = back-result r.left told.0.1 i;
      top = back-result r.top told.1.0.1 i;
      side = back-result r.side told.1.1.0.1 i;
    }) ∙ ap a_square q.square_of-square.ensures)

pub returns-in-Err : goal.returns-in-Err
unfolding cell_square
returns-in-Err c =
    let k = c in
    placed-none k.args.code k.cell_of.ensures (λ a c. a_square (square_of a c)) no_square c.in-Err.is
