-- `jgv_nucleus` meets its contract. Assumes nothing.
use mathlib.Core.Path.{ap, ◌∙◌}
use Rattle.signed.specs.Laws.Sign.{back-result}
use Rattle.plane.specs.Plane.{nucleus_of}
use Rattle.entries.specs.Entries.{cell_nucleus, a_point, no_point}
use Rattle.jeguarivo.proofs.Laws.{placed-stands, placed-value, placed-none}
use Rattle.jeguarivo.proofs.jgv_nucleus.Goals as goal

pub nucleus_of-point-requires : goal.nucleus_of-point-requires
nucleus_of-point-requires c =
    let k = c in
    let p = placed-stands k.args.code k.cell_of.ensures c.in-Ok.is c.arrangement_of-arrangement.ensures in
    record { arrangement = p.0; cell = p.1 }

pub returns-in-Ok : goal.returns-in-Ok
unfolding cell_nucleus
returns-in-Ok c =
    let q = c in
    let r = q.nucleus_of-point.result in
    let told = c.struct_told-1.given in
    let g = q in
    let x = g in
    let k = x in
    placed-value k.args.code k.cell_of.ensures x.in-Ok.is g.arrangement_of-arrangement.ensures (λ a c. a_point (nucleus_of a c)) no_point
    ((λ i. record { refusal = 0; x = back-result r.x told.0.1 i; y = back-result r.y told.1.0.1 i }) ∙ ap a_point q.nucleus_of-point.ensures)

pub returns-in-Err : goal.returns-in-Err
unfolding cell_nucleus
returns-in-Err c =
    let k = c in
    placed-none k.args.code k.cell_of.ensures (λ a c. a_point (nucleus_of a c)) no_point c.in-Err.is
