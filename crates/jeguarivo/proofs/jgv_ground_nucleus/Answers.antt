-- `jgv_ground_nucleus` meets its contract. Assumes nothing.
use mathlib.Core.Path.{ap, ◌∙◌}
use Rattle.signed.specs.Laws.Sign.{back-result}
use Rattle.nucleus.specs.Nucleus.{ground_nucleus}
use Rattle.entries.specs.Entries.{ground_fix, a_fix, no_fix}
use Rattle.jeguarivo.proofs.Laws.{placed-stands, placed-value, placed-none}
use Rattle.jeguarivo.proofs.jgv_ground_nucleus.Goals as goal

pub ground_nucleus-fix-requires : goal.ground_nucleus-fix-requires
ground_nucleus-fix-requires c =
    let k = c in
    let p = placed-stands k.args.code k.cell_of.ensures c.in-Ok.is c.arrangement_of-arrangement.ensures in
    record { arrangement = p.0; cell = p.1 }

pub returns-in-Ok : goal.returns-in-Ok
unfolding ground_fix
returns-in-Ok c =
    let q = c in
    let r = q.ground_nucleus-fix.result in
    let told = c.struct_told-1.given in
    let g = q in
    let x = g in
    let k = x in
    placed-value k.args.code k.cell_of.ensures x.in-Ok.is g.arrangement_of-arrangement.ensures (λ a c. a_fix (ground_nucleus a c)) no_fix
    ((λ i. record { refusal = 0; longitude = back-result r.longitude told.0.1 i; z = back-result r.z told.1.0.1 i }) ∙ ap a_fix q.ground_nucleus-fix.ensures)

pub returns-in-Err : goal.returns-in-Err
unfolding ground_fix
returns-in-Err c =
    let k = c in
    placed-none k.args.code k.cell_of.ensures (λ a c. a_fix (ground_nucleus a c)) no_fix c.in-Err.is
