-- `jgv_vertices` meets its contract. Assumes nothing.
use mathlib.Core.Path.{ap}
use Rattle.plane.specs.Plane.{vertices_of}
use Rattle.entries.specs.Entries.{cell_vertices, the_vertices, no_vertices}
use Rattle.jeguarivo.proofs.Laws.{placed-stands, placed-value, placed-none}
use Rattle.jeguarivo.proofs.jgv_vertices.Goals as goal

pub vertices_of-vertices-requires : goal.vertices_of-vertices-requires
vertices_of-vertices-requires c =
    let k = c in
    let p = placed-stands k.args.code k.cell_of.ensures c.in-Ok.is c.arrangement_of-arrangement.ensures in
    record { arrangement = p.0; cell = p.1 }

pub returns-in-Ok : goal.returns-in-Ok
unfolding cell_vertices
returns-in-Ok c =
    let q = c in
    let g = q in
    let x = g in
    let k = x in
    placed-value k.args.code k.cell_of.ensures x.in-Ok.is g.arrangement_of-arrangement.ensures (λ a c. the_vertices (vertices_of a c)) no_vertices
    (ap the_vertices q.vertices_of-vertices.ensures)

pub returns-in-Err : goal.returns-in-Err
unfolding cell_vertices
returns-in-Err c =
    let k = c in
    placed-none k.args.code k.cell_of.ensures (λ a c. the_vertices (vertices_of a c)) no_vertices c.in-Err.is
