-- Four edges one behind the other. Assumes nothing.
use native.Mathlib.Omega.{arith}
use borrow.Author.Rules.{rules}
use Rattle.report.proofs.Laws.Put.{then-put}
use Rattle.framing.specs.Framing.{edges_line}
use Rattle.framing.proofs.Laws.{left-number, bottom-number, right-number, top-number}
use Rattle.framing.proofs.put_edges.Goals as goal

pub put_edge-second-requires : goal.put_edge-second-requires
put_edge-second-requires c = let s = c in record { edge_value = left-number s.args.frame s.requires.frame_value; at_in_bounds = omega (arith, s.requires.in_bounds) }

pub put_edge-third-requires : goal.put_edge-third-requires
put_edge-third-requires c =
    let s = c in
    let one = c.put_edge-second in
    record { edge_value = bottom-number s.args.frame s.requires.frame_value; at_in_bounds = search rules }

pub put_edge-fourth-requires : goal.put_edge-fourth-requires
put_edge-fourth-requires c =
    let s = c in
    record { edge_value = right-number s.args.frame s.requires.frame_value; at_in_bounds = search rules }

pub put_edge-requires : goal.put_edge-requires
put_edge-requires c =
    let s = c in
    record { edge_value = top-number s.args.frame s.requires.frame_value; at_in_bounds = search rules }

pub returns : goal.returns
unfolding edges_line
returns c =
    let c4 = c in
    let c3 = c4 in
    let c2 = c3 in
    let c1 = c2 in
    let s = c1 in
    let n4 = c4.put_edge.ensures in
    let n3 = c3.put_edge-fourth.ensures in
    let n2 = c2.put_edge-third.ensures in
    let n1 = c1.put_edge-second.ensures in
    let rest3 = then-put n3.put (omega (arith, n3.value, n2.value, n1.value, s.requires.in_bounds)) n4.put in
    let rest2 = then-put n2.put (omega (arith, n2.value, n1.value, s.requires.in_bounds)) rest3 in record { put = then-put n1.put (omega (arith, n1.value, s.requires.in_bounds)) rest2; value = omega (arith, n4.value, n3.value, n2.value, n1.value) }
