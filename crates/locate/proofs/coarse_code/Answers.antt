-- `locate::coarse_code` meets its contract: what stands behind the first digits is cut. Assumes nothing.
use Prim.Native.Nat.{◌-◌, ◌*◌, ◌/◌, ◌<◌}
use native.Mathlib.Omega.{arith}
use Rattle.ternary.proofs.Laws.Weave.{weave-small}
use Rattle.ternary.proofs.Laws.Powers.{nine-pos}
use Rattle.locate.proofs.Internal.PartLaws.{cut-code}
use Rattle.locate.proofs.coarse_code.Goals as goal
use Rattle.locate.proofs.coarse_code.Goals.{After-code_by-finest}

room : (c : After-code_by-finest) → c.code_by-finest.result < 52708129816230144
room c =
    let a = c.args in
    let e = c.code_by-finest.ensures in
    let h = c.ending-ending.ensures.1 in
    let w = weave-small 15 (a.row * 14348907 / 72057594037927936) (a.column * 14348907 / 72057594037927936) in
    omega arith

pub nonzero_rem-cut : goal.nonzero_rem-cut
nonzero_rem-cut c = rw c.nine_power-step.ensures (nine-pos (15 - c.args.resolution))

pub overflow_add-result : goal.overflow_add-result
overflow_add-result c = let h = room (goal.at.overflow_add-result c).After-code_by-finest in omega arith

pub returns : goal.returns
returns c =
    let n = c in
    let s = n in
    let a = s.args in
    cut-code a.arrangement a.face a.resolution a.row a.column s.requires.face_bound.1 c.ending-ending.ensures.1 n.nine_power-step.ensures
    c.ending-ending.ensures.0 c.code_by-finest.ensures
