-- `locate::part_code` meets its contract. Assumes nothing.
use native.Mathlib.Omega.{arith}
use Rattle.locate.proofs.Internal.PartLaws.{whole_code}
use Rattle.locate.proofs.part_code.Goals as goal

pub returns : goal.returns
returns c =
    let n = c in
    let s = n in
    let a = s.args in
    whole_code a.arrangement a.face a.resolution a.row a.column (omega (arith, s.requires.face_bound.1)) n.ending-ending.ensures.0 c.code_by.ensures
