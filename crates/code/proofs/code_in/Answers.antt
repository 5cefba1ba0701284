-- `code::code_in` meets its contract. Assumes nothing.
use mathlib.Core.Path.{ap, ◌∙◌}
use Prim.Native.Nat.{ℕ, ◌+◌, ◌*◌, ◌/◌, ◌<◌}
use native.Mathlib.Omega.{arith}
use Rattle.ternary.specs.Weave.{weave}
use Rattle.code.proofs.Laws.{part-below, part-is, cell-fits, ended}
use Rattle.code.proofs.code_in.Goals as goal
use Rattle.code.proofs.code_in.Goals.{After-ending-ending}

-- the first parts of the row and of the column
row-part : (c : After-ending-ending) → c.args.row * (5021817623 * c.power-cell.result) < 72057594037927936
row-part c =
    let s = c in
    let p = s.requires.face_bound in
    rw c.power-cell.ensures (part-below s.args.resolution s.args.row p.1 p.2)

column-part : (c : After-ending-ending) → c.args.column * (5021817623 * c.power-cell.result) < 72057594037927936
column-part c =
    let s = c in
    let p = s.requires.face_bound in
    rw c.power-cell.ensures (part-below s.args.resolution s.args.column p.1 p.3)

pub overflow_mul-cell : goal.overflow_mul-cell
overflow_mul-cell c = let e = c.power-cell.ensures in let f = cell-fits c.args.resolution c.requires.face_bound.1 in omega arith

pub overflow_mul-row : goal.overflow_mul-row
overflow_mul-row c = let h = row-part (goal.at.overflow_mul-row c).After-ending-ending in omega arith

pub overflow_mul-column : goal.overflow_mul-column
overflow_mul-column c = let h = column-part (goal.at.overflow_mul-column c).After-ending-ending in omega arith

pub code_by-requires : goal.code_by-requires
code_by-requires c = (c.ending-ending.ensures.1, c.requires.face_bound.0, row-part (goal.at.code_by-requires c).After-ending-ending, column-part (goal.at.code_by-requires c).After-ending-ending)

pub returns : goal.returns
returns c =
    let s = c in
    let a = s.args in
    let p = s.requires.face_bound in
    let m = 5021817623 * c.power-cell.result in
    let w = c.power-cell.ensures in
    let u = ap (λ (x : ℕ). a.row * (5021817623 * x) * 14348907 / 72057594037927936) w ∙ part-is a.resolution a.row p.1 p.2 in
    let v = ap (λ (x : ℕ). a.column * (5021817623 * x) * 14348907 / 72057594037927936) w ∙ part-is a.resolution a.column p.1 p.3 in
    c.code_by.ensures
    ∙ ap (λ (x : ℕ). weave 15 (a.row * m * 14348907 / 72057594037927936) (a.column * m * 14348907 / 72057594037927936) * 256 + (a.face * 52708129816230144 + x)) c.ending-ending.ensures.0
    ∙ ended a.arrangement a.face a.resolution a.row a.column (a.row * m) (a.column * m) p.1 u v
