-- 19 of the side comes first, then what the cell of the point is refused with. Assumes nothing.
use Rattle.std.specs.Prelude.{Ok}
use mathlib.Core.Path.{◌≡◌, refl, sym, ap, ap₂, ◌∙◌}
use lib.IntN.{ℤ}
use mir.Syntax.{w64}
use mir.Val.{to_z, of_z}
use Rattle.cell.specs.declared.Arrangement.{Arrangement}
use Rattle.cell.specs.declared.Cell.{Cell}
use Rattle.cell.proofs.Laws.Found.{found_at, found-refused}
use Rattle.plane.specs.Plane.{point_refusal, point_cell}
use Rattle.signed.specs.Laws.Sign.{back}
use Rattle.metres.specs.Metres.{metres_of}
use Rattle.plotter.specs.declared.Mark.TheVariants.{Point}
use Rattle.plotter.specs.Plotter.{point_mark, mark_of_point}
use Rattle.plotter.proofs.Facts.{read_small, side-refused, side-passes, marked, marked-nothing, nineteen, point-within}
use Rattle.plotter.proofs.mark_point.Goals as goal
use Rattle.plotter.proofs.mark_point.Goals.{After-point_cell}

-- the point is not refused
abbrev a : (k : After-point_cell) → Arrangement
a k = k.args.arrangement

abbrev x : (k : After-point_cell) → ℤ
x k = k.args.x

abbrev y : (k : After-point_cell) → ℤ
y k = k.args.y

same : (k : After-point_cell) → point_refusal (a k) 0 (to_z w64 (of_z w64 (x k))) (to_z w64 (of_z w64 (y k))) ≡ point_refusal (a k) 0 (x k) (y k)
same k = ap₂ (point_refusal (a k) 0) (back k.ranges.x) (back k.ranges.y)

passed : (k : After-point_cell) → {cell : Cell} → k.point_cell.result ≡ Ok cell → point_refusal (a k) 0 (x k) (y k) ≡ 0
passed k {cell} h =
    sym (same k) ∙ (found_at (point_refusal (a k) 0 (to_z w64 (of_z w64 (x k))) (to_z w64 (of_z w64 (y k)))) (point_cell (a k) 0 (to_z w64 (of_z w64 (x k))) (to_z w64 (of_z w64 (y k)))) cell (sym h ∙ k.point_cell.ensures)).0

pub returns-then-not-is_side : goal.returns-then-not-is_side
unfolding mark_of_point
returns-then-not-is_side c =
    let s = c.args in
    let e = side-refused s.side (point_refusal s.arrangement 0 s.x s.y) (sym c.is_side.ensures ∙ c.if-not-is_side.true) in
    marked-nothing 19 _ (point_mark s.side s.x s.y) e (nineteen e)

pub metres_of-requires : goal.metres_of-requires
metres_of-requires c =
    let k = c in
    let s = k.args in
    read_small {x = s.x} {z = s.x} refl (point-within s.arrangement s.x s.y (passed (goal.at.metres_of-requires c).After-point_cell c.in-Ok.is)).0

pub metres_of-requires-in-Ok : goal.metres_of-requires-in-Ok
metres_of-requires-in-Ok c =
    let k = c in
    let s = k.args in
    read_small {x = s.y} {z = s.y} refl (point-within s.arrangement s.x s.y (passed (goal.at.metres_of-requires-in-Ok c).After-point_cell c.in-Ok.is)).1

pub returns-in-Ok : goal.returns-in-Ok
unfolding mark_of_point
returns-in-Ok c =
    let k = c in
    let b = k in
    let s = b.args in
    let i = side-passes s.side (point_refusal s.arrangement 0 s.x s.y) (sym k.is_side.ensures ∙ k.if-not-is_side.false) in
    marked (i ∙ passed (goal.at.returns-in-Ok c).After-point_cell c.in-Ok.is)
    (ap₂ Point (c.metres_of.ensures ∙ ap (λ (z : ℤ). metres_of z s.side) (back b.ranges.x)) (c.metres_of-in-Ok.ensures ∙ ap (λ (z : ℤ). metres_of z s.side) (back b.ranges.y)))

pub returns-in-Err : goal.returns-in-Err
unfolding mark_of_point
returns-in-Err c =
    let k = c in
    let s = k.args in
    let i = side-passes s.side (point_refusal s.arrangement 0 s.x s.y) (sym k.is_side.ensures ∙ k.if-not-is_side.false) in
    let p = found-refused _ (point_cell s.arrangement 0 (to_z w64 (of_z w64 s.x)) (to_z w64 (of_z w64 s.y))) _ (sym c.in-Err.is ∙ k.point_cell.ensures) in
    let e = p.0 ∙ same (goal.at.returns-in-Err c).After-point_cell ∙ sym i in
    marked-nothing _ _ (point_mark s.side s.x s.y) e (λ z. p.1 (same (goal.at.returns-in-Err c).After-point_cell ∙ sym i ∙ z))
