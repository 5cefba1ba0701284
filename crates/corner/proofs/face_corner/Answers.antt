-- `corner::face_corner` meets its contract. Assumes nothing.
use mathlib.Core.Path.{sym, ap, ◌∙◌}
use mathlib.Core.Bool.{Bool, ◌&&◌}
use Rattle.cell.specs.Neighbour.{leaves}
use Rattle.corner.specs.List.{clockwise, face_corner}
use Rattle.corner.proofs.face_corner.Goals as goal

pub returns-then-leaves : goal.returns-then-leaves
unfolding face_corner
returns-then-leaves c =
    let a = c.args in
    c.leaves-then-leaves.ensures ∙ sym (ap (λ (t : Bool). t && leaves a.cell (clockwise a.direction)) (sym c.leaves.ensures ∙ c.if-leaves.true))

pub returns : goal.returns
unfolding face_corner
returns c =
    let a = c.args in
    sym (ap (λ (t : Bool). t && leaves a.cell (clockwise a.direction)) (sym c.leaves.ensures ∙ c.if-leaves.false))
