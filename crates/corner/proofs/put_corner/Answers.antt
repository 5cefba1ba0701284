-- `corner::put_corner` meets its contract: there is room, so no code is refused. Assumes nothing.
use mathlib.Core.Path.{◌≡◌, sym, ap, ◌∙◌}
use mathlib.Core.Bool.{false}
use Rattle.code.specs.Code.{code_of}
use Rattle.corner.specs.List.{face_corner, across_corner}
use Rattle.corner.proofs.Internal.Across.{across-cell}
use Rattle.corner.proofs.Facts.{put-none, put_one, put-never}
use Rattle.corner.proofs.put_corner.Goals as goal
use Rattle.corner.proofs.put_corner.Goals.{After-code_of-code, Else-face_corner}

-- four cells meet at the corner, and the code is that of the fourth
wide : (c : Else-face_corner) → let a = c.args in face_corner a.cell a.direction ≡ false
wide c = sym c.face_corner.ensures ∙ c.if-face_corner.false

fourth : (c : After-code_of-code) → let a = c.args in c.code_of-code.result ≡ code_of a.arrangement (across_corner a.arrangement a.cell a.direction)
fourth c = c.code_of-code.ensures ∙ ap (code_of c.args.arrangement) c.across_corner-across.ensures

pub returns-then-face_corner : goal.returns-then-face_corner
returns-then-face_corner c =
    let s = c in
    let a = s.args in let r = put-none a.arrangement a.cell a.direction a.codes.now a.count s.requires.held.fits (sym c.face_corner.ensures ∙ c.if-face_corner.true) in record { value = r.0; codes_after = r.1 }

pub code_of-code-requires : goal.code_of-code-requires
code_of-code-requires c =
    let s = c in
    record { arrangement = s.requires.arrangement; cell = rw c.across_corner-across.ensures (across-cell s.requires.arrangement s.requires.cell s.args.direction s.requires.direction_bound (wide (goal.at.code_of-code-requires c).Else-face_corner)) }

pub returns-in-Ok : goal.returns-in-Ok
returns-in-Ok c =
    let d = c in
    let s = d in
    let a = s.args in
    let n = c.add in let r = put_one a.arrangement a.cell a.direction a.codes.now a.count (wide (goal.at.returns-in-Ok c).Else-face_corner) s.requires.codes_in_bounds _ _
    (rw (fourth (goal.at.returns-in-Ok c).After-code_of-code) at (sym c.in-Ok.is ∙ n.ensures.value)) (rw (fourth (goal.at.returns-in-Ok c).After-code_of-code) at n.ensures.codes_after) in record { value = r.0; codes_after = r.1 }

pub returns-in-Err : goal.returns-in-Err
returns-in-Err c =
    let d = c in
    let s = d in
    let a = s.args in
    let n = c.add in absurd
    (put-never a.arrangement a.cell a.direction a.codes.now a.count (wide (goal.at.returns-in-Err c).Else-face_corner) s.requires.codes_in_bounds _
    (rw (fourth (goal.at.returns-in-Err c).After-code_of-code) at (sym c.in-Err.is ∙ n.ensures.value)))
