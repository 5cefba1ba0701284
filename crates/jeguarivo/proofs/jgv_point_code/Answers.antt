-- `jgv_point_code` meets its contract. Assumes nothing.
use Rattle.std.specs.Prelude.{Result, ℕ}
use Rattle.cell.specs.declared.Cell.{Cell}
use mathlib.Core.Path.{ap, ap₂, ◌∙◌}
use Rattle.signed.specs.Laws.Sign.{back}
use Rattle.code.specs.Code.{found_code}
use Rattle.code.proofs.Laws.Code.{found-placed}
use Rattle.plane.proofs.Laws.Plane.{point-allowed}
use Rattle.entries.specs.Entries.{arrangement, coded_answer, point_code}
use Rattle.jeguarivo.proofs.Laws.{found-code}
use Rattle.jeguarivo.proofs.jgv_point_code.Goals as goal

pub found_answer-requires : goal.found_answer-requires
found_answer-requires c = rw c.point_cell.ensures (found-placed _ _ (point-allowed _ _ _ _))

pub returns : goal.returns
unfolding point_code
returns c =
    let s = c in
    c.found_answer.ensures ∙ ap (λ (f : Result Cell ℕ). coded_answer (found_code (arrangement s.args.n s.args.s) f)) c.point_cell.ensures ∙ found-code _ _ _
    ∙ ap₂ (point_code s.args.n s.args.s s.args.resolution) (back s.ranges.x) (back s.ranges.y)
