-- `jgv_mark_point` meets its contract. Assumes nothing.
use mathlib.Core.Path.{ap, ap₂, ◌∙◌}
use Rattle.signed.specs.Laws.Sign.{back}
use Rattle.entries.specs.Plotter.{mark_numbers, point_marked}
use Rattle.jeguarivo.proofs.jgv_mark_point.Goals as goal

pub returns : goal.returns
unfolding point_marked
returns c =
    let s = c in
    c.mark_answer.ensures ∙ ap mark_numbers c.mark_point.ensures
    ∙ ap₂ (point_marked s.args.side s.args.n s.args.s) (back s.ranges.x) (back s.ranges.y)
