-- The box of the first frame, as a mark. Assumes nothing.
use mathlib.Core.Path.{sym, ap, ◌∙◌}
use Rattle.plotter.specs.Plotter.{box_in, box_mark, box_refusal, first_frame, mark_of_code}
use Rattle.plotter.proofs.Facts.{edges-framed, refused-framed, marked, marked-nothing}
use Rattle.plotter.proofs.mark_code.Goals as goal

pub returns-in-Ok : goal.returns-in-Ok
unfolding mark_of_code first_frame
returns-in-Ok c =
    let k = c in
    let s = k.args in
    let p = edges-framed (box_refusal s.side s.code) (box_in s.side s.code) (sym c.in-Ok.is ∙ k.frame_first.ensures) in
    marked p.0 (ap box_mark p.1)

pub returns-in-Err : goal.returns-in-Err
unfolding mark_of_code first_frame
returns-in-Err c =
    let k = c in
    let s = k.args in
    let p = refused-framed (box_refusal s.side s.code) (box_in s.side s.code) (sym c.in-Err.is ∙ k.frame_first.ensures) in
    marked-nothing _ _ (box_mark (box_in s.side s.code)) p.0 p.1
