-- `districts::put_answer` meets its contract: each case has its line. Assumes nothing.
use mathlib.Core.Path.{sym, ap, ◌∙◌}
use Rattle.districts.specs.Question.{question_line, refusal_of}
use Rattle.districts.proofs.Lines.{put_as}
use Rattle.districts.proofs.put_answer.Goals as goal

pub returns-in-Err : goal.returns-in-Err
unfolding question_line
returns-in-Err c =
    let q = c.refused.ensures in
    let g = c.in-Err.is in
    record { put = put_as (ap question_line (sym g)) q.put; refusal_value = (q.refusal_value.0 ∙ sym (ap refusal_of g), q.refusal_value.1, q.refusal_value.2) }
