-- `report::put_answer` meets its contract: a name or a number, and the line feed. Assumes nothing.
use mathlib.Core.Path.{sym, ◌∙◌}
use Rattle.report.proofs.Facts.{put_as, answer-name, answer-number}
use native.Mathlib.Omega.{arith}
use Rattle.report.proofs.put_answer.Goals as goal

pub returns-in-Ok : goal.returns-in-Ok
returns-in-Ok c =
    let l = c in
    let a = l.args in
    let q = c.put_name_and.ensures in record { put = put_as (answer-name a.setting a.line.now _ (sym l.line_code.ensures ∙ c.in-Ok.is)) q.put; upper_bound = omega (arith, q.upper_bound) }

pub returns-in-Err : goal.returns-in-Err
returns-in-Err c =
    let l = c in
    let a = l.args in
    let q = c.put_number.ensures in record { put = put_as (answer-number a.setting a.line.now _ (sym l.line_code.ensures ∙ c.in-Err.is)) q.put; upper_bound = q.upper_bound }
