-- `jgv_summary_ask` meets its contract. Assumes nothing.
use mathlib.Core.Path.{sym, ap, ◌∙◌}
use Rattle.entries.specs.Summary.{question_numbers, summary_asked}
use Rattle.jeguarivo.proofs.jgv_summary_ask.Goals as goal

pub returns-in-Ok : goal.returns-in-Ok
unfolding summary_asked
returns-in-Ok c =
    (λ i. record { refusal = 0; covered = c.as_number.ensures i })
    ∙ sym (ap question_numbers c.in-Ok.is) ∙ ap question_numbers c.question.ensures

pub returns-in-Err : goal.returns-in-Err
unfolding summary_asked
returns-in-Err c = sym (ap question_numbers c.in-Err.is) ∙ ap question_numbers c.question.ensures
