-- `jgv_name_code` meets its contract. Assumes nothing.
use mathlib.Core.Path.{sym, ap, ◌∙◌}
use Rattle.logic.specs.Laws.Refusal.{stops}
use Rattle.cell.proofs.Laws.Cell.{is-arrangement}
use Rattle.entries.specs.Entries.{coded_answer, name_answer, code_answer}
use Rattle.jeguarivo.proofs.Laws.{code-refused, next-code}
use Rattle.jeguarivo.proofs.jgv_name_code.Goals as goal

pub returns-then-refusal-ne0 : goal.returns-then-refusal-ne0
unfolding name_answer
returns-then-refusal-ne0 c = code-refused _ (c.refusal-refusal.ensures ∙ sym (stops _ _ (λ z. c.if-refusal-ne0.true (c.refusal-refusal.ensures ∙ z)))) c.if-refusal-ne0.true

pub name_code-requires : goal.name_code-requires
name_code-requires c = is-arrangement (sym c.refusal-refusal.ensures ∙ c.if-refusal-ne0.false)

pub returns : goal.returns
unfolding name_answer code_answer
returns c =
    let t = c in
    c.coded_answer.ensures ∙ ap coded_answer c.name_code.ensures ∙ next-code _ _ (sym t.refusal-refusal.ensures ∙ t.if-refusal-ne0.false)
