-- `districts::put_question` meets its contract: the name first, then the text, then its counters. Assumes nothing.
use mathlib.Core.Path.{sym, ap, subst, ◌∙◌}
use Prim.Native.Nat.{ℕ}
use Rattle.cell.specs.Cell.{IsArrangement}
use Rattle.reader.specs.Check.{place_with}
use Rattle.summary.specs.Summary.{zeros}
use Rattle.summary.proofs.Laws.Answer.{kept-text, refused-text, refused-place}
use Rattle.districts.specs.Question.{kept_arrangement}
use Rattle.districts.proofs.Lines.{put_as, kept-counters}
use Rattle.districts.proofs.Question.{kept-arranged, stopped, no_name, no-name-place, name-place, no_text, answered}
use Rattle.districts.proofs.put_question.Goals as goal

pub name_code-requires : goal.name_code-requires
name_code-requires c = subst IsArrangement (sym c.kept_arrangement-kept.ensures) (kept-arranged _ c.summarize-summarized.ensures.value)

pub returns-in-Err : goal.returns-in-Err
returns-in-Err c =
    let q = c.refused.ensures in
    let a = c.args in
    let u = no_name a.text.now a.name.now c.kept_arrangement-kept.result c.name_code.ensures c.in-Err.is in
    let v = stopped a.text.now a.name.now u.0 u.1 in
    let p = no-name-place a.text.now a.name.now c.kept_arrangement-kept.result c.name_code.ensures c.in-Err.is in record { put = put_as v.0 q.put; refusal_value = (q.refusal_value.0 ∙ v.1, q.refusal_value.1 ∙ p, q.refusal_value.2) }

pub returns-in-Err-summarized : goal.returns-in-Err-summarized
returns-in-Err-summarized c =
    let q = c.refused-in-Err-summarized.ensures in
    let a = c.args in
    let s = sym c.in-Err-summarized.is ∙ c.summarize-summarized.ensures.value in
    let w = refused-text a.text.now s in
    let u = no_text a.text.now a.name.now c.kept_arrangement-kept.result c.name_code.ensures c.in-Ok.is w.0 w.1 in
    let v = stopped a.text.now a.name.now u.0 u.1 in
    let p = refused-place a.text.now s ∙ name-place a.text.now a.name.now c.kept_arrangement-kept.result c.name_code.ensures c.in-Ok.is in record { put = put_as v.0 q.put; refusal_value = (q.refusal_value.0 ∙ v.1, q.refusal_value.1 ∙ p, q.refusal_value.2) }

pub returns-in-Ok-summarized : goal.returns-in-Ok-summarized
returns-in-Ok-summarized c =
    let p = c.put_answer.ensures in
    let a = c.args in
    let g = c.in-Ok-summarized.is in
    let r = kept-text a.text.now (sym g ∙ c.summarize-summarized.ensures.value) in
    let j = c.kept_arrangement-kept.ensures ∙ ap kept_arrangement g ∙ r.1 in
    let x =
    answered a.text.now a.name.now c.kept_arrangement-kept.result c.name_code.ensures c.in-Ok.is r.0 j
    (kept-counters a.text.now zeros c.summarize-summarized.ensures.counters_after r.0) c.question.ensures in
    let none = sym (ap (λ (q : ℕ). place_with q a.text.now) r.0) in
    let there = name-place a.text.now a.name.now c.kept_arrangement-kept.result c.name_code.ensures c.in-Ok.is in record { put = put_as x.0 p.put; refusal_value = (p.refusal_value.0 ∙ x.1, p.refusal_value.1 ∙ none ∙ there, p.refusal_value.2) }
