-- `settings::changed` meets its contract. Assumes nothing.
use borrow.Author.Tests.{not-true, not-false}
use Rattle.settings.proofs.Laws.{none_before, refused, accepted}
use Rattle.settings.proofs.changed.Goals as goal

pub returns-then-not-loaded : goal.returns-then-not-loaded
returns-then-not-loaded c = let a = c.args in none_before a.loaded a.change (not-true _ c.if-not-loaded.true)

pub returns-then-refusal-ne0 : goal.returns-then-refusal-ne0
returns-then-refusal-ne0 c =
    let b = c in
    let a = b.args in
    refused a.loaded a.change (not-false _ b.if-not-loaded.false) b.answer-answer.result b.answer-answer.ensures c.if-refusal-ne0.true

pub returns : goal.returns
returns c =
    let b = c in
    let a = b.args in
    accepted a.loaded a.change (not-false _ b.if-not-loaded.false) b.answer-answer.result b.answer-answer.ensures c.if-refusal-ne0.false
