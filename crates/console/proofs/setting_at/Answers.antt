-- `console::setting_at` meets its contract. Assumes nothing.
use Rattle.console.proofs.Kept.{not-kept, is-kept}
use Rattle.console.proofs.setting_at.Goals as goal

pub returns-then-answer-ne0 : goal.returns-then-answer-ne0
returns-then-answer-ne0 c =
    let a = c.args in
    not-kept a.history a.revision c.read-answer.result c.read-answer.ensures c.if-answer-ne0.true

pub returns : goal.returns
returns c =
    let a = c.args in
    is-kept a.history a.revision c.read-answer.result c.read-answer.ensures c.if-answer-ne0.false
