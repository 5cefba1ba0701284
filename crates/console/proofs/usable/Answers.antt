-- `console::usable` meets its contract. Assumes nothing.
use Rattle.console.proofs.Judged.{is-refused, is-accepted}
use Rattle.console.proofs.usable.Goals as goal

pub returns-then-number-ne0 : goal.returns-then-number-ne0
returns-then-number-ne0 c =
    is-refused _ c.refusal-number.result c.in_ok-setting.was
    c.refusal-number.ensures c.if-number-ne0.true

pub returns : goal.returns
returns c = is-accepted _ c.refusal-number.result c.in_ok-setting.was c.refusal-number.ensures c.if-number-ne0.false
