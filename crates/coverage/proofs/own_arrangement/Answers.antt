-- `own_arrangement` meets its contract: it is the heading's where the text is accepted. Assumes nothing.
use mathlib.Core.Path.{sym, subst, ◌∙◌}
use Rattle.cell.specs.Cell.{IsArrangement}
use Rattle.reading.proofs.Laws.TextReading.{text-arranged}
use Rattle.reader.specs.Laws.Answer.{checked-arrangement, text-checked, text-refused}
use native.Mathlib.Omega.{arith}
use Rattle.coverage.proofs.own_arrangement.Goals as goal

pub returns-in-Ok : goal.returns-in-Ok
returns-in-Ok c =
    let t = c.args.text.now in
    let r = text-checked t (sym c.in-Ok.is ∙ c.check.ensures) in
    record { arranged = subst IsArrangement (sym (checked-arrangement r)) (text-arranged t r.text); own = λ _. checked-arrangement r }

pub returns-in-Err : goal.returns-in-Err
returns-in-Err c =
    let t = c.args.text.now in
    let u = text-refused t (sym c.in-Err.is ∙ c.check.ensures) in
    record { arranged = record { northern = omega arith; southern = omega arith }; own = λ z. absurd (u.some (sym u.refusal ∙ z)) }
