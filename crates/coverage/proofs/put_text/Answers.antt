-- `put_text` meets its contract: the text of the codes, or its refusal. Assumes nothing.
use lib.ListN.{take}
use Rattle.report.proofs.Laws.Text.{text-fits, text-put, text-refused}
use native.Mathlib.Omega.{arith}
use Rattle.coverage.proofs.put_text.Goals as goal

pub returns-in-Ok : goal.returns-in-Ok
returns-in-Ok c =
    let a = c.args in
    let f = a.form in
    let w = c.write in
    let codes = take a.count a.codes.now in
    let fits = text-fits f.version f.depth f.arrangement codes a.text.now w.new.text w.ensures.value _ c.in-Ok.is in
    (text-put f.version f.depth f.arrangement codes a.text.now _ w.ensures.value _ c.in-Ok.is w.ensures.text_after, omega (arith, fits))

pub returns-in-Err : goal.returns-in-Err
returns-in-Err c =
    let a = c.args in
    let f = a.form in
    let w = c.write in
    text-refused f.version f.depth f.arrangement (take a.count a.codes.now) a.text.now w.new.text w.ensures.value _
    c.in-Err.is
