-- `sheet::has_number` meets its contract. Assumes nothing.
use mathlib.Core.Path.{sym, ◌∙◌}
use Rattle.sheet.proofs.Bytes.{past_end, other_byte, same_byte, no_bytes}
use native.Mathlib.Omega.{arith}
use Rattle.sheet.proofs.has_number.Goals as goal

pub returns-then-i-sheet : goal.returns-then-i-sheet
returns-then-i-sheet c =
    let l = c.loop-n in
    sym (l.invariant ∙ past_end c.args.sheet.now l.i l.n l.rest c.loop-n-test.true c.if-i-sheet.true)

pub returns-then-sheet-i : goal.returns-then-sheet-i
returns-then-sheet-i c =
    let b = c in
    let l = b.loop-n in
    sym (l.invariant ∙ other_byte b.args.sheet.now l.i l.n l.rest b.loop-n-test.true c.if-i-sheet.false c.if-sheet-i.true)

pub loop-n-preserved : goal.loop-n-preserved
loop-n-preserved c =
    let b = c in
    let l = b.loop-n in
    l.invariant ∙ same_byte b.args.sheet.now l.i l.n l.rest b.loop-n-test.true c.if-i-sheet.false c.if-sheet-i.false

pub returns : goal.returns
returns c =
    let l = c.loop-n in
    sym (l.invariant ∙ no_bytes _ l.n l.rest (omega arith))
