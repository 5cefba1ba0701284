-- `sheet::has_record` meets its contract. Assumes nothing.
use Rattle.sheet.proofs.Bytes.{too_short, no_code, no-up, no-right, no-down, by_left}
use Rattle.sheet.proofs.has_record.Goals as goal

pub returns-then-sheet-at-lt40 : goal.returns-then-sheet-at-lt40
returns-then-sheet-at-lt40 c = let a = c.args in too_short a.sheet.now a.at a.wanted c.if-sheet-at-lt40.true

pub returns-then-not-has_number : goal.returns-then-not-has_number
returns-then-not-has_number c = let a = c.args in no_code a.sheet.now a.at a.wanted c.has_number.ensures (c.if-not-has_number.true)

pub returns-then-not-has_number-2 : goal.returns-then-not-has_number-2
returns-then-not-has_number-2 c =
    let a = c.args in
    no-up a.sheet.now a.at a.wanted c.has_number.ensures (c.if-not-has_number.false)
    c.has_number-2.ensures (c.if-not-has_number-2.true)

pub returns-then-not-has_number-3 : goal.returns-then-not-has_number-3
returns-then-not-has_number-3 c =
    let a = c.args in
    no-right a.sheet.now a.at a.wanted c.has_number.ensures (c.if-not-has_number.false)
    c.has_number-2.ensures (c.if-not-has_number-2.false) c.has_number-3.ensures (c.if-not-has_number-3.true)

pub returns-then-not-has_number-4 : goal.returns-then-not-has_number-4
returns-then-not-has_number-4 c =
    let a = c.args in
    no-down a.sheet.now a.at a.wanted c.has_number.ensures
    (c.if-not-has_number.false) c.has_number-2.ensures
    (c.if-not-has_number-2.false) c.has_number-3.ensures
    (c.if-not-has_number-3.false) c.has_number-4.ensures (c.if-not-has_number-4.true)

pub returns : goal.returns
returns c =
    let a = c.args in
    by_left a.sheet.now a.at a.wanted c.has_number.ensures
    (c.if-not-has_number.false) c.has_number-2.ensures
    (c.if-not-has_number-2.false) c.has_number-3.ensures
    (c.if-not-has_number-3.false) c.has_number-4.ensures (c.if-not-has_number-4.false) c.has_number-5.ensures
