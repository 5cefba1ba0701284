-- `asking::letter_from` meets its contract. Assumes nothing.
use native.Mathlib.Omega.{arith}
use mathlib.Core.Path.{sym}
use lib.ListN.{drop}
use borrow.Author.Tests.{lt-ltb, le-ltb}
use Rattle.reading.specs.Letters.{letter_count}
use Rattle.asking.proofs.Counts.{count-step, count_none}
use Rattle.asking.proofs.letter_from.Goals as goal

pub returns-then-letter_in-ne0 : goal.returns-then-letter_in-ne0
returns-then-letter_in-ne0 c =
    let l = c.loop-i in
    let a = c.args in
    let k = count-step a.text.now l.i (omega arith) in
    sym (lt-ltb 0 (letter_count (drop a.at a.text.now)) (omega (arith, l.invariant, k, c.letter_in.ensures, c.if-letter_in-ne0.true)))

pub loop-i-preserved : goal.loop-i-preserved
loop-i-preserved c =
    let l = c.loop-i in
    let a = c.args in
    omega (arith, l.invariant, count-step a.text.now l.i (omega arith), c.letter_in.ensures, c.if-letter_in-ne0.false)

pub returns : goal.returns
returns c =
    let l = c.loop-i in
    let a = c.args in
    sym (le-ltb 0 (letter_count (drop a.at a.text.now)) (omega (arith, l.invariant, count_none a.text.now l.i (omega arith))))
