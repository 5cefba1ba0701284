-- Each case of the whole number. Assumes nothing.
use mathlib.Core.Path.{sym, ◌∙◌}
use native.Mathlib.Omega.{arith}
use Rattle.decimal.proofs.Places.{long-whole, short-whole}
use Rattle.decimal.proofs.whole_fraction.Goals as goal

pub returns-then-text-gt15 : goal.returns-then-text-gt15
returns-then-text-gt15 c = long-whole c.args.text.now c.if-text-gt15.true

pub returns-in-Some : goal.returns-in-Some
returns-in-Some c =
    let k = c in
    short-whole k.args.text.now (omega (arith, k.if-text-gt15.false)) (sym c.in-Some.is ∙ k.whole_in.ensures)

pub returns-in-None : goal.returns-in-None
returns-in-None c =
    let k = c in
    short-whole k.args.text.now (omega (arith, k.if-text-gt15.false)) (sym c.in-None.is ∙ k.whole_in.ensures)
