-- `decimal::number_in` meets its contract, by the first byte. Assumes nothing.
use mathlib.Core.Path.{◌≡◌, ap, ◌∙◌}
use mathlib.Core.Bool.{true, false}
use native.Mathlib.Omega.{arith}
use lib.ListN.{drop}
use Rattle.decimal.specs.Decimal.{whole_in, signed_number}
use Rattle.decimal.proofs.Laws.{from_on, no_number, minus-in, plain_in}
use Rattle.decimal.proofs.number_in.Goals as goal

pub returns-then-text-eq0 : goal.returns-then-text-eq0
returns-then-text-eq0 c = no_number c.args.text.now c.if-text-eq0.true

pub returns-then-text-eq45 : goal.returns-then-text-eq45
returns-then-text-eq45 c =
    let s = c.args.text.now in
    let w : c.whole_in.result ≡ whole_in (drop 1 s) = c.whole_in.ensures ∙ ap whole_in (from_on 1 s) in
    c.number_of.ensures ∙ ap (signed_number true) w ∙ minus-in s (omega arith) c.if-text-eq45.true

pub returns : goal.returns
returns c =
    let s = c.args.text.now in
    c.number_of-2.ensures ∙ ap (signed_number false) c.whole_in-2.ensures ∙ plain_in s (omega arith) c.if-text-eq45.false
