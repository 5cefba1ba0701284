-- `decimal::number_of` meets its contract: 0 - n is n with a minus sign. Assumes nothing.
use mathlib.Core.Path.{sym, ◌∙◌}
use mathlib.Core.Bool.{true, false}
use native.Mathlib.Omega.{arith}
use Rattle.signed.specs.Laws.Sign.{back_as, neg-sub}
use Rattle.decimal.proofs.Laws.{no_size, large, small}
use Rattle.decimal.proofs.number_of.Goals as goal

pub returns-in_err-n : goal.returns-in_err-n
returns-in_err-n c =
    rw c.from_residual.ensures
    (no_size c.args.minus c.in_err-n.was)

pub returns-then-n-gt9223372036854775807 : goal.returns-then-n-gt9223372036854775807
returns-then-n-gt9223372036854775807 c = large c.args.minus c.in_ok-n.n c.in_ok-n.was (omega arith)

pub returns-then-minus : goal.returns-then-minus
returns-then-minus c =
    small true c.in_ok-n.n c.if-minus.true c.in_ok-n.was (omega arith) (back_as c.difference.type_inv (c.difference.ensures ∙ sym (neg-sub c.in_ok-n.n)))

pub returns : goal.returns
returns c =
    small false c.in_ok-n.n c.if-minus.false c.in_ok-n.was (omega arith) (back_as c.as_signed.type_inv c.as_signed.ensures)
