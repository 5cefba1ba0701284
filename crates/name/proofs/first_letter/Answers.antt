-- `name::first_letter` meets its contract. Assumes nothing.
use mathlib.Core.Path.{sym, ap, ◌∙◌}
use mathlib.Core.Bool.{Bool, ◌&&◌}
use native.Mathlib.Omega.{arith}
use lib.Dec.{leb}
use lib.ListN.{get_or}
use borrow.Author.Tests.{lt-leb, le-leb}
use Rattle.name.proofs.Laws.{no-letter, letter_at}
use Rattle.name.proofs.first_letter.Goals as goal

pub returns-then-name-eq0 : goal.returns-then-name-eq0
returns-then-name-eq0 c = sym (no-letter c.args.name.now c.if-name-eq0.true)

pub returns-then-letter-lt78 : goal.returns-then-letter-lt78
returns-then-letter-lt78 c =
    let s = c.args.name.now in
    sym (letter_at s (omega arith) ∙ ap (λ (t : Bool). t && leb (get_or s 0 0) 83) (lt-leb 78 (get_or s 0 0) c.if-letter-lt78.true))

pub returns : goal.returns
returns c =
    let s = c.args.name.now in
    sym (letter_at s (omega arith) ∙ ap (λ (t : Bool). t && leb (get_or s 0 0) 83) (le-leb 78 (get_or s 0 0) c.if-letter-lt78.false))
