-- `may_open` meets its contract: each return is the case that the test before it picks. Assumes nothing.
use mathlib.Core.Path.{ap}
use mathlib.Core.Bool.{not}
use Prim.Native.Nat.{ℕ}
use lib.Dec.{eqb}
use borrow.Author.Tests.{not-true, not-false}
use Rattle.place.specs.Internal.Stack.{may_open}
use Rattle.place.proofs.may_open.Goals as goal

pub returns-then-not-named : goal.returns-then-not-named
unfolding may_open
returns-then-not-named c = rw (not-true c.args.named c.if-not-named.true-raw)

pub returns : goal.returns
unfolding may_open
returns c = rw (not-false c.args.named c.if-not-named.false-raw) (ap (λ (x : ℕ). not (eqb x 0)) c.under.ensures)
