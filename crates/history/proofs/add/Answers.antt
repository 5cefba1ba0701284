-- `history::add` meets its contract. Assumes nothing.
use mathlib.Core.Path.{ap}
use borrow.Author.Tests.{le-leb, lt-leb}
use mathlib.Core.Bool.{Bool}
use Rattle.logic.specs.Refusal.{refuse}
use Rattle.history.specs.History.{next, added}
use Rattle.history.proofs.Facts.{refused, accepted}
use native.Mathlib.Omega.{arith}
use Rattle.history.proofs.add.Goals as goal

pub returns-then-newest-ge65535 : goal.returns-then-newest-ge65535
unfolding added
returns-then-newest-ge65535 c =
    let a = c.args in
    refused (next a.history a.settings) a.history (ap (λ (b : Bool). refuse b 17) (le-leb 65535 a.history.newest c.if-newest-ge65535.true)) (omega arith)

pub returns : goal.returns
unfolding added
returns c =
    let a = c.args in
    accepted (next a.history a.settings) a.history (ap (λ (b : Bool). refuse b 17) (lt-leb 65535 a.history.newest c.if-newest-ge65535.false))
