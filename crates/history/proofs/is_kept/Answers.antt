-- `history::is_kept` meets its contract. Assumes nothing.
use Rattle.history.proofs.Facts.{not_made, made}
use mathlib.Core.Path.{sym}
use Rattle.history.proofs.is_kept.Goals as goal

pub returns-then-revision-newest : goal.returns-then-revision-newest
returns-then-revision-newest c =
    sym (not_made _ _ c.if-revision-newest.true)

pub returns : goal.returns
returns c =
    made _ _ c.if-revision-newest.false
