-- `history::read` meets its contract. Assumes nothing.
use mathlib.Core.Path.{sym, ◌∙◌}
use Rattle.history.specs.History.{read_of}
use Rattle.history.proofs.Facts.{unread, is_read}
use Rattle.history.proofs.read.Goals as goal

pub returns-then-not-is_kept : goal.returns-then-not-is_kept
unfolding read_of
returns-then-not-is_kept c =
    let a = c.args in
    unread a.history a.revision (sym c.is_kept.ensures ∙ c.if-not-is_kept.true)

pub returns : goal.returns
unfolding read_of
returns c =
    let a = c.args in
    is_read a.history a.revision (sym c.is_kept.ensures ∙ c.if-not-is_kept.false)
