-- `history::change` meets its contract. Assumes nothing.
use mathlib.Core.Path.{sym, ap, ◌∙◌}
use Prim.Native.Nat.{ℕ}
use Rattle.logic.specs.Laws.Refusal.{passes}
use Rattle.history.specs.Settings.{next_refusal}
use Rattle.history.specs.History.{answer, next, added, changed}
use Rattle.history.proofs.Facts.{refused, at_once, stale, latest}
use native.Mathlib.Omega.{arith}
use Rattle.history.proofs.change.Goals as goal

pub returns-then-refusal-ne0 : goal.returns-then-refusal-ne0
unfolding changed
returns-then-refusal-ne0 c =
    let a = c.args in
    refused (next a.history a.settings) a.history
    (at_once (next_refusal a.history.newest a.from) c.refusal-refusal.ensures c.if-refusal-ne0.true) c.if-refusal-ne0.true

pub returns-then-from-newest : goal.returns-then-from-newest
unfolding changed
returns-then-from-newest c =
    let a = c.args in
    refused (next a.history a.settings) a.history
    (passes (next_refusal a.history.newest a.from) (sym c.refusal-refusal.ensures ∙ c.if-refusal-ne0.false) ∙ stale a.history.newest a.from c.if-from-newest.true)
    (omega arith)

pub returns : goal.returns
unfolding changed added
returns c =
    let a = c.args in
    c.add.ensures
    ∙ ap (λ (r : ℕ). answer r (next a.history a.settings) a.history)
    (sym
    (passes (next_refusal a.history.newest a.from) (sym c.refusal-refusal.ensures ∙ c.if-refusal-ne0.false)
    ∙ latest a.history.newest a.from c.if-from-newest.false))
