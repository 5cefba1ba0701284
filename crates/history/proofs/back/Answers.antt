-- `history::back` meets its contract. Assumes nothing.
use mathlib.Core.Path.{sym, ap, ◌∙◌}
use Prim.Native.Nat.{ℕ}
use Rattle.logic.specs.Laws.Refusal.{passes}
use Rattle.history.specs.Settings.{next_refusal}
use Rattle.history.specs.History.{answer, next, placed, added, backed}
use Rattle.history.proofs.Facts.{refused, at_once, stale, latest, not-kept, is-kept}
use native.Mathlib.Omega.{arith}
use Rattle.history.proofs.back.Goals as goal

pub returns-then-not-is_kept : goal.returns-then-not-is_kept
unfolding backed
returns-then-not-is_kept c =
    let a = c.args in
    let n = a.history.newest in
    refused (next a.history (placed a.history a.to)) a.history
    (at_once (next_refusal n a.from) (sym (not-kept n a.to (sym c.is_kept.ensures ∙ c.if-not-is_kept.true))) (omega arith))
    (omega arith)

pub returns-then-from-newest : goal.returns-then-from-newest
unfolding backed
returns-then-from-newest c =
    let a = c.args in
    let n = a.history.newest in
    refused (next a.history (placed a.history a.to)) a.history
    (passes (next_refusal n a.from) (is-kept n a.to (sym c.is_kept.ensures ∙ c.if-not-is_kept.false)) ∙ stale n a.from c.if-from-newest.true)
    (omega arith)

pub returns : goal.returns
unfolding backed added
returns c =
    let a = c.args in
    let n = a.history.newest in
    let x = placed a.history a.to in
    c.add.ensures
    ∙ ap (λ (r : ℕ). answer r (next a.history x) a.history)
    (sym
    (passes (next_refusal n a.from) (is-kept n a.to (sym c.is_kept.ensures ∙ c.if-not-is_kept.false))
    ∙ latest n a.from c.if-from-newest.false))
