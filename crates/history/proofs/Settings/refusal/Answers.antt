-- `Settings::refusal` meets its contract. Assumes nothing.
use mathlib.Core.Path.{sym, ◌∙◌}
use borrow.Author.Tests.{lt-ltb, le-ltb}
use Rattle.logic.specs.Refusal.{◌otherwise◌}
use Rattle.logic.specs.Laws.Refusal.{passes}
use Rattle.history.specs.Settings.{settings_refusal}
use Rattle.history.proofs.Facts.{at_once}
use Rattle.history.proofs.Settings.refusal.Goals as goal

pub returns-then-refusal-ne0 : goal.returns-then-refusal-ne0
unfolding settings_refusal
returns-then-refusal-ne0 c =
    sym (at_once _ c.refusal-refusal.ensures c.if-refusal-ne0.true)

pub returns-then-self-gt15 : goal.returns-then-self-gt15
unfolding settings_refusal ◌otherwise◌
returns-then-self-gt15 c =
    sym (passes _ (sym c.refusal-refusal.ensures ∙ c.if-refusal-ne0.false) ∙ simp (lt-ltb _ _ c.if-self-gt15.true))

pub returns-then-self-gt10000000000 : goal.returns-then-self-gt10000000000
unfolding settings_refusal ◌otherwise◌
returns-then-self-gt10000000000 c =
    sym
    (passes _ (sym c.refusal-refusal.ensures ∙ c.if-refusal-ne0.false)
    ∙ simp (le-ltb _ _ c.if-self-gt15.false, lt-ltb _ _ c.if-self-gt10000000000.true))

pub returns : goal.returns
unfolding settings_refusal ◌otherwise◌
returns c =
    sym
    (passes _ (sym c.refusal-refusal.ensures ∙ c.if-refusal-ne0.false)
    ∙ simp (le-ltb _ _ c.if-self-gt15.false, le-ltb _ _ c.if-self-gt10000000000.false))
