-- `no_fix` meets its contract: the setting's refusal comes first. Assumes nothing.
use Rattle.std.specs.Prelude.{Err}
use mathlib.Core.Path.{sym, ap, ◌∙◌}
use Rattle.logic.specs.Laws.Refusal.{stops, passes}
use Rattle.flight.specs.Flight.{no_fix}
use Rattle.flight.proofs.no_fix.Goals as goal

pub returns-then-refusal-ne0 : goal.returns-then-refusal-ne0
unfolding no_fix
returns-then-refusal-ne0 c = let e = c.refusal-refusal.ensures in ap Err (e ∙ sym (stops _ _ (λ z. c.if-refusal-ne0.true (e ∙ z))))

pub returns : goal.returns
unfolding no_fix
returns c = ap Err (sym (passes 6 (sym c.refusal-refusal.ensures ∙ c.if-refusal-ne0.false)))
