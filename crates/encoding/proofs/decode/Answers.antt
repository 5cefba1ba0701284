-- `encoding::decode` meets its contract: place by place, what is read from there on makes the answer. Assumes nothing.
use mathlib.Core.Path.{sym, ap, ◌∙◌}
use lib.ListN.{length}
use Rattle.history.specs.declared.History.{History}
use Rattle.encoding.proofs.Turns.{not-read, begun, place-wrong, place-right, too_long, all_read}
use native.Mathlib.Omega.{arith}
use Rattle.encoding.proofs.decode.Goals as goal

pub returns-in-Err : goal.returns-in-Err
returns-in-Err c = c.refused_at.ensures ∙ not-read _ (sym c.newest_in.ensures ∙ c.in-Err.is)

pub loop-place-init : goal.loop-place-init
loop-place-init c =
    begun _ _ c.no_history.result.kept (sym c.newest_in.ensures ∙ c.in-Ok.is)
    (ap (λ (h : History). length h.kept) c.no_history.ensures)

pub returns-in-Err-settings_at : goal.returns-in-Err-settings_at
returns-in-Err-settings_at c =
    c.refused_at-in-Err-settings_at.ensures
    ∙ place-wrong c.loop-place.invariant (omega arith)
    (sym c.settings_at.ensures ∙ c.in-Err-settings_at.is)

pub loop-place-preserved : goal.loop-place-preserved
loop-place-preserved c =
    place-right c.loop-place.invariant (omega arith) _
    (sym c.settings_at.ensures ∙ c.in-Ok-settings_at.is)

pub returns-then-bytes-gt-LENGTH : goal.returns-then-bytes-gt-LENGTH
returns-then-bytes-gt-LENGTH c = let i = c.loop-place.invariant in c.refused_at-then-bytes-gt-LENGTH.ensures ∙ too_long i (omega arith) c.if-bytes-gt-LENGTH.true

pub returns : goal.returns
returns c = let i = c.loop-place.invariant in all_read i (omega arith) c.if-bytes-gt-LENGTH.false
