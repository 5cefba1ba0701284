-- `history::fresh` meets its contract. Assumes nothing.
use mathlib.Core.Path.{sym, ap, ◌∙◌}
use lib.ListN.{set, replicate}
use Rattle.history.specs.declared.Settings.{Settings}
use Rattle.history.specs.declared.History.{History}
use Rattle.history.specs.Settings.{none}
use Rattle.history.specs.History.{empty, fresh}
use Rattle.history.proofs.Facts.{refused, accepted}
use Rattle.history.proofs.fresh.Goals as goal

-- revision 0
abbrev first : Settings → History
first x = record { newest = 0; kept = set (replicate 32 none) 0 x }

pub returns-then-refusal-ne0 : goal.returns-then-refusal-ne0
unfolding fresh
returns-then-refusal-ne0 c =
    ap (λ (h : History). record { refusal = c.refusal-refusal.result; history = h }) c.no_history-history.ensures
    ∙ refused (first c.args.settings) empty (sym c.refusal-refusal.ensures) c.if-refusal-ne0.true

pub returns : goal.returns
unfolding fresh
returns c =
    let x = c.args.settings in
    ap (λ (h : History). record { refusal = 0; history = record { newest = 0; kept = set h.kept 0 x } }) c.no_history-history.ensures
    ∙ accepted (first x) empty (sym c.refusal-refusal.ensures ∙ c.if-refusal-ne0.false)
