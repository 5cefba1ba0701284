-- `flight::take_line` meets its contract. Assumes nothing.
use Rattle.std.specs.Prelude.{Err, Result, ℕ}
use mathlib.Core.Path.{sym, ◌∙◌, subst}
use Rattle.flight.proofs.Laws.Code.{line-is-code}
use Rattle.flight.proofs.Takes.{Takes, takes_none}
use Rattle.flight.proofs.take_line.Goals as goal

pub take_code-requires : goal.take_code-requires
take_code-requires c = let s = c in
    (s.requires.0, line-is-code _ _ _ (sym c.line_code.ensures ∙ c.in-Ok.is), s.requires.1)

pub returns-in-Err : goal.returns-in-Err
returns-in-Err c =
    let s = c in
    let t =
    subst (λ (x : Result ℕ ℕ). Takes x s.args.text.now s.args.recording (Err c.in-Err.refusal) s.args.text.now)
    (sym c.in-Err.is ∙ c.line_code.ensures) (takes_none _ s.args.text.now s.args.recording s.requires.0) in record { value = t.0; text_after = t.1.0; records = t.1.1; in_mind = s.requires.1 }
