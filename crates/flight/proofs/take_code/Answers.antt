-- `flight::take_code` meets its contract. Assumes nothing.
use Rattle.std.specs.Prelude.{Result, ℕ}
use Rattle.reading.specs.declared.Refused.{Refused}
use mathlib.Core.Path.{subst}
use lib.ListN.{take}
use Rattle.adding.specs.Add.{length_after, Holding, Gains}
use Rattle.adding.specs.InMind.{InMind}
use Rattle.reading.specs.declared.Profile.TheVariants.{Full}
use Rattle.flight.proofs.Takes.{takes-last, takes-added, takes-refused}
use Rattle.flight.proofs.take_code.Goals as goal

pub returns-then-code-recording : goal.returns-then-code-recording
returns-then-code-recording c =
    let s = c in
    let t = takes-last s.args.text.now s.args.recording s.requires.0 s.args.code s.requires.1 c.if-code-recording.true in record { value = t.0; text_after = t.1.0; records = t.1.1; in_mind = s.requires.2 }

pub returns-in-Ok : goal.returns-in-Ok
returns-in-Ok c =
    let s = c in
    let e = c.in-Ok.is in
    let d = c.add_near in
    let t =
    takes-added s.args.text.now s.args.recording s.requires.0 s.args.code s.requires.1 (subst (Gains _ _ _ _) e d.ensures.gains)
    (subst (λ (x : Result ℕ Refused). Holding Full d.new.text (length_after x s.args.recording.length)) e d.ensures.holding) in record { value = t.0; text_after = t.1.0; records = t.1.1; in_mind = subst (λ (x : Result ℕ Refused). InMind (take (length_after x s.args.recording.length) d.new.text) d.new.near) e d.ensures.in_mind }

pub returns-in-Err : goal.returns-in-Err
returns-in-Err c =
    let s = c in
    let e = c.in-Err.is in
    let d = c.add_near in
    let t = takes-refused s.args.text.now s.args.recording s.requires.0 s.args.code s.requires.1 (subst (Gains _ _ _ _) e d.ensures.gains) in record { value = t.0; text_after = t.1.0; records = t.1.1; in_mind = subst (λ (x : Result ℕ Refused). InMind (take (length_after x s.args.recording.length) d.new.text) d.new.near) e d.ensures.in_mind }
