-- `Setting::refusal` meets its contract. Assumes nothing.
use mathlib.Core.Path.{sym, ap, ◌∙◌}
use mathlib.Core.Bool.{Bool}
use borrow.Author.Tests.{lt-ltb, le-ltb}
use Rattle.logic.specs.Refusal.{refuse, ◌otherwise◌}
use Rattle.logic.specs.Laws.Refusal.{stops, passes}
use Rattle.flight.specs.Setting.{latitude_refusal, setting_refusal}
use Rattle.flight.proofs.Setting.refusal.Goals as goal

pub returns-then-refusal-ne0 : goal.returns-then-refusal-ne0
unfolding setting_refusal
returns-then-refusal-ne0 c = let e = c.refusal-refusal.ensures in e ∙ sym (stops _ _ (λ z. c.if-refusal-ne0.true (e ∙ z)))

pub returns-then-self-gt15 : goal.returns-then-self-gt15
unfolding setting_refusal ◌otherwise◌
returns-then-self-gt15 c =
    let l = c in
    let z = sym l.refusal-refusal.ensures ∙ l.if-refusal-ne0.false in
    sym (passes _ z ∙ ap (λ (b : Bool). refuse b 2 otherwise latitude_refusal l.args.self.latitude) (lt-ltb 15 l.args.self.resolution c.if-self-gt15.true))

pub returns : goal.returns
unfolding setting_refusal ◌otherwise◌
returns c =
    let t = c in
    let l = t in
    let z = sym l.refusal-refusal.ensures ∙ l.if-refusal-ne0.false in
    c.refusal.ensures
    ∙ sym (passes _ z ∙ ap (λ (b : Bool). refuse b 2 otherwise latitude_refusal l.args.self.latitude) (le-ltb 15 l.args.self.resolution t.if-self-gt15.false))
