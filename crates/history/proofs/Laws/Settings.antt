-- Settings are accepted exactly where their numbers are in range. Assumes nothing.
use Rattle.std.specs.Prelude.{◌≡◌, ◌↔◌, Bool}
use Rattle.std.proofs.Common.{ap, ◌∙◌, ltb-false, le-ltb}
use Rattle.logic.specs.Refusal.{refuse}
use Rattle.logic.specs.Laws.Refusal.{both, passes, allowed}
use Rattle.cell.proofs.Laws.Cell.{is-arrangement, arrangement-is}
use Rattle.history.specs.declared.Settings.{Settings}
use Rattle.history.specs.Settings.{GoodSettings, settings_refusal}

good-settings : (x : Settings) → settings_refusal x ≡ 0 → GoodSettings x
unfolding settings_refusal
good-settings x e =
    let p = both _ _ e in
    let q = both _ _ p.1 in
    let a = is-arrangement p.0 in
    record { north = a.northern; south = a.southern; fine = ltb-false 15 x.resolution (allowed 1 _ q.0); round = ltb-false 10000000000 x.eccentricity (allowed 5 _ q.1) }

settings-good : (x : Settings) → GoodSettings x → settings_refusal x ≡ 0
unfolding settings_refusal
settings-good x g =
    passes _ (arrangement-is (record { northern = g.north; southern = g.south }))
    ∙ passes _ (ap (λ (t : Bool). refuse t 2) (le-ltb 15 x.resolution g.fine))
    ∙ ap (λ (t : Bool). refuse t 6) (le-ltb 10000000000 x.eccentricity g.round)

pub good-exactly : (x : Settings) → (settings_refusal x ≡ 0) ↔ GoodSettings x
good-exactly x = (good-settings x, settings-good x)
