-- `jgv_geodetic_z` meets its contract. Assumes nothing.
use mathlib.Core.Path.{◌≡◌, sym, ap, ◌∙◌}
use lib.IntN.{ℤ}
use Rattle.logic.specs.Refusal.{given}
use Rattle.signed.specs.Laws.Sign.{back, back_as}
use Rattle.authalic.specs.Authalic.{is_geodetic, sine_refusal}
use Rattle.authalic.specs.Computed.{authalic_sine}
use Rattle.entries.specs.Entries.{geodetic_z}
use Rattle.jeguarivo.proofs.jgv_geodetic_z.Goals as goal
use Rattle.jeguarivo.proofs.jgv_geodetic_z.Goals.{After-is_geodetic}

said : (c : After-is_geodetic) → let a = c.args in c.is_geodetic.result ≡ is_geodetic a.sine a.eccentricity
said c = let s = c in c.is_geodetic.ensures ∙ ap (λ (z : ℤ). is_geodetic z s.args.eccentricity) (back s.ranges.sine)

pub returns-then-is_geodetic : goal.returns-then-is_geodetic
unfolding geodetic_z sine_refusal given
returns-then-is_geodetic c =
    let t = c in
    let s = t in
    let z = back_as c.sine_of.type_inv c.sine_of.ensures ∙ ap (λ (x : ℤ). authalic_sine x s.args.eccentricity) (back s.ranges.sine) in
    rw (sym (said (goal.at.returns-then-is_geodetic c).After-is_geodetic) ∙ t.if-is_geodetic.true) (λ i. record { refusal = 0; z = z i })

pub returns : goal.returns
unfolding geodetic_z sine_refusal given
returns c = rw (sym (said (goal.at.returns c).After-is_geodetic) ∙ c.if-is_geodetic.false)
