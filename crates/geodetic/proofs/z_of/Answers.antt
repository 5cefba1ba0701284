-- `z_of` meets its contract. Assumes nothing.
use mathlib.Core.Path.{◌≡◌, sym, ap, ◌∙◌}
use mathlib.Core.Bool.{Bool, cond}
use lib.IntN.{ℤ, pos}
use Rattle.signed.specs.Laws.Sign.{back, back_as}
use Rattle.authalic.specs.Authalic.{is_geodetic}
use Rattle.authalic.specs.Computed.{authalic_sine}
use Rattle.geodetic.specs.GeodeticFix.{z_for}
use Rattle.geodetic.proofs.z_of.Goals as goal
use Rattle.geodetic.proofs.z_of.Goals.{After-is_geodetic}

-- what `is_geodetic` says, of the sine itself
said : (c : After-is_geodetic) → let a = c.args in c.is_geodetic.result ≡ is_geodetic a.sine a.eccentricity
said c = let s = c in c.is_geodetic.ensures ∙ ap (λ (z : ℤ). is_geodetic z s.args.eccentricity) (back s.ranges.sine)

pub returns-then-is_geodetic : goal.returns-then-is_geodetic
unfolding z_for
returns-then-is_geodetic c =
    let t = c in
    let s = t in
    let a = s.args in
    back_as c.sine_of.type_inv c.sine_of.ensures ∙ ap (λ (x : ℤ). authalic_sine x a.eccentricity) (back s.ranges.sine)
    ∙ sym (ap (λ (b : Bool). cond b (authalic_sine a.sine a.eccentricity) (pos 2000000000000000000)) (sym (said (goal.at.returns-then-is_geodetic c).After-is_geodetic) ∙ t.if-is_geodetic.true))

pub returns : goal.returns
unfolding z_for
returns c =
    let a = c.args in
    sym (ap (λ (b : Bool). cond b (authalic_sine a.sine a.eccentricity) (pos 2000000000000000000)) (sym (said (goal.at.returns c).After-is_geodetic) ∙ c.if-is_geodetic.false))
