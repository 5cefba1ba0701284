-- `nucleus::cap_nucleus` meets its contract. Assumes nothing.
use mathlib.Core.Path.{sym, ◌∙◌, subst}
use mathlib.Core.Bool.{Bool, true, false}
use Prim.Native.Nat.{ℕ}
use native.Mathlib.Omega.{arith}
use Rattle.signed.specs.Laws.Sign.{back_as}
use Rattle.nucleus.specs.Nucleus.{cap_longitude}
use Rattle.nucleus.specs.Internal.Caps.{row_seen}
use Rattle.nucleus.specs.Internal.Triangle.{middle, InFace, OffCentre, IsStart}
use Rattle.nucleus.specs.Internal.StartLaws.{off-centre, cap-is, pole-is}
use Rattle.nucleus.proofs.Laws.{finer-cap}
use Rattle.nucleus.proofs.cap_nucleus.Goals as goal

-- the middle that has the start lies in the face too, and off its centre
started : (south : Bool) (m a b : ℕ) → InFace m a b → OffCentre m a b → InFace m a (row_seen south m b) × OffCentre m a (row_seen south m b)
started true m a b p o =
    (record { small = p.small; left = p.left; right = p.right; top = omega (arith, p); bottom = omega (arith, p) }, λ e f. o e (omega (arith, p)))
started false m a b p o = (p, o)

pub returns-then-is_centre : goal.returns-then-is_centre
returns-then-is_centre c =
    let a = c.args in
    let x = middle a.m a.a a.b in
    (λ i. record { longitude = back_as c.difference.type_inv c.difference.ensures i; z = back_as c.pole_z.type_inv c.pole_z.ensures i })
    ∙ sym (pole-is a.south a.first a.m x (sym c.is_centre.ensures ∙ c.if-is_centre.true))

pub start_of-start-requires : goal.start_of-start-requires
start_of-start-requires c =
    let a = c.args in
    let o = off-centre a.m a.a a.b (sym c.is_centre.ensures ∙ c.if-is_centre.false) in
    let p = started a.south a.m a.a a.b c.requires.in_face o in
    rw c.mirrored.ensures (record { in_face = p.0; off_centre = p.1 })

pub returns : goal.returns
unfolding cap_longitude
returns c =
    let a = c.args in
    let r = c.start_of-start.result in
    let p = c.requires.in_face in
    let u = c.requires.up_nonzero in
    (λ i.
    record {
      longitude = back_as c.longitude_at.type_inv c.longitude_at.ensures i;
      z = back_as c.cap_z.type_inv (c.cap_z.ensures ∙ finer-cap a.up a.m u.0 (omega (arith, p)) u.1 r.height a.south) i;
    })
    ∙ sym (cap-is a.south a.first a.m a.a a.b r.turn r.height r.along (omega (arith, p))
    (subst (λ (y : ℕ). IsStart a.m a.a y r.turn r.height r.along) c.mirrored.ensures c.start_of-start.ensures))
