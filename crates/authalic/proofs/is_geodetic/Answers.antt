-- `authalic::is_geodetic` meets its contract: of the sine as the machine reads it back, and so of the sine. Assumes nothing.
use mathlib.Core.Path.{◌≡◌, sym, ap, ◌∙◌}
use mathlib.Core.Bool.{Bool, true, false, ◌&&◌}
use lib.IntN.{ℤ}
use mir.Syntax.{w64}
use mir.Val.{to_z, of_z}
use Rattle.signed.specs.Laws.Sign.{back}
use Rattle.authalic.specs.Authalic.{is_sine, is_geodetic}
use Rattle.authalic.proofs.is_geodetic.Goals as goal
use Rattle.authalic.proofs.is_geodetic.Goals.{Start}

read : (s : Start) → is_geodetic (to_z w64 (of_z w64 s.args.sine)) s.args.eccentricity ≡ is_geodetic s.args.sine s.args.eccentricity
read s = ap (λ (z : ℤ). is_geodetic z s.args.eccentricity) (back s.ranges.sine)

last : (a b c : Bool) → a ≡ true → b ≡ true → c ≡ ((a && b) && c)
last a b c p q = rw (p, q)

no_second : (a b c : Bool) → a ≡ true → b ≡ false → false ≡ ((a && b) && c)
no_second a b c p q = rw (p, q)

no-first : (a b c : Bool) → a ≡ false → false ≡ ((a && b) && c)
no-first a b c p = rw p

pub returns-then-at_most-2 : goal.returns-then-at_most-2
unfolding is_geodetic is_sine
returns-then-at_most-2 c =
    let first = c in
    last _ _ _ (sym first.at_most.ensures ∙ first.if-at_most.true) (sym c.at_most-then-at_most.ensures ∙ c.if-at_most-2.true)
    ∙ read (goal.at.returns-then-at_most-2 c).Start

pub returns-else-at_most-2 : goal.returns-else-at_most-2
unfolding is_geodetic is_sine
returns-else-at_most-2 c =
    let first = c in
    no_second _ _ _ (sym first.at_most.ensures ∙ first.if-at_most.true) (sym c.at_most-then-at_most.ensures ∙ c.if-at_most-2.false)
    ∙ read (goal.at.returns-else-at_most-2 c).Start

pub returns-else-at_most : goal.returns-else-at_most
unfolding is_geodetic is_sine
returns-else-at_most c = no-first _ _ _ (sym c.at_most.ensures ∙ c.if-at_most.false) ∙ read (goal.at.returns-else-at_most c).Start
