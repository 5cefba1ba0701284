-- `authalic::sine_of` meets its contract: the size, with the sign of the sine. Assumes nothing.
use mathlib.Core.Path.{◌≡◌, sym, ap, ◌∙◌}
use mathlib.Core.Bool.{true}
use Prim.Native.Nat.{ℕ, ◌^◌, ◌≤◌}
use native.Mathlib.Nat.{le_trans}
use native.Mathlib.Omega.{arith}
use lib.IntN.{pos, neg_ℤ, nat_abs}
use Rattle.signed.specs.Sign.{negative}
use Rattle.signed.specs.Laws.Sign.{back, back_as, neg-sub}
use Rattle.authalic.specs.Computed.{sine_word, authalic_sine}
use Rattle.authalic.proofs.Internal.AnswerLaws.{sine-small}
use Rattle.authalic.specs.Authalic.{Geodetic}
use Rattle.authalic.proofs.Laws.Authalic.{geodetic-range, sine-size}
use Rattle.authalic.proofs.sine_of.Goals as goal
use Rattle.authalic.proofs.sine_of.Goals.{After-is_negative, After-magnitude, After-sine_word-size, Start}

-- ---- what is asked and what the calls give, of the arguments
ranged : (s : Start) → Geodetic s.args.sine s.args.eccentricity
ranged s = geodetic-range s.requires

size_is : (c : After-magnitude) → c.magnitude.result ≡ nat_abs c.args.sine
size_is c = c.magnitude.ensures ∙ ap nat_abs (back c.ranges.sine)

word-is : (c : After-sine_word-size) → let a = c.args in c.sine_word-size.result ≡ sine_word a.eccentricity (nat_abs a.sine)
word-is c = c.sine_word-size.ensures ∙ ap (sine_word c.args.eccentricity) (size_is (goal.at.After-sine_word-size c).After-magnitude)

word_small : (c : After-sine_word-size) → c.sine_word-size.result ≤ 10 ^ 18
word_small c =
    let s = c in
    rw (word-is c) (le_trans (sine-small s.args.eccentricity (nat_abs s.args.sine)) (sine-size (ranged (goal.at.After-sine_word-size c).Start)))

sign-is : (c : After-is_negative) → c.is_negative.result ≡ negative c.args.sine
sign-is c = c.is_negative.ensures ∙ ap negative (back c.ranges.sine)

pub sine_word-size-requires : goal.sine_word-size-requires
sine_word-size-requires c =
    let g = ranged (goal.at.sine_word-size-requires c).Start in
    rw (size_is (goal.at.sine_word-size-requires c).After-magnitude) (record { eccentricity_bound = g.eccentricity; s_bound = sine-size g })

pub difference-requires : goal.difference-requires
difference-requires c = omega (arith, word_small (goal.at.difference-requires c).After-sine_word-size)

pub returns-then-is_negative : goal.returns-then-is_negative
unfolding authalic_sine
returns-then-is_negative c =
    let n = c in
    let w = n in
    rw (sym (sign-is (goal.at.returns-then-is_negative c).After-is_negative) ∙ c.if-is_negative.true)
    (back_as c.difference.type_inv c.difference.ensures ∙ sym (neg-sub w.sine_word-size.result) ∙ ap (λ (x : ℕ). neg_ℤ (pos x)) (word-is (goal.at.returns-then-is_negative c).After-sine_word-size))

pub as_signed-requires : goal.as_signed-requires
as_signed-requires c = omega (arith, word_small (goal.at.as_signed-requires c).After-sine_word-size)

pub returns : goal.returns
unfolding authalic_sine
returns c =
    let n = c in
    rw (sym (sign-is (goal.at.returns c).After-is_negative) ∙ c.if-is_negative.false) (back_as c.as_signed.type_inv c.as_signed.ensures ∙ ap pos (word-is (goal.at.returns c).After-sine_word-size))
