-- `authalic::sine_word` meets its contract. Assumes nothing.
use mathlib.Core.Path.{◌≡◌, ap, ap₂, ◌∙◌}
use Prim.Native.Nat.{ℕ, ◌-◌, ◌^◌}
use native.Mathlib.Nat.{le_refl}
use Rattle.authalic.specs.Computed.{eccentricity_word, point_word, series_word, less_word, sine_word}
use Rattle.authalic.proofs.Internal.AnswerLaws.{point-hundredth, value-least, value-most, value-rise, answer-fits}
use Rattle.authalic.proofs.sine_word.Goals as goal
use Rattle.authalic.proofs.sine_word.Goals.{After-less_word, After-point_word, After-point_word-2, After-series_word-above, After-series_word-below}

-- ---- what the calls give, of the arguments
point-is : (c : After-point_word) → let a = c.args in c.point_word.result ≡ point_word a.s (eccentricity_word a.eccentricity)
point-is c = c.point_word.ensures ∙ ap (λ (z : ℕ). point_word c.args.s z) c.eccentricity_word-e.ensures

above-is : (c : After-series_word-above) → let a = c.args in c.series_word-above.result ≡ series_word (point_word a.s (eccentricity_word a.eccentricity))
above-is c = c.series_word-above.ensures ∙ ap series_word (point-is (goal.at.After-series_word-above c).After-point_word)

pole-is : (c : After-point_word-2) → let a = c.args in c.point_word-2.result ≡ point_word (10 ^ 18) (eccentricity_word a.eccentricity)
pole-is c = c.point_word-2.ensures ∙ ap (λ (z : ℕ). point_word (10 ^ 18) z) c.eccentricity_word-e.ensures

below-is : (c : After-series_word-below) → let a = c.args in c.series_word-below.result ≡ series_word (point_word (10 ^ 18) (eccentricity_word a.eccentricity))
below-is c = c.series_word-below.ensures ∙ ap series_word (pole-is (goal.at.After-series_word-below c).After-point_word-2)

less-is :
    (c : After-less_word) →
    let a = c.args in
    c.less_word.result ≡ less_word a.s (series_word (point_word a.s (eccentricity_word a.eccentricity))) (series_word (point_word (10 ^ 18) (eccentricity_word a.eccentricity)))
less-is c =
    c.less_word.ensures ∙ ap₂ (less_word c.args.s) (above-is (goal.at.After-less_word c).After-series_word-above) (below-is (goal.at.After-less_word c).After-series_word-below)

pub series_word-above-requires : goal.series_word-above-requires
series_word-above-requires c =
    let s = c in
    rw (point-is (goal.at.series_word-above-requires c).After-point_word) (point-hundredth s.args.eccentricity s.args.s s.requires.eccentricity_bound s.requires.s_bound)

pub series_word-below-requires : goal.series_word-below-requires
series_word-below-requires c =
    let s = c in
    rw (pole-is (goal.at.series_word-below-requires c).After-point_word-2) (point-hundredth s.args.eccentricity (10 ^ 18) s.requires.eccentricity_bound (le_refl (10 ^ 18)))

pub less_word-requires : goal.less_word-requires
less_word-requires c =
    let s = c in
    let e : ℕ = s.args.eccentricity in
    rw (above-is (goal.at.less_word-requires c).After-series_word-above, below-is (goal.at.less_word-requires c).After-series_word-below)
    (record {
      s_bound = s.requires.s_bound;
      le_a = value-least e s.args.s s.requires.eccentricity_bound s.requires.s_bound;
      a_le_b = value-rise e s.args.s s.requires.eccentricity_bound s.requires.s_bound;
      b_bound = value-most e (10 ^ 18) s.requires.eccentricity_bound (le_refl (10 ^ 18));
    })

pub overflow_sub-result : goal.overflow_sub-result
overflow_sub-result c =
    let s = c in
    rw (less-is (goal.at.overflow_sub-result c).After-less_word) (answer-fits s.args.eccentricity s.args.s s.requires.eccentricity_bound s.requires.s_bound)

pub returns : goal.returns
unfolding sine_word
returns c = ap (λ (z : ℕ). c.args.s - z) (less-is (goal.at.returns c).After-less_word)
