-- The side as people write it: exactly what `decimal` takes for a number with or without a point, as one quotient, and no side where it takes none.
-- Assumes nothing.
use Rattle.std.specs.Prelude.{◌≡◌, refl, false, List, ◌∷◌, ◌++◌, ℕ, ◌+◌, ◌^◌, ◌≤◌, pos, length, None}
use Rattle.std.proofs.Common.{ap, ◌∙◌}
use Rattle.std.specs.Float.{binary64, fin}
use Rattle.std.specs.Float.Ieee.{of_int, div, le, lt, eq, round}
use Rattle.decimal.specs.Decimal.{decimal_value}
use Rattle.decimal.specs.Fraction.{fraction_in}
use Rattle.decimal.proofs.Laws.Fraction.{Written, whole-read, point-read}
use Rattle.metres.specs.Metres.{is_side}
use Rattle.framing.specs.Framing.{side_of, side_in}

-- 0 is no side
nothing-none : is_side (fin false 0 (pos 0)) ≡ false
unfolding is_side le lt eq of_int round
nothing-none = refl

-- what is no number with or without a point is no side
pub side-none : (bs : List ℕ) → fraction_in bs ≡ None → is_side (side_in bs) ≡ false
unfolding side_in
side-none bs e = ap (λ f. is_side (side_of f)) e ∙ nothing-none

-- up to 15 digits
pub side-whole : (bs : List ℕ) → Written 15 bs → side_in bs ≡ div binary64 (of_int binary64 (pos (decimal_value bs))) (of_int binary64 (pos 1))
unfolding side_in
side-whole bs w = ap side_of (whole-read bs w)

-- and with a point among them
pub side-point : (front back : List ℕ) → Written 15 front → Written 15 back → length front + length back ≤ 15 →
    side_in (front ++ (46 ∷ back)) ≡ div binary64 (of_int binary64 (pos (decimal_value (front ++ back)))) (of_int binary64 (pos (10 ^ length back)))
unfolding side_in
side-point front back v w h = ap side_of (point-read front back v w h)
