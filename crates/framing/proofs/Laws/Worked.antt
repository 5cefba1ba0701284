-- Worked out by hand: a line of four edges, and sides as people write them. Assumes nothing.
use Rattle.std.specs.Prelude.{◌≡◌, refl, true, false, [], ◌∷◌, pos, negsuc}
use Rattle.std.specs.Float.{fin}
use Rattle.std.specs.Float.Ieee.{to_bits, of_int, div, round}
use Rattle.ternary.specs.Digits.{value}
use Rattle.decimal.specs.Decimal.{all_decimal, whole_in}
use Rattle.decimal.specs.Fraction.{whole_fraction, point_fraction, fraction_in}
use Rattle.framing.specs.Framing.{side_in, hexadecimal, edges_line}

-- left 1, bottom -1/4, right 2, top 1/2: `3ff0000000000000 bfd0000000000000 4000000000000000 3fe0000000000000` and a line feed
pub edges-worked :
    edges_line (record { left = fin false 1 (pos 0); bottom = fin true 1 (negsuc 1); right = fin false 1 (pos 1); top = fin false 1 (negsuc 0) }) ≡
    51 ∷ 102 ∷ 102 ∷ 48 ∷ 48 ∷ 48 ∷ 48 ∷ 48 ∷ 48 ∷ 48 ∷ 48 ∷ 48 ∷ 48 ∷ 48 ∷ 48 ∷ 48 ∷ 32 ∷
    98 ∷ 102 ∷ 100 ∷ 48 ∷ 48 ∷ 48 ∷ 48 ∷ 48 ∷ 48 ∷ 48 ∷ 48 ∷ 48 ∷ 48 ∷ 48 ∷ 48 ∷ 48 ∷ 32 ∷
    52 ∷ 48 ∷ 48 ∷ 48 ∷ 48 ∷ 48 ∷ 48 ∷ 48 ∷ 48 ∷ 48 ∷ 48 ∷ 48 ∷ 48 ∷ 48 ∷ 48 ∷ 48 ∷ 32 ∷
    51 ∷ 102 ∷ 101 ∷ 48 ∷ 48 ∷ 48 ∷ 48 ∷ 48 ∷ 48 ∷ 48 ∷ 48 ∷ 48 ∷ 48 ∷ 48 ∷ 48 ∷ 48 ∷ 10 ∷ []
unfolding edges_line hexadecimal to_bits
edges-worked = refl

-- 0, with no digit but zeros, and 1/3, with digits in every place: `3fd5555555555555`
pub zero-worked : hexadecimal (fin false 0 (pos 0)) ≡
    48 ∷ 48 ∷ 48 ∷ 48 ∷ 48 ∷ 48 ∷ 48 ∷ 48 ∷ 48 ∷ 48 ∷ 48 ∷ 48 ∷ 48 ∷ 48 ∷ 48 ∷ 48 ∷ []
unfolding hexadecimal to_bits
zero-worked = refl

pub third-worked : hexadecimal (fin false 6004799503160661 (negsuc 53)) ≡
    51 ∷ 102 ∷ 100 ∷ 53 ∷ 53 ∷ 53 ∷ 53 ∷ 53 ∷ 53 ∷ 53 ∷ 53 ∷ 53 ∷ 53 ∷ 53 ∷ 53 ∷ 53 ∷ []
unfolding hexadecimal to_bits
third-worked = refl

-- `12.5`, `1.05`, `7`, and `.5`, which is none
pub point-worked : side_in (49 ∷ 50 ∷ 46 ∷ 53 ∷ []) ≡ fin false 25 (negsuc 0)
unfolding side_in fraction_in whole_fraction point_fraction whole_in all_decimal value of_int div round
point-worked = refl

-- 105/100 is nearest to 4728779608739021 / 2^52
pub places-worked : side_in (49 ∷ 46 ∷ 48 ∷ 53 ∷ []) ≡ fin false 4728779608739021 (negsuc 51)
unfolding side_in fraction_in whole_fraction point_fraction whole_in all_decimal value of_int div round
places-worked = refl

pub whole-worked : side_in (55 ∷ []) ≡ fin false 7 (pos 0)
unfolding side_in fraction_in whole_fraction point_fraction whole_in all_decimal value of_int div round
whole-worked = refl

pub none-worked : side_in (46 ∷ 53 ∷ []) ≡ fin false 0 (pos 0)
unfolding side_in fraction_in whole_fraction point_fraction whole_in all_decimal value of_int div round
none-worked = refl
