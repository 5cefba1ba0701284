-- What the rules of `Fix` say of a longitude x units east of -1,800,000,000 and of a z, by its place. Assumes nothing.
use Rattle.std.specs.Prelude.{◌≡◌, true, false, ◌&&◌, ℕ, ◌+◌, ◌-◌, ◌*◌, ◌%◌, ◌≤◌, ◌<◌, ℤ, pos, negsuc, nat_abs, ◌-ℤ◌}
use Rattle.std.proofs.Common.{ap, ◌∙◌, arith, le-leb}
use Rattle.std.proofs.Math.IntN.{sub_ℕ}
use Rattle.std.specs.Int.Signed.{le_z}
use Rattle.std.proofs.lemmas.Bool.{lt-leb}
use Rattle.signed.specs.Laws.Sign.{sub-size, sub_more, sub-le-right}
use Rattle.signed.specs.Laws.Times.{sub-times, pos-less}
use Rattle.locate.specs.Fix.{in_range, east_of, is_belt, offset_of}

-- ---- the longitude

pub east-back : (x : ℕ) → x < 3600000000 → east_of (sub_ℕ x 1800000000) ≡ x
unfolding east_of
east-back x l =
    ap (λ (y : ℤ). nat_abs y % 3600000000) (sub_more x 1800000000 1800000000) ∙ omega (arith, sub-size (x + 1800000000) 1800000000)

z-range : (z : ℤ) → nat_abs z ≤ 1000000000000000000 → (le_z (negsuc 999999999999999999) z && le_z z (pos 1000000000000000000)) ≡ true
z-range (pos n) h = le-leb n 1000000000000000000 h
z-range (negsuc n) h = rw (le-leb n 999999999999999999 (omega arith))

pub in-range : (x : ℕ) (z : ℤ) → x < 3600000000 → nat_abs z ≤ 1000000000000000000 → in_range (sub_ℕ x 1800000000) z ≡ true
unfolding in_range
in-range x z l h =
    rw (sub-le-right 0 x 1800000000, le-leb 0 x (omega arith), sub-le-right x 3600000000 1800000000, le-leb x 3600000000 (omega arith)) (z-range z h)

-- ---- z

pub in-belt-is : (z : ℤ) → 3 * nat_abs z ≤ 2000000000000000000 → is_belt z ≡ true
unfolding is_belt
in-belt-is z h = le-leb (3 * nat_abs z) 2000000000000000000 h

pub outside-is : (z : ℤ) → 2000000000000000000 < 3 * nat_abs z → is_belt z ≡ false
unfolding is_belt
outside-is z h = lt-leb (3 * nat_abs z) 2000000000000000000 h

-- 2 x 10^18 - 3z
pub offset-is : (p q : ℕ) → 3 * p ≤ 2000000000000000000 + 3 * q → offset_of (sub_ℕ p q) ≡ 2000000000000000000 + 3 * q - 3 * p
unfolding offset_of
offset-is p q h =
    ap nat_abs (ap (λ (x : ℤ). pos 2000000000000000000 -ℤ x) (sub-times 3 p q) ∙ pos-less 2000000000000000000 (3 * p) (3 * q))
    ∙ omega (arith, sub-size (2000000000000000000 + 3 * q) (3 * p))
