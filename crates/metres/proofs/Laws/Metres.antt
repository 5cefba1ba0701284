-- A planar number in metres is within one part in 2^51 of the exact quotient (02, W-214). Assumes nothing.
use Rattle.std.specs.Prelude.{◌≡◌, refl, ◌↔◌, Bool, true, false, ◌&&◌, ◌^◌, ◌≤◌, T, ℤ, pos, nat_abs, Float}
use Rattle.std.proofs.Common.{sym, ap, ◌∙◌, subst, arith}
use Rattle.std.specs.Float.{binary64, fin}
use Rattle.std.specs.Float.Ieee.{of_int, round, mul, div, le}
use Rattle.std.specs.Float.Ieee.Positive.{cross→le}
use Rattle.logic.specs.Laws.Bools.{and_left, and_right}
use Rattle.metres.specs.Metres.{is_side, IsSide, metres_of, NearExact}
use Rattle.metres.specs.Internal.Scale.{one-to, one-or-more, not-above, metres-right}

truth : (b : Bool) → T b → b ≡ true
truth true t = refl
truth false t = absurd t

both_true : (a b : Bool) → a ≡ true → b ≡ true → (a && b) ≡ true
both_true a b e f = ap (λ (x : Bool). x && b) e ∙ f

-- M, 1 and 2^30 as doubles
pub face-side-is : of_int binary64 (pos 28697814) ≡ fin false 14348907 (pos 1)
unfolding of_int round
face-side-is = refl

pub one-is : of_int binary64 (pos 1) ≡ fin false 1 (pos 0)
unfolding of_int round
one-is = refl

pub most-is : of_int binary64 (pos (2 ^ 30)) ≡ fin false 1 (pos 30)
unfolding of_int round
most-is = refl

-- a side is between the two
pub side-least : (side : Float) → is_side side ≡ true → T (le (fin false 1 (pos 0)) side)
unfolding is_side
side-least side e =
    subst (λ (b : Float). T (le b side)) one-is
    (subst T (sym (and_left (le (of_int binary64 (pos 1)) side) (le side (of_int binary64 (pos (2 ^ 30)))) e)) tt)

pub side-most : (side : Float) → is_side side ≡ true → T (le side (fin false 1 (pos 30)))
unfolding is_side
side-most side e =
    subst (λ (b : Float). T (le side b)) most-is
    (subst T (sym (and_right (le (of_int binary64 (pos 1)) side) (le side (of_int binary64 (pos (2 ^ 30)))) e)) tt)

-- a side is taken exactly where it is a number from 1 to 2^30
pub side-exactly : (side : Float) → (is_side side ≡ true) ↔ IsSide side
unfolding is_side
side-exactly side = (to, from)
  where
    to : is_side side ≡ true → IsSide side
    to e =
        let lo = side-least side e in
        let hi = side-most side e in
        let p = one-to side lo hi in
        record { finite = p; least = one-or-more side p lo; most = not-above side p hi }

    from : IsSide side → is_side side ≡ true
    from s =
        let lo : T (le (fin false 1 (pos 0)) side) = cross→le (fin false 1 (pos 0)) side tt s.finite (omega (arith, s.least)) in
        let hi : T (le side (fin false 1 (pos 30))) = cross→le side (fin false 1 (pos 30)) s.finite tt (omega (arith, s.most)) in
        both_true _ _ (truth (le (of_int binary64 (pos 1)) side) (subst (λ (b : Float). T (le b side)) (sym one-is) lo))
        (truth (le side (of_int binary64 (pos (2 ^ 30)))) (subst (λ (b : Float). T (le side b)) (sym most-is) hi))

-- "the answer is within one part in 2^51 of the exact one .. and is zero for zero"; no planar number is larger than 2^27
pub metres-near : (x : ℤ) (side : Float) → nat_abs x ≤ 2 ^ 27 → is_side side ≡ true → NearExact x side (metres_of x side)
unfolding metres_of
metres-near x side h e =
    subst (λ (m : Float). NearExact x side (div binary64 (mul binary64 (of_int binary64 x) side) m)) (sym face-side-is)
    (metres-right x side h (side-least side e) (side-most side e))
