-- The bottom edge of the belt (02, W-213). 2 x 10^18 - 3z is 4 x 10^18 on that edge only, and no fix lies on it. Assumes nothing.
use Rattle.std.specs.Prelude.{◌≡◌, refl, true, ℕ, suc, ◌*◌, ◌^◌, ◌≤◌, ◌<◌, ℤ, pos, negsuc, neg_ℤ, nat_abs, ◌+ℤ◌, ◌-ℤ◌, ◌*ℤ◌}
use Rattle.std.proofs.Common.{sym, ap, ◌∙◌, lt_of_not-le, arith}
use Rattle.std.proofs.Math.IntN.{neg_ℤ-neg_ℤ}
use Rattle.signed.specs.Laws.Sign.{sub_at, minus-plain}
use Rattle.locate.specs.Fix.{is_belt, offset_of}
use Rattle.locate.specs.Internal.RangeLaws.{in-belt, offset-south, offset-north}
use Rattle.locate.proofs.Laws.Turn.{opposite-size}

-- "No whole z has 3z equal to -2 x 10^18"
pub no-bottom : (z : ℤ) → pos 3 *ℤ z ≡ neg_ℤ (pos (2 * 10 ^ 18)) → ⊥
no-bottom (pos n) e = let h : 3 * n ≡ 2 * 10 ^ 18 = ap nat_abs e in omega arith
no-bottom (negsuc n) e = let h : 3 * suc n ≡ 2 * 10 ^ 18 = sym (opposite-size (pos (3 * suc n))) ∙ ap nat_abs e in omega arith

-- ---- in the belt

-- `offset_of` is 2 x 10^18 - 3z over the integers
pub offset-exact : (z : ℤ) → is_belt z ≡ true → pos (2 * 10 ^ 18) -ℤ pos 3 *ℤ z ≡ pos (offset_of z)
unfolding offset_of
offset-exact (pos n) e =
    let f = minus-plain (2 * 10 ^ 18) (pos (3 * n)) refl ∙ sub_at (2 * 10 ^ 18) (3 * n) (in-belt (pos n) e) in
    f ∙ ap pos (sym (ap nat_abs f))
offset-exact (negsuc n) e = let f = ap (λ (x : ℤ). pos (2 * 10 ^ 18) +ℤ x) (neg_ℤ-neg_ℤ (pos (3 * suc n))) in f ∙ ap pos (sym (ap nat_abs f))

offset-most : (z : ℤ) → is_belt z ≡ true → offset_of z ≤ 4 * 10 ^ 18
offset-most (pos n) e = omega (arith, in-belt (pos n) e, offset-north n (in-belt (pos n) e))
offset-most (negsuc n) e = omega (arith, in-belt (negsuc n) e, offset-south (suc n))

on-bottom : (z : ℤ) → is_belt z ≡ true → offset_of z ≡ 4 * 10 ^ 18 → pos 3 *ℤ z ≡ neg_ℤ (pos (2 * 10 ^ 18))
on-bottom (pos n) e h = absurd (omega (arith, offset-north n (in-belt (pos n) e)))
on-bottom (negsuc n) e h = let f : 3 * suc n ≡ 2 * 10 ^ 18 = omega (arith, offset-south (suc n)) in ap (λ (x : ℕ). neg_ℤ (pos x)) f

-- so it is less
pub offset-small : (z : ℤ) → is_belt z ≡ true → offset_of z < 4 * 10 ^ 18
offset-small z e =
    lt_of_not-le (λ h. let m = offset-most z e in let f : offset_of z ≡ 4 * 10 ^ 18 = omega arith in no-bottom z (on-bottom z e f))
