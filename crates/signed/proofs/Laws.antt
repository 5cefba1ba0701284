-- What the machine's signed steps compute to. Assumes nothing.
use mathlib.Core.Path.{◌≡◌, refl, sym, ap, ◌∙◌, subst}
use mathlib.Core.Bool.{true, false, true≢false}
use Prim.Native.Nat.{ℕ, zero, suc, ◌+◌, ◌^◌, ◌<◌}
use native.Mathlib.Numerals.{add-one}
use native.Mathlib.Omega.{arith}
use lib.IntN.{ℤ, pos, negsuc, neg_ℤ, nat_abs, +ℤ_idl, ◌-ℤ◌}
use lib.Signed.{mag, lt_z, non_neg}
use lib.Dec.{T}
use borrow.Author.Tests.{ltb-true}
use mir.Syntax.{w64}
use mir.Val.{Fits, SFits, to_z, of_z}
use mir.Facts.{to_z_pos}
use Rattle.signed.specs.Laws.Sign.{back, sub_at}

-- for x below 0, -1 - x is one less than x without its sign
pub offset : (x : ℤ) → lt_z x (pos 0) ≡ true → negsuc 0 -ℤ x ≡ pos (mag x)
offset (pos n) t = let h : n < 0 = ltb-true n 0 t in absurd (omega arith)
offset (negsuc n) t = sub_at (suc n) 1 (omega arith) ∙ ap pos (omega arith)

pub offset-size : (x : ℤ) → lt_z x (pos 0) ≡ true → mag x + 1 ≡ nat_abs x
offset-size (pos n) t = let h : n < 0 = ltb-true n 0 t in absurd (omega arith)
offset-size (negsuc n) t = add-one n

-- a number that is not below 0
pub plain : (x : ℤ) → lt_z x (pos 0) ≡ false → x ≡ pos (mag x)
plain (pos n) t = refl
plain (negsuc n) t = absurd (true≢false t)

-- a number that is a natural one below 2^63 fits, and as an unsigned number it is that one
module _ (z : ℤ) (n : ℕ) (e : z ≡ pos n) (h : n < 2 ^ 63) where
  pub pos-fits : SFits w64 z
  pos-fits = subst (λ (x : ℤ). SFits w64 x) (sym e) (record { sfits = h })

  pub unsigned_is : nat_abs (to_z w64 (of_z w64 z)) ≡ n
  unsigned_is = ap nat_abs (back pos-fits ∙ e)

  pub as-unsigned : T (non_neg (to_z w64 (of_z w64 z))) × Fits w64 (nat_abs (to_z w64 (of_z w64 z)))
  as-unsigned = subst (λ (x : ℤ). T (non_neg x) × Fits w64 (nat_abs x)) (sym e ∙ sym (back pos-fits)) (tt, record { fits = omega arith })

-- 0 - n, as the machine has it
neg_small : (n : ℕ) → n < 2 ^ 63 → SFits w64 (neg_ℤ (pos n))
neg_small zero h = record { sfits = h }
neg_small (suc n) h = record { sfits = omega arith }

module _ (n : ℕ) (h : n < 2 ^ 63) where
  neg_is : pos 0 -ℤ to_z w64 n ≡ neg_ℤ (pos n)
  neg_is = ap (λ (z : ℤ). pos 0 -ℤ z) (to_z_pos w64 h) ∙ +ℤ_idl (neg_ℤ (pos n))

  pub neg-fits : SFits w64 (pos 0 -ℤ to_z w64 n)
  neg-fits = subst (λ (z : ℤ). SFits w64 z) (sym neg_is) (neg_small n h)

  pub neg-back : to_z w64 (of_z w64 (pos 0 -ℤ to_z w64 n)) ≡ neg_ℤ (pos n)
  neg-back = back neg-fits ∙ neg_is
