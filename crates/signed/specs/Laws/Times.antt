-- Signed numbers taken a natural number of times, and equal differences. Assumes nothing.
use Rattle.std.specs.Prelude.{◌≡◌, refl, ℕ, zero, suc, ◌+◌, ◌-◌, ◌*◌, ℤ, pos, negsuc, neg_ℤ, nat_abs, ◌+ℤ◌, ◌-ℤ◌, ◌*ℤ◌}
use Rattle.std.proofs.Common.{sym, ap, ◌∙◌, mul-add, mul-zero, arith}
use Rattle.std.proofs.Math.IntN.{sub_ℕ, neg_ℤ-neg_ℤ}
use Rattle.signed.specs.Laws.Sign.{by_sign, pos-sub, negsuc-sub, neg-sub, sub_same, sub-size, sub-add, sub-sub}

-- equal differences: the sums crosswise are equal
pub sub-cross : (a b c d : ℕ) → sub_ℕ a b ≡ sub_ℕ c d → a + d ≡ c + b
sub-cross a b c d e =
    let f = sym (sub-sub a b c d) ∙ ap (λ (z : ℤ). sub_ℕ a b -ℤ z) (sym e) ∙ sub-sub a b a b in
    omega (arith, ap nat_abs f, sub-size (a + d) (b + c), sub-size (a + b) (b + a))

-- n (a - b)
pub sub-times : (n a b : ℕ) → pos n *ℤ sub_ℕ a b ≡ sub_ℕ (n * a) (n * b)
sub-times n a b =
    by_sign (λ z. pos n *ℤ z ≡ sub_ℕ (n * a) (n * b)) a b
    (λ h.
    let e : n * (a - b) + n * b ≡ n * a = sym (mul-add n (a - b) b) ∙ ap (λ (x : ℕ). n * x) (omega arith) in
    pos-sub (n * (a - b)) ∙ sub_same (n * (a - b)) 0 (n * a) (n * b) (omega arith))
    (λ h.
    let x : ℕ = suc (b - suc a) in
    let e : n * a + n * x ≡ n * b = sym (mul-add n a x) ∙ ap (λ (y : ℕ). n * y) (omega arith) in
    neg-sub (n * x) ∙ sub_same 0 (n * x) (n * a) (n * b) (omega arith))

-- the opposite n times
pub times-neg : (n : ℕ) (z : ℤ) → neg_ℤ (pos n *ℤ z) ≡ pos n *ℤ neg_ℤ z
times-neg n (pos zero) = rw (mul-zero n)
times-neg n (pos (suc k)) = refl
times-neg n (negsuc k) = neg_ℤ-neg_ℤ (pos (n * suc k))

-- a natural number more or less a difference
pub pos-more : (n a b : ℕ) → pos n +ℤ sub_ℕ a b ≡ sub_ℕ (n + a) b
pos-more n a b = ap (λ (z : ℤ). z +ℤ sub_ℕ a b) (pos-sub n) ∙ sub-add n 0 a b ∙ sub_same (n + a) (0 + b) (n + a) b (omega arith)

pub pos-less : (n a b : ℕ) → pos n -ℤ sub_ℕ a b ≡ sub_ℕ (n + b) a
pos-less n a b = ap (λ (z : ℤ). z -ℤ sub_ℕ a b) (pos-sub n) ∙ sub-sub n 0 a b ∙ sub_same (n + b) (0 + a) (n + b) a (omega arith)

-- every number is a difference
pub a-difference : (z : ℤ) → (a : ℕ) × (b : ℕ) × (z ≡ sub_ℕ a b)
a-difference (pos n) = (n, 0, pos-sub n)
a-difference (negsuc n) = (0, suc n, negsuc-sub n)
