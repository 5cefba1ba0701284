-- The floor of a fraction (a - b) / d, towards minus infinity, by its two sides. Assumes nothing.
use Rattle.std.specs.Prelude.{◌≡◌, refl, Bool, true, false, cond, ℕ, zero, suc, ◌+◌, ◌-◌, ◌*◌, ◌/◌, ◌%◌, ◌≤◌, ◌<◌, eqb, ℤ, pos, neg_ℤ}
use Rattle.std.proofs.Common.{sym, ap, ◌∙◌, ⊎_elim, add-zero, add-mul, mul-add, mul-pos, mul_left_comm, mul-le-mul_left, suc-mul, zero-mul, div-add-mod', mod-lt, lt_of_mul-lt-mul_right, arith, ne_eqb}
use Rattle.std.proofs.Math.Nat.{mul-lt-mul_of_pos_left}
use Rattle.logic.specs.Laws.Order.{lt-or}
use Rattle.std.proofs.Math.IntN.{sub_ℕ}
use Rattle.signed.specs.Laws.Sign.{by_sign, pos-sub, negsuc-sub, neg-sub, sub_same}
use Rattle.division.specs.Laws.Division.{low, high}
use Rattle.nucleus.specs.Nucleus.{floor_z}
use Rattle.nucleus.specs.Internal.Caps.{sided}

-- z is p - q, with z d ≤ a - b < (z + 1) d
pub record Floored (a b d : ℕ) (z : ℤ) : Type 0 where
  pub p : ℕ
  pub q : ℕ
  pub is : z ≡ sub_ℕ p q
  pub below : b + p * d ≤ a + q * d
  pub above : a + q * d < b + p * d + d

pub floored : (a b d : ℕ) → 0 < d → Floored a b d (floor_z (sub_ℕ a b) d)
unfolding floor_z
floored a b d d0 =
    by_sign (λ x. Floored a b d (floor_z x d)) a b
    (λ h.
    let l = low (a - b) d in
    let g = high (a - b) d d0 in
    let o = zero-mul d in
    record { p = (a - b) / d; q = 0; is = pos-sub ((a - b) / d); below = omega arith; above = omega arith })
    (λ h.
    let w : ℕ = (b - suc a) / d in
    let l = low (b - suc a) d in
    let g = high (b - suc a) d d0 in
    let o = zero-mul d in
    let s = suc-mul w d in
    record { p = 0; q = suc w; is = negsuc-sub w; below = omega arith; above = omega arith })

-- there is one such number
not-over : {a b d : ℕ} {y z : ℤ} (s : Floored a b d y) (t : Floored a b d z) → s.p + t.q ≤ t.p + s.q
not-over {a} {b} {d} s t =
    let e = add-mul s.p t.q d in
    let f = add-mul t.p s.q d in
    let g = suc-mul (t.p + s.q) d in
    let h = lt_of_mul-lt-mul_right d {m = s.p + t.q} {n = suc (t.p + s.q)} (omega (arith, s.below, t.above)) in
    omega arith

pub floored-one : {a b d : ℕ} {y z : ℤ} → Floored a b d y → Floored a b d z → y ≡ z
floored-one s t =
    let h = not-over s t in
    let k = not-over t s in
    s.is ∙ sub_same s.p s.q t.p t.q (omega arith) ∙ sym t.is

-- -n / d: rounded away from 0 where a rest is left
below-is : (n d : ℕ) → 0 < d → (q : ℕ) → n ≤ q * d → q * d < n + d → floor_z (neg_ℤ (pos n)) d ≡ sub_ℕ 0 q
below-is n d d0 q h l =
    let o = zero-mul d in
    ap (λ (x : ℤ). floor_z x d) (neg-sub n)
    ∙ floored-one (floored 0 n d d0) (record { p = 0; q = q; is = refl; below = omega arith; above = omega arith })

-- by sign and size: the size of the floor, to within one
pub floor-size :
    (south : Bool) (n d : ℕ) → 0 < d → 0 < n → (w : ℕ) × (floor_z (sided south (pos n)) d ≡ sided south (pos w)) × (n ≤ w * d + d) × (w * d ≤ n + d)
unfolding floor_z
floor-size false n d d0 n0 = let l = low n d in let g = high n d d0 in (n / d, refl, omega arith, omega arith)
floor-size true zero d d0 n0 = absurd (omega arith)
floor-size true (suc n) d d0 n0 =
    let l = low n d in let g = high n d d0 in let s = suc-mul (n / d) d in (suc (n / d), refl, omega arith, omega arith)

pub floor-sided :
    (south : Bool) (n a b d : ℕ) → n + b ≡ a → floor_z (sided south (pos n)) d ≡ cond south (floor_z (sub_ℕ b a) d) (floor_z (sub_ℕ a b) d)
floor-sided true n a b d e = ap (λ (x : ℤ). floor_z x d) (neg-sub n ∙ sub_same 0 n b a (omega arith))
floor-sided false n a b d e = ap (λ (x : ℤ). floor_z x d) (pos-sub n ∙ sub_same n 0 a b (omega arith))

-- by the quotient of the size
pub floor-signed :
    (n d : ℕ) → 0 < d → (south : Bool) → cond south (sub_ℕ 0 (n / d + cond (eqb (n % d) 0) 0 1)) (pos (n / d)) ≡ floor_z (sided south (pos n)) d
unfolding floor_z
floor-signed n d d0 false = refl
floor-signed n d d0 true =
    let s = div-add-mod' n d in
    let k = mod-lt n d0 in
    let f : (n / d + 1) * d ≡ n / d * d + d = omega (arith, add-mul (n / d) 1 d) in
    ⊎_elim (λ l. rw (ne_eqb (n % d) 0 (λ z. absurd (omega arith))) (sym (below-is n d d0 (n / d + 1) (omega arith) (omega arith))))
    (λ l. let z : n % d ≡ 0 = omega arith in rw z (ap (sub_ℕ 0) (add-zero (n / d)) ∙ sym (below-is n d d0 (n / d) (omega arith) (omega arith))))
    (lt-or 0 (n % d))

-- both numbers of a fraction times j
pub floor-times :
    (j a b d : ℕ) {x y z : ℕ} → 0 < j → 0 < d → x ≡ j * a → y ≡ j * b → z ≡ j * d → floor_z (sub_ℕ x y) z ≡ floor_z (sub_ℕ a b) d
floor-times j a b d j0 d0 u v w =
    let f = floored a b d d0 in
    let l : j * (b + f.p * d) ≤ j * (a + f.q * d) = mul-le-mul_left j f.below in
    let k : j * (a + f.q * d) < j * (b + f.p * d + d) = mul-lt-mul_of_pos_left f.above j0 in
    let e = mul-add j b (f.p * d) in
    let g = mul-add j a (f.q * d) in
    let h = mul-add j (b + f.p * d) d in
    let p = mul_left_comm j f.p d in
    let q = mul_left_comm j f.q d in
    (λ i. floor_z (sub_ℕ (u i) (v i)) (w i))
    ∙ floored-one (floored (j * a) (j * b) (j * d) (mul-pos j0 d0))
    (record { p = f.p; q = f.q; is = f.is; below = omega arith; above = omega arith })
