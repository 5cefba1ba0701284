-- One rounding of a fraction in the normal range is within one part in 2 ^ prec of it. Assumes nothing.
use Rattle.std.specs.Prelude.{◌≡◌, not, T, eqb}
use Rattle.std.proofs.Common.{sym, ap, ◌∙◌, subst, le_trans, le_of_eq, mul_comm, mul_assoc, mul_left_comm, add-mul, mul-le-mul_right, div-add-mod', mod-lt, mul-add, le-div_iff_mul-le, mul-pos, arith, leb→le, eqb→eq, pow-add, pow_pos}
use Prim.Native.Nat.{ℕ, suc, ◌+◌, ◌-◌, ◌*◌, ◌/◌, ◌%◌, ◌^◌, ◌≤◌, ◌<◌, compare, Ordering}
use Rattle.std.proofs.Math.Dec.{is_le, compare_is_eq, nleb→lt, eqb_refl}
use Rattle.std.proofs.Math.Arith.{lt_of_le-ne}
use Rattle.std.specs.Float.{Format}
use Rattle.std.specs.Float.Ieee.{prec, low, size, nearest}
use Rattle.std.specs.Float.Ieee.Digits.{size_reaches}
use Rattle.std.specs.Float.Ieee.Fits.{two, two-le_pos}
use Rattle.std.specs.Float.Ieee.Nearest.{closest}
use Rattle.std.specs.Float.Ieee.Order.{drop, kept}
use Rattle.std.specs.Float.Ieee.Scale.{grid}
use Rattle.metres.specs.Metres.{Near}

-- ---- what `compare` says
abbrev Cmp : Ordering → ℕ → ℕ → Type 0
Cmp Ordering.lt a b = a < b
Cmp Ordering.eq a b = a ≡ b
Cmp Ordering.gt a b = b < a

cmp : (a b : ℕ) → Cmp (compare a b) a b
cmp a b = go (compare a b) (leb→le a b) (nleb→lt a b) (eqb→eq a b) (λ (e : a ≡ b). subst (λ (x : ℕ). T (eqb a x)) e (eqb_refl a))
  where
    go : (o : Ordering) → (T (is_le o) → a ≤ b) → (T (not (is_le o)) → b < a) → (T (compare_is_eq o) → a ≡ b) → (a ≡ b → T (compare_is_eq o)) → Cmp o a b
    go Ordering.lt h k e n = lt_of_le-ne (h tt) n
    go Ordering.eq h k e n = e tt
    go Ordering.gt h k e n = k tt

-- ---- q * u, or (q + 1) * u, is at most half of u from n = q * u + r
half_up : (q : ℕ) (o : Ordering) (n r u : ℕ) → Cmp o (r * 2) u → q * u + r ≡ n → nearest q o * u * 2 ≤ n * 2 + u
half_up q Ordering.lt n r u h e = omega arith
half_up q Ordering.eq n r u h e =
    let a : (q + q % 2) * u ≡ q * u + q % 2 * u = add-mul q (q % 2) u in
    let b : q % 2 * u ≤ 1 * u = mul-le-mul_right u (omega arith) in
    omega arith
half_up q Ordering.gt n r u h e =
    let a : (q + 1) * u ≡ q * u + 1 * u = add-mul q 1 u in
    let s : suc q * u ≡ (q + 1) * u = ap (λ (z : ℕ). z * u) (omega arith) in
    omega arith

half_down : (q : ℕ) (o : Ordering) (n r u : ℕ) → Cmp o (r * 2) u → r < u → q * u + r ≡ n → n * 2 ≤ nearest q o * u * 2 + u
half_down q Ordering.lt n r u h k e = omega arith
half_down q Ordering.eq n r u h k e =
    let a : (q + q % 2) * u ≡ q * u + q % 2 * u = add-mul q (q % 2) u in
    omega arith
half_down q Ordering.gt n r u h k e =
    let a : (q + 1) * u ≡ q * u + 1 * u = add-mul q 1 u in
    let s : suc q * u ≡ (q + 1) * u = ap (λ (z : ℕ). z * u) (omega arith) in
    omega arith

closest-up : (n u : ℕ) → closest n u * u * 2 ≤ n * 2 + u
closest-up n u = half_up (n / u) (compare (n % u * 2) u) n (n % u) u (cmp (n % u * 2) u) (div-add-mod' n u)

closest-down : (n u : ℕ) → 0 < u → n * 2 ≤ closest n u * u * 2 + u
closest-down n u U = half_down (n / u) (compare (n % u * 2) u) n (n % u) u (cmp (n % u * 2) u) (mod-lt n U) (div-add-mod' n u)

-- ---- from half a unit to one part in h * 2, where n is h units at least
near_up : (K u n h : ℕ) → K * u * 2 ≤ n * 2 + u → u * h ≤ n → K * u * (h * 2) ≤ n * (h * 2 + 1)
near_up K u n h a b =
    let A : K * u * 2 * h ≤ (n * 2 + u) * h = mul-le-mul_right h a in
    let B : (n * 2 + u) * h ≡ n * 2 * h + u * h = add-mul (n * 2) u h in
    let C : K * u * (h * 2) ≡ K * u * 2 * h = simp (mul_assoc, mul_comm, mul_left_comm) in
    let D : n * (h * 2 + 1) ≡ n * (h * 2) + n * 1 = mul-add n (h * 2) 1 in
    let E : n * (h * 2) ≡ n * 2 * h = simp (mul_assoc, mul_comm, mul_left_comm) in
    omega arith

near_down : (K u n h : ℕ) → n * 2 ≤ K * u * 2 + u → u * h ≤ n → n * (h * 2) ≤ K * u * (h * 2) + n
near_down K u n h a b =
    let A : n * 2 * h ≤ (K * u * 2 + u) * h = mul-le-mul_right h a in
    let B : (K * u * 2 + u) * h ≡ K * u * 2 * h + u * h = add-mul (K * u * 2) u h in
    let C : K * u * (h * 2) ≡ K * u * 2 * h = simp (mul_assoc, mul_comm, mul_left_comm) in
    let E : n * (h * 2) ≡ n * 2 * h = simp (mul_assoc, mul_comm, mul_left_comm) in
    omega arith

all-used : (z p : ℕ) → 0 < p → p ≤ z → p - 1 + (z - p) < z
all-used z p P h = omega arith

half_pow : (p : ℕ) → 0 < p → 2 ^ p ≡ 2 ^ (p - 1) * 2
half_pow p P = ap (λ (z : ℕ). 2 ^ z) (same p P) ∙ pow-add 2 (p - 1) 1
  where
    same : (p : ℕ) → 0 < p → p ≡ p - 1 + 1
    same p P = omega arith

-- a fraction in the normal range is 2 ^ (prec - 1) of the units that its rounding counts, at least
full : (p n c : ℕ) → 0 < p → 0 < c → p ≤ size (n / c) → c * 2 ^ drop p n c * 2 ^ (p - 1) ≤ n
full p n c P C N =
    let k = drop p n c in
    let w = n / c in
    let a : 2 ^ (p - 1 + k) ≤ w = size_reaches w (p - 1 + k) (all-used (size w) p P N) in
    let b : 2 ^ (p - 1 + k) * c ≤ n = (le-div_iff_mul-le C).0 a in
    le_trans (le_of_eq (simp (mul_assoc, mul_comm, mul_left_comm, pow-add))) b

-- THE LEMMA: one rounding of a fraction a / c in the normal range is within one part in 2 ^ prec of it
pub grid-near : (f : Format) (a c : ℕ) → 0 < c → prec f ≤ size (a * 2 ^ low f / c) → Near (2 ^ prec f) a c (grid f a c) (2 ^ low f)
grid-near f a c C N =
    let p = prec f in
    let P : 0 < p = two-le_pos p (two f) in
    let n = a * 2 ^ low f in
    let k = drop p n c in
    let u = c * 2 ^ k in
    let K = kept p n c in
    let h = 2 ^ (p - 1) in
    let F : u * h ≤ n = full p n c P C N in
    let G : K * 2 ^ k * c ≡ K * u = simp (mul_assoc, mul_comm, mul_left_comm) in
    subst (λ (t : ℕ). Near t a c (grid f a c) (2 ^ low f)) (sym (half_pow p P))
    (record {
      above = subst (λ (z : ℕ). z * (h * 2) ≤ n * (h * 2 + 1)) (sym G) (near_up K u n h (closest-up n u) F);
      below = subst (λ (z : ℕ). n * (h * 2) ≤ z * (h * 2) + n) (sym G) (near_down K u n h (closest-down n u (mul-pos C (pow_pos k))) F);
    })
