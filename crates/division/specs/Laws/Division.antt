-- Laws of quotients. A quotient n / d by a variable is known by its two sides, which `omega` reads: n / d * d ≤ n < n / d * d + d. Assumes nothing.
use Rattle.std.specs.Prelude.{◌≡◌, ℕ, ◌+◌, ◌*◌, ◌/◌, ◌%◌, ◌^◌, ◌≤◌, ◌<◌}
use Rattle.std.proofs.Common.{sym, ap, ◌∙◌, div-add-mod', mod-lt, pow-suc, add-mul, mul_right_comm, lt_of_mul-lt-mul_right, add-one, arith}
use Rattle.std.proofs.Math.Nat.{mul-lt-mul_of_pos_left}
use Rattle.std.proofs.Math.Arith.{digits_div, digits_mod}

-- ---- the two sides

pub low : (n d : ℕ) → n / d * d ≤ n
low n d = omega (arith, div-add-mod' n d)

pub high : (n d : ℕ) → 0 < d → n < n / d * d + d
high n d h = omega (arith, div-add-mod' n d, mod-lt n h)

-- a quotient and its rest from the one equation
pub whole_is : (q x : ℕ) {n d : ℕ} → q * d + x ≡ n → x < d → q ≡ n / d
whole_is q x {n} {d} e h = sym (digits_div q h) ∙ ap (λ (y : ℕ). y / d) e

pub rest-is : (q x : ℕ) {n d : ℕ} → q * d + x ≡ n → x < d → x ≡ n % d
rest-is q x {n} {d} e h = sym (digits_mod q h) ∙ ap (λ (y : ℕ). y % d) e

-- ---- long division: with q d + x = p n, one digit more in base b

pub next_power : (b i : ℕ) → b ^ (i + 1) ≡ b ^ i * b
next_power b i = ap (λ (x : ℕ). b ^ x) (add-one i) ∙ pow-suc b i

pub digit : (b p q x n d : ℕ) → q * d + x ≡ p * n → (q * b + x * b / d) * d + x * b % d ≡ p * b * n
digit b p q x n d e =
    let y : ℕ = x * b in
    let s : y / d * d + y % d ≡ y = div-add-mod' y d in
    let a : (q * b + y / d) * d ≡ q * b * d + y / d * d = add-mul (q * b) (y / d) d in
    let c : q * b * d ≡ q * d * b = mul_right_comm q b d in
    let f : p * b * n ≡ p * n * b = mul_right_comm p b n in
    let g : (q * d + x) * b ≡ q * d * b + x * b = add-mul (q * d) x b in
    let h : (q * d + x) * b ≡ p * n * b = ap (λ (z : ℕ). z * b) e in
    omega arith

-- the quotient of p n by d is below p, where n is below d
pub whole-lt : (p q x n d : ℕ) → q * d + x ≡ p * n → n < d → 0 < p → q < p
whole-lt p q x n d e h l = lt_of_mul-lt-mul_right d (let k : p * n < p * d = mul-lt-mul_of_pos_left h l in omega arith)
