-- Floors of parts, m n / d: a part of m is below m, and a part of a third, or of a coarser side, is that of the whole, floored. Assumes nothing.
use Rattle.std.specs.Prelude.{◌≡◌, ℕ, ◌+◌, ◌-◌, ◌*◌, ◌/◌, ◌^◌, ◌≤◌, ◌<◌}
use Rattle.std.proofs.Common.{sym, ap, ◌∙◌, mul_assoc, mul_comm, div-lt_iff_lt-mul, arith}
use Rattle.std.proofs.Math.Nat.{mul-lt-mul_of_pos_left, div-div-eq-div-mul, mul-div-mul_left, mul-div-mul_right}
use Rattle.ternary.proofs.Laws.Powers.{power-add, power_pos}

pub part-lt : (m n d : ℕ) → n < d → 0 < m → m * n / d < m
part-lt m n d h l = (div-lt_iff_lt-mul {k = d} {x = m * n} {y = m} (omega arith)).1 (mul-lt-mul_of_pos_left h l)

-- a floor of a floor
pub part-third : (n d : ℕ) → 3 * n / d / 3 ≡ n / d
part-third n d = div-div-eq-div-mul (3 * n) d 3 ∙ ap (λ (x : ℕ). 3 * n / x) (mul_comm d 3) ∙ mul-div-mul_left n d (omega arith)

-- a part of 3^k, from that of 3^15
pub part-coarser : (k n d : ℕ) → k ≤ 15 → 0 < d → 3 ^ 15 * n / d * 3 ^ k / 3 ^ 15 ≡ 3 ^ k * n / d
part-coarser k n d h d0 =
    let up : ℕ = 3 ^ (15 - k) in
    let u0 : 0 < up = power_pos (15 - k) in
    let f : 15 - k + k ≡ 15 = omega arith in
    let e : 3 ^ 15 ≡ up * 3 ^ k = ap (λ (x : ℕ). 3 ^ x) (sym f) ∙ power-add (15 - k) k in
    let q : ℕ = 3 ^ 15 * n / d in
    let whole : 3 ^ 15 * n ≡ up * (3 ^ k * n) = ap (λ (x : ℕ). x * n) e ∙ mul_assoc up (3 ^ k) n in
    ap (λ (x : ℕ). q * 3 ^ k / x) e
    ∙ mul-div-mul_right q up (power_pos k)
    ∙ ap (λ (x : ℕ). x / d / up) whole
    ∙ div-div-eq-div-mul (up * (3 ^ k * n)) d up
    ∙ ap (λ (x : ℕ). up * (3 ^ k * n) / x) (mul_comm d up)
    ∙ mul-div-mul_left (3 ^ k * n) d u0
