-- Products and orders of numbers by their words. Assumes nothing.
use mathlib.Core.Path.{◌≡◌, refl, sym, ap, ap₂, ◌∙◌}
use mathlib.Core.Logic.{⊎_elim}
use Prim.Native.Nat.{ℕ, suc, ◌+◌, ◌*◌, ◌/◌, ◌%◌, ◌≤◌, ◌<◌}
use native.Mathlib.Nat.{mul-add, add-mul, mul_assoc, mul_comm, mul_left_comm, mul_right_comm, add_assoc, add_comm, add_left_comm, mul-le-mul}
use native.Mathlib.Nat.{div-add-mod', lt_of_mul-lt-mul_right, lt_of_le_of_lt, lt_of_lt_of_le, le_trans, le-add_right, le_of_eq, mul-lt-mul_of_pos_left, lt-suc_self}
use native.Mathlib.Omega.{arith}
use lib.Arith.{digits_lt}
use lib.Dec.{leb}
use borrow.Author.Tests.{le-leb, lt-leb}
use Rattle.logic.specs.Laws.Order.{lt-or}

-- ---- products

-- products of two sums, sorted
expand : (P x₁ x₀ y₁ y₀ : ℕ) → (x₁ * P + x₀) * (y₁ * P + y₀) ≡ x₁ * y₁ * (P * P) + x₁ * y₀ * P + x₀ * y₁ * P + x₀ * y₀
expand P x₁ x₀ y₁ y₀ = simp (mul-add, add-mul, mul_assoc, mul_comm, mul_left_comm, add_assoc, add_comm, add_left_comm) refl

-- the four products of halves
pub halves : (a b : ℕ)
    → a * b ≡ a / 4294967296 * (b / 4294967296) * 18446744073709551616 + a / 4294967296 * (b % 4294967296) * 4294967296 + a % 4294967296 * (b / 4294967296) * 4294967296 + a % 4294967296
    * (b % 4294967296)
halves a b =
    ap₂ ◌*◌ (sym (div-add-mod' a 4294967296)) (sym (div-add-mod' b 4294967296))
    ∙ expand 4294967296 (a / 4294967296) (a % 4294967296) (b / 4294967296) (b % 4294967296)

-- a product of two halves
pub half_product : (x y : ℕ) → x < 4294967296 → y < 4294967296 → x * y ≤ 18446744065119617025
half_product x y hx hy = mul-le-mul {n₂ = 4294967295} {m₂ = 4294967295} (omega arith) (omega arith)

-- The upper word of a product leaves room for a carry. In any base W = U + 1: `omega` stops at numbers of more than 38 digits.
pub room : (U h l a b : ℕ) → 0 < U → h * suc U + l ≡ a * b → a ≤ U → b ≤ U → h < U
room U h l a b p e x y =
    lt_of_mul-lt-mul_right (suc U)
    (lt_of_le_of_lt (le_trans (le-add_right (h * suc U) l) (le_of_eq e))
    (lt_of_le_of_lt (mul-le-mul x y) (mul-lt-mul_of_pos_left {m = U} {n = suc U} {k = U} (lt-suc_self U) p)))

-- the words of (a₁ W + a₀) b, from those of a₀ b, of a₁ b and of the middle sum
pub columns : (W h₁ h₀ l₁ l₀ c m a₁ a₀ b : ℕ) → l₁ * W + l₀ ≡ a₀ * b → h₁ * W + h₀ ≡ a₁ * b → c * W + m ≡ l₁ + h₀ →
    ((h₁ + c) * W + m) * W + l₀ ≡ (a₁ * W + a₀) * b
columns W h₁ h₀ l₁ l₀ c m a₁ a₀ b e f g =
    let s₁ : (h₁ + c) * W ≡ h₁ * W + c * W = add-mul h₁ c W in
    let u : (h₁ + c) * W + m ≡ a₁ * b + l₁ = omega arith in
    let s₂ : (a₁ * b + l₁) * W ≡ a₁ * b * W + l₁ * W = add-mul (a₁ * b) l₁ W in
    let s₃ : (a₁ * W + a₀) * b ≡ a₁ * W * b + a₀ * b = add-mul (a₁ * W) a₀ b in
    let s₄ : a₁ * W * b ≡ a₁ * b * W = mul_right_comm a₁ W b in
    let v : ((h₁ + c) * W + m) * W ≡ (a₁ * b + l₁) * W = ap (λ (x : ℕ). x * W) u in
    omega arith

-- ---- the order of two numbers by their words

-- a higher first word decides
pub higher : (W p q r s : ℕ) → p < q → r < W → p * W + r < q * W + s
higher W p q r s h l = lt_of_lt_of_le (digits_lt h l) (le-add_right (q * W) s)

-- the first words are the same: the last ones decide
pub same : (x a b : ℕ) → leb a b ≡ leb (x + a) (x + b)
same x a b =
    ⊎_elim
    (λ h. lt-leb a b h ∙ sym (lt-leb (x + a) (x + b) (omega arith)))
    (λ h. le-leb a b h ∙ sym (le-leb (x + a) (x + b) (omega arith)))
    (lt-or b a)
