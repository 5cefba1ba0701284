-- A row and a column in one number: those of the first digits and of the last put together, and the number taken apart. Assumes nothing.
use mathlib.Core.Path.{◌≡◌, sym, ap₂, ◌∙◌}
use Prim.Native.Nat.{ℕ, ◌+◌, ◌*◌, ◌/◌, ◌%◌, ◌^◌, ◌≤◌, ◌<◌}
use native.Mathlib.Nat.{add-mul, mul_right_comm}
use native.Mathlib.Omega.{arith}
use Rattle.ternary.specs.Weave.{row_in, column_in, both_in}
use Rattle.ternary.proofs.Laws.Weave.{row_small, column-small, row-split, column-split, row_last, column-last}

both_small : (k p : ℕ) → both_in k p < 3 ^ k * 4294967297
both_small k p = let r = row_small k p in let c = column-small k p in omega arith

each-by-itself : (t a b c d : ℕ) → (a + b * 2 ^ 32) * t + (c + d * 2 ^ 32) ≡ (a * t + c) + (b * t + d) * 2 ^ 32
each-by-itself t a b c d = omega (arith, add-mul a (b * 2 ^ 32) t, mul_right_comm b (2 ^ 32) t)

pub both-split : (k r p : ℕ) {a b : ℕ} → a ≡ both_in k (p / 9 ^ r) → b ≡ both_in r (p % 9 ^ r) → a * 3 ^ r + b ≡ both_in (k + r) p
both-split k r p f l =
    let i = row_in k (p / 9 ^ r) in
    let j = column_in k (p / 9 ^ r) in
    ap₂ (λ (x y : ℕ). x * 3 ^ r + y) f l
    ∙ each-by-itself (3 ^ r) i j (row_in r (p % 9 ^ r)) (column_in r (p % 9 ^ r))
    ∙ ap₂ (λ (x y : ℕ). (i * 3 ^ r + x) + (j * 3 ^ r + y) * 2 ^ 32) (row_last r p) (column-last r p)
    ∙ sym (ap₂ (λ (x y : ℕ). x + y * 2 ^ 32) (row-split k r p) (column-split k r p))

-- and it fits a word
pub both-fits :
    (k r p : ℕ) {a b : ℕ} → 3 ^ (k + r) * 4294967297 ≤ 2 ^ 64 → a ≡ both_in k (p / 9 ^ r) → b ≡ both_in r (p % 9 ^ r) → a * 3 ^ r + b < 2 ^ 64
both-fits k r p l f s = let e = both-split k r p f s in let h = both_small (k + r) p in omega arith

pub both-apart : {n : ℕ} (k p : ℕ) → 3 ^ k ≤ 4294967296 → n ≡ both_in k p → (n % 2 ^ 32 ≡ row_in k p) × (n / 2 ^ 32 ≡ column_in k p)
both-apart k p l e = let h = row_small k p in (omega arith, omega arith)
