-- What one whole cell adds to each counter: a cell of resolution 2 or coarser fills the counters inside it, a finer one lies in one. Assumes nothing.
use mathlib.Core.Path.{◌≡◌, refl, sym, ap, ap₂, ◌∙◌}
use mathlib.Core.Logic.{⊎_elim}
use mathlib.Core.Bool.{Bool, cond}
use Prim.Native.Nat.{ℕ, zero, suc, ◌+◌, ◌-◌, ◌*◌, ◌/◌, ◌^◌, ◌≤◌, ◌<◌}
use native.Mathlib.Omega.{arith}
use Rattle.logic.specs.Laws.Order.{lt-or, three_ways}
use Rattle.ternary.proofs.Laws.Powers.{nine-le, nine-pos, nine-add}
use Rattle.code.proofs.Laws.Inside.{range-of}
use Rattle.code.specs.Number.{start_as, end_as}
use Rattle.counting.specs.Count.{count_of, between}
use Rattle.counting.specs.Laws.Count.{count_none, count-all, count-between, between_in, between-below, between-above}
use Rattle.summary.specs.Internal.Raised.{in_counter, amounts}

amount-in : (first n amount x : ℕ) → first ≤ x → x < first + n → amounts first n amount x ≡ amount
amount-in first n amount x l h = ap (λ (b : Bool). cond b amount 0) (between_in first (first + n) x l h)

amount-below : (first n amount x : ℕ) → x < first → amounts first n amount x ≡ 0
amount-below first n amount x h = ap (λ (b : Bool). cond b amount 0) (between-below first (first + n) x h)

amount-above : (first n amount x : ℕ) → first + n ≤ x → amounts first n amount x ≡ 0
amount-above first n amount x h = ap (λ (b : Bool). cond b amount 0) (between-above first (first + n) x h)

-- the finest cells from s on, z of them, in the block of counter x
abbrev in_block : (s z x : ℕ) → ℕ
in_block s z x = count_of (9 ^ 13) (x * 9 ^ 13) (between s (s + z))

block-before : (s z x : ℕ) → x * 9 ^ 13 + 9 ^ 13 ≤ s → in_block s z x ≡ 0
block-before s z x h = count_none (9 ^ 13) (x * 9 ^ 13) (between s (s + z)) (λ y a b. between-below s (s + z) y (omega arith))

block-behind : (s z x : ℕ) → s + z ≤ x * 9 ^ 13 → in_block s z x ≡ 0
block-behind s z x h = count_none (9 ^ 13) (x * 9 ^ 13) (between s (s + z)) (λ y a b. between-above s (s + z) y (omega arith))

block-full : (s z x : ℕ) → s ≤ x * 9 ^ 13 → x * 9 ^ 13 + 9 ^ 13 ≤ s + z → in_block s z x ≡ 9 ^ 13
block-full s z x h k = count-all (9 ^ 13) (x * 9 ^ 13) (between s (s + z)) (λ y a b. between_in s (s + z) y (omega arith) (omega arith))

block-part : (s z x : ℕ) → x * 9 ^ 13 ≤ s → s + z ≤ x * 9 ^ 13 + 9 ^ 13 → in_block s z x ≡ z
block-part s z x h k =
    let from : ℕ = x * 9 ^ 13 in
    let a : ℕ = s - from in
    let b : ℕ = from + 9 ^ 13 - (s + z) in
    let e : a + (z + b) ≡ 9 ^ 13 = omega arith in
    let f : from + a ≡ s = omega arith in
    ap₂ (λ (n t : ℕ). count_of n from (between t (t + z))) (sym e) (sym f) ∙ count-between a z b from

-- ---- blocks that are filled, and a block that holds the cell

filled : (first n s z x : ℕ) → s ≡ first * 9 ^ 13 → z ≡ n * 9 ^ 13 → in_block s z x ≡ amounts first n (9 ^ 13) x
filled first n s z x d e =
    ⊎_elim (λ h. block-before s z x (omega arith) ∙ sym (amount-below first n (9 ^ 13) x h))
    (λ h.
    ⊎_elim (λ k. block-full s z x (omega arith) (omega arith) ∙ sym (amount-in first n (9 ^ 13) x h k))
    (λ k. block-behind s z x (omega arith) ∙ sym (amount-above first n (9 ^ 13) x k)) (lt-or x (first + n)))
    (lt-or x first)

held : (first s z x : ℕ) → first * 9 ^ 13 ≤ s → s + z ≤ first * 9 ^ 13 + 9 ^ 13 → in_block s z x ≡ amounts first 1 z x
held first s z x d e =
    ⊎_elim (λ h. block-before s z x (omega arith) ∙ sym (amount-below first 1 z x h))
    (⊎_elim (λ h. block-part s z x (omega arith) (omega arith) ∙ sym (amount-in first 1 z x (omega arith) (omega arith)))
    (λ h. block-behind s z x (omega arith) ∙ sym (amount-above first 1 z x (omega arith))))
    (three_ways x first)

-- ---- a cell of resolution k and number n

-- a finer cell's finest cells are all in one block
one_block : (k n : ℕ) → 2 ≤ k → k ≤ 15 → let s = n * 9 ^ (15 - k) in (s / 9 ^ 13 * 9 ^ 13 ≤ s) × (s + 9 ^ (15 - k) ≤ s / 9 ^ 13 * 9 ^ 13 + 9 ^ 13)
one_block k n l h =
    let m : ℕ = 9 ^ (k - 2) in
    let z : ℕ = 9 ^ (15 - k) in
    let s : ℕ = n * z in
    let i : 13 ≡ (k - 2) + (15 - k) = omega arith in
    let e : m * z ≡ 9 ^ 13 = sym (ap (λ (x : ℕ). 9 ^ x) i ∙ nine-add (k - 2) (15 - k)) in
    let r = range-of (n / m) n m z (nine-pos (k - 2)) (nine-pos (15 - k)) refl in
    let f : n / m * (m * z) ≡ n / m * 9 ^ 13 = ap (λ (x : ℕ). n / m * x) e in
    let p : 0 < z = nine-pos (15 - k) in
    (omega arith, omega arith)

pub cell-held : (k n x : ℕ) → k ≤ 15 → 9 ^ (15 - k) < 9 ^ 13 → in_counter k n x ≡ amounts (n * 9 ^ (15 - k) / 9 ^ 13) 1 (9 ^ (15 - k)) x
unfolding in_counter start_as end_as
cell-held k n x h l =
    ⊎_elim (λ c. absurd (let m : 9 ^ 13 ≤ 9 ^ (15 - k) = nine-le {i = 13} {j = 15 - k} (omega arith) in omega arith))
    (λ c. let b = one_block k n c h in held (n * 9 ^ (15 - k) / 9 ^ 13) (n * 9 ^ (15 - k)) (9 ^ (15 - k)) x b.0 b.1) (lt-or k 2)

pub cell-filled : (k n x : ℕ) → k ≤ 15 → 9 ^ 13 ≤ 9 ^ (15 - k) → in_counter k n x ≡ amounts (n * 9 ^ (15 - k) / 9 ^ 13) (9 ^ (15 - k) / 9 ^ 13) (9 ^ 13) x
unfolding in_counter start_as end_as
cell-filled zero n x h l = filled (n * 9 ^ 15 / 9 ^ 13) 81 (n * 9 ^ 15) (9 ^ 15) x (omega arith) refl
cell-filled (suc zero) n x h l = filled (n * 9 ^ 14 / 9 ^ 13) 9 (n * 9 ^ 14) (9 ^ 14) x (omega arith) refl
cell-filled (suc (suc zero)) n x h l = filled (n * 9 ^ 13 / 9 ^ 13) 1 (n * 9 ^ 13) (9 ^ 13) x (omega arith) refl
cell-filled (suc (suc (suc k))) n x h l =
    let m : 9 ^ (15 - suc (suc (suc k))) ≤ 9 ^ 12 = nine-le {i = 15 - suc (suc (suc k))} {j = 12} (omega arith) in absurd (omega arith)
