-- Laws of powers of three and of nine. Assumes nothing.
use Rattle.std.specs.Prelude.{◌≡◌, refl, true, ℕ, zero, suc, ◌+◌, ◌-◌, ◌*◌, ◌^◌, ◌≤◌, ◌<◌, get_or}
use Rattle.std.proofs.Common.{sym, ap, ap₂, ◌∙◌, add-one, pow-suc, mul_assoc, mul_comm, mul_left_comm, zero-lt-suc, arith, pow-add}
use Rattle.std.proofs.Math.Nat.{one-le-pow, pow-le-pow_right}
use Rattle.logic.specs.Table.{follows}
use Rattle.logic.specs.Laws.Table.{table-entry}
use Rattle.ternary.specs.Internal.Powers.{powers}

-- "Powers of three .. come from a short table, its rule shown once" (02, W-213): one test, computed over the whole table, gives each entry
powers-follow : follows (λ (e : ℕ). 3 ^ e) 0 powers ≡ true
unfolding follows powers
powers-follow = refl

pub power-entry : (e : ℕ) → e ≤ 15 → get_or powers e 0 ≡ 3 ^ e
unfolding powers
power-entry e h = table-entry (λ (x : ℕ). 3 ^ x) powers powers-follow e (omega arith)

pub next_power : (i : ℕ) → 3 ^ (i + 1) ≡ 3 ^ i * 3
next_power i = ap (λ (x : ℕ). 3 ^ x) (add-one i) ∙ pow-suc 3 i

pub power_le : {i j : ℕ} → i ≤ j → 3 ^ i ≤ 3 ^ j
power_le h = pow-le-pow_right (zero-lt-suc 2) h

pub power_pos : (i : ℕ) → 0 < 3 ^ i
power_pos i = one-le-pow i 3 (zero-lt-suc 2)

pub nine-le : {i j : ℕ} → i ≤ j → 9 ^ i ≤ 9 ^ j
nine-le h = pow-le-pow_right (zero-lt-suc 8) h

pub nine-pos : (i : ℕ) → 0 < 9 ^ i
nine-pos i = one-le-pow i 9 (zero-lt-suc 8)

-- 9^15 is 9^k times 9^(15-k)
pub nine-split : (k : ℕ) → k ≤ 15 → 9 ^ k * 9 ^ (15 - k) ≡ 9 ^ 15
nine-split k h = let e : k + (15 - k) ≡ 15 = omega arith in sym (pow-add 9 k (15 - k)) ∙ ap (λ (x : ℕ). 9 ^ x) e

pub nine-add : (i j : ℕ) → 9 ^ (i + j) ≡ 9 ^ i * 9 ^ j
nine-add i j = pow-add 9 i j

pub power-add : (i j : ℕ) → 3 ^ (i + j) ≡ 3 ^ i * 3 ^ j
power-add i j = pow-add 3 i j

pub nine-lt : (i j : ℕ) → i < j → 9 ^ i < 9 ^ j
nine-lt i j h =
    let p : 9 ^ suc i ≤ 9 ^ j = nine-le {i = suc i} {j = j} h in
    let e : 9 ^ suc i ≡ 9 ^ i * 9 = pow-suc 9 i in
    let q : 0 < 9 ^ i = nine-pos i in
    omega arith

-- 9^i is the square of 3^i
pub nine-square : (i : ℕ) → 9 ^ i ≡ 3 ^ i * 3 ^ i
nine-square zero = refl
nine-square (suc i) =
    let a : 9 ^ suc i ≡ 9 ^ i * 9 = pow-suc 9 i in
    let b : 3 ^ suc i ≡ 3 ^ i * 3 = pow-suc 3 i in
    let e : 3 ^ i * 3 * (3 ^ i * 3) ≡ 3 ^ i * 3 ^ i * 3 * 3 = simp (mul_assoc, mul_comm, mul_left_comm) in
    let d : 3 ^ suc i * 3 ^ suc i ≡ 3 ^ i * 3 * (3 ^ i * 3) = ap₂ ◌*◌ b b in
    let f = nine-square i in
    omega arith
