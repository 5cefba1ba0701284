-- The last arm of a `match` takes the number after its keys. Assumes nothing.
use mathlib.Core.Path.{◌≡◌}
use Prim.Native.Nat.{ℕ, zero, suc, ◌+◌, ◌%◌, ◌≤◌, ◌<◌}
use native.Mathlib.Omega.{arith}

-- x is none of the first n numbers, as a `match` says it
abbrev pub Misses : (x n : ℕ) → Type 0
Misses x zero = Unit {0}
Misses x (suc n) = Misses x n × (x ≡ n → ⊥)

beyond : {x : ℕ} (n : ℕ) → Misses x n → n ≤ x
beyond zero m = omega arith
beyond (suc n) m = let h = beyond n m.0 in let d = m.1 in omega arith

pub last-key : {x : ℕ} (n : ℕ) → x ≤ n → Misses x n → x ≡ n
last-key n h m = let b = beyond n m in omega arith

-- the same of 128, 129, .. 255, 0, 1, ..
abbrev pub MissesAround : (x n : ℕ) → Type 0
MissesAround x zero = Unit {0}
MissesAround x (suc n) = MissesAround x n × (x ≡ (n + 128) % 256 → ⊥)

beyond-around : {x : ℕ} (n : ℕ) → n ≤ 256 → x < 256 → MissesAround x n → n ≤ (x + 128) % 256
beyond-around zero l h m = omega arith
beyond-around (suc n) l h m =
    let b = beyond-around n (omega arith) h m.0 in
    let d = m.1 in
    omega arith

pub last-around : {x : ℕ} (n : ℕ) → n < 256 → x < 256 → (x + 128) % 256 ≤ n → MissesAround x n → (x + 128) % 256 ≡ n
last-around n l h k m = let b = beyond-around n (omega arith) h m in omega arith
