pub mod Cell
pub mod Course
pub mod Crossing
pub mod Faces
pub mod Found
pub mod Hierarchy
pub mod Line
pub mod Neighbour
pub mod Towards
pub mod Turns
-- Small laws of numbers for the step. Assumes nothing.
use mathlib.Core.Path.{◌≡◌, refl, sym, ◌∙◌}
use mathlib.Core.Bool.{Bool, true, false}
use Prim.Native.Nat.{ℕ, suc, ◌+◌, ◌-◌, ◌%◌, ◌<◌, ◌≤◌}
use native.Mathlib.Omega.{arith}
use lib.Dec.{eqb}
use borrow.Author.Tests.{eqb-true, eqb-false, eq-eqb, ne_eqb}

-- none of the first three keys of a `match`
pub fourth : (t : ℕ) → 3 ≤ t → t ≡ suc (suc (suc (t - 3)))
fourth t h = omega arith

-- no turn
pub unturned : (n : ℕ) → n ≤ 3 → (n + 0) % 4 ≡ n
unturned n h = omega arith

-- the last row or column, said by m - 1 and by m
pub eqb-last : (x l m : ℕ) → 0 < m → l ≡ m - 1 → eqb x l ≡ eqb (x + 1) m
eqb-last x l m h e = go (eqb x l) refl
  where
    go : (b : Bool) → eqb x l ≡ b → eqb x l ≡ eqb (x + 1) m
    go true t = let q = eqb-true x l t in t ∙ sym (eq-eqb (x + 1) m (omega arith))
    go false t = let q = eqb-false x l t in t ∙ sym (ne_eqb (x + 1) m (omega arith))
