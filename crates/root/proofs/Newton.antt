-- Newton's iteration for a square root, on plain numbers. Assumes nothing.
use mathlib.Core.Path.{◌≡◌, refl, subst}
use mathlib.Core.Logic.{⊎_elim}
use Prim.Native.Nat.{ℕ, zero, suc, ◌+◌, ◌*◌, ◌/◌, ◌≤◌, ◌<◌}
use native.Mathlib.Nat.{le_of_lt, lt-suc_self, zero-lt-suc, le_dest, le_intro, add_comm, add_assoc, add_left_comm, mul_comm, mul-add, add-mul, mul-le-mul_right}
use native.Mathlib.Nat.{div-lt_iff_lt-mul}
use native.Mathlib.Omega.{arith}
use Rattle.logic.specs.Laws.Order.{lt-or}

-- ---- a step

-- For b written a + d: twice a product is d * d less than the two squares
squares_regrouped : (a d : ℕ) → a * (a + d) + a * (a + d) + d * d ≡ (a + d) * (a + d) + a * a
squares_regrouped a d = simp (mul-add, add-mul, mul_comm, add_assoc, add_comm, add_left_comm) refl

products-le-ordered : (a b : ℕ) → a ≤ b → a * b + a * b ≤ b * b + a * a
products-le-ordered a b h =
    subst (λ (x : ℕ). a * x + a * x ≤ x * x + a * a) (le_dest h).1
    (le_intro (a * (a + (le_dest h).0) + a * (a + (le_dest h).0)) ((le_dest h).0 * (le_dest h).0) (squares_regrouped a (le_dest h).0))

-- so the mean of two numbers is at least the root of their product
products_le_squares : (a b : ℕ) → a * b + a * b ≤ b * b + a * a
products_le_squares a b =
    ⊎_elim (λ h. omega (arith, products-le-ordered b a (le_of_lt h), mul_comm a b)) (λ h. products-le-ordered a b h) (lt-or b a)

-- With q for n / r and m for one more than the new guess: n is below the next multiple of r, (q + 1) * r, and r + q is below m twice.
-- So r * r + (q + 1) * r, which is (r + q + 1) * r, is at most m * r twice, and so at most r * r + m * m: n < (q + 1) * r ≤ m * m.
above : (n r q m : ℕ) → n < suc q * r → r + q < m + m → n < m * m
above n r q m next twice =
    let s : (r + suc q) * r ≤ (m + m) * r = mul-le-mul_right r (omega arith) in
    omega (arith, add-mul r (suc q) r, add-mul m m r, products_le_squares m r)

-- the new guess, from any guess above 0, is at least the root
pub newton_above : (n r : ℕ) → 0 < r → n < ((r + n / r) / 2 + 1) * ((r + n / r) / 2 + 1)
newton_above n r h = above n r (n / r) ((r + n / r) / 2 + 1) ((div-lt_iff_lt-mul h).0 (lt-suc_self (n / r))) (omega arith)

-- a number whose square is above another is above 0
pub square-pos : (n r : ℕ) → n < r * r → 0 < r
square-pos n zero h = absurd (omega arith)
square-pos n (suc r) h = zero-lt-suc r

-- the new guess, from one whose square is above n, is smaller: n / r is below r
pub newton_below : (n r : ℕ) → n < r * r → (r + n / r) / 2 < r
newton_below n r h = let q : n / r < r = (div-lt_iff_lt-mul (square-pos n r h)).1 h in omega arith
