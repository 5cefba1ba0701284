-- Digits of a base, the most significant first. Assumes nothing.
use Rattle.std.specs.Prelude.{ℕ, zero, suc, ◌+◌, ◌*◌, ◌/◌, ◌%◌, ◌^◌, ◌<◌, List, [], ◌∷◌, ◌++◌, length}

-- the number that digits stand for
unfoldable pub value : ℕ → List ℕ → ℕ
value base [] = 0
value base (d ∷ ds) = d * base ^ length ds + value base ds

-- the last k digits of a number
unfoldable pub digits : (base k x : ℕ) → List ℕ
digits base zero x = []
digits base (suc k) x = digits base k (x / base) ++ (x % base ∷ [])

-- every digit is below the base
abbrev pub Below : ℕ → List ℕ → Type 0
Below base [] = Unit {0}
Below base (d ∷ ds) = (d < base) × Below base ds
