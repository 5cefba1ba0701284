-- What is put of a change, and where. Assumes nothing.
use Rattle.std.specs.Prelude.{◌≡◌, Bool, true, false, List, [], ◌∷◌, ◌++◌, ℕ, ◌+◌, length, take, drop}

abbrev pub placed : Bool → (p k : ℕ) → List ℕ
placed true p k = p ∷ k ∷ []
placed false p k = []

-- one part more
abbrev pub Put : (out out' : List ℕ) (n n' : ℕ) (x : List ℕ) → Type 0
Put out out' n n' x = (n' ≡ n + length x) × (out' ≡ take n out ++ (x ++ drop (n + length x) out))
