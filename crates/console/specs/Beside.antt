-- The paths on the way into a file's place: that of the file beside it, which is to take its place, and that of its folder. Assumes nothing.
use Rattle.std.specs.Prelude.{◌≡◌, ◌⊎◌, List, [], ◌∷◌, ◌++◌, ℕ, ◌-◌, ◌≤◌, ◌<◌, length, get_or}

-- `.part` behind it
abbrev pub beside_of : List ℕ → List ℕ
beside_of path = path ++ (46 ∷ 112 ∷ 97 ∷ 114 ∷ 116 ∷ [])

-- so much of a path is its folder: up to the last slash
pub record Folder (path : List ℕ) (n : ℕ) : Type 0 where
  pub within : n ≤ length path
  pub slash : (n ≡ 0) ⊎ (get_or path (n - 1) 0 ≡ 47)
  pub last : (i : ℕ) → n ≤ i → i < length path → get_or path i 0 ≡ 47 → ⊥
