-- Bytes put into lent memory. Assumes nothing.
use Rattle.std.specs.Prelude.{◌≡◌, List, ◌++◌, ℕ, ◌+◌, length, take, drop}

-- from a place on
abbrev pub put_at : (at : ℕ) (bytes out : List ℕ) → List ℕ
put_at at bytes out = take at out ++ (bytes ++ drop (at + length bytes) out)

-- what holds then, and the place where they end
pub record Put (at : ℕ) (bytes out later : List ℕ) (end : ℕ) : Type 0 where
  pub ends : end ≡ at + length bytes
  pub is : later ≡ put_at at bytes out
