-- The longest leading part of bytes that something of a kind begins with (01, of refusal 9: "the place is the length of the longest leading part that
-- some accepted text begins with"). Assumes nothing.
use Rattle.std.specs.Prelude.{List, ◌++◌, ℕ, ◌≤◌, length, take}

-- a string that is so begins with p
abbrev pub BeginsOne : (P : List ℕ → Type 0) → List ℕ → Type 0
BeginsOne P p = (q : List ℕ) × P (p ++ q)

-- k is the length of the longest leading part of t that such a string begins with
pub record LongestOf (P : List ℕ → Type 0) (t : List ℕ) (k : ℕ) : Type 0 where
  pub within : k ≤ length t
  pub begun : BeginsOne P (take k t)
  pub longest : (j : ℕ) → j ≤ length t → BeginsOne P (take j t) → j ≤ k
