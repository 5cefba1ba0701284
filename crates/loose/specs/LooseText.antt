-- The looser text (02, W-206): "Accept this looser body (same letters, digits and bracket nesting, depth 15, no list for a digit that deep, no order or
-- uniqueness asked)" behind the heading of a text of version 1: "rescue still takes 1 only" (W-208). Assumes nothing.
use Rattle.std.specs.Prelude.{◌≡◌, List, ◌∷◌, ◌++◌, ℕ, ◌≤◌}
use Rattle.logic.specs.Longest.{LongestOf}
use Rattle.reading.specs.declared.Level.TheVariants.{Faces}
use Rattle.reading.specs.declared.Profile.TheVariants.{Full}
use Rattle.reading.specs.Reading.{Nodes, render}
use Rattle.reading.specs.Loose.{Loose}
use Rattle.reading.specs.Text.{heading}

-- a reading of a body, and of a text
pub record LooseBody (b : List ℕ) (ns : Nodes) : Type 0 where
  pub loose : Loose Faces 15 ns
  pub all : b ≡ render Faces ns

pub record LooseAs (n s : ℕ) (t : List ℕ) (ns : Nodes) : Type 0 where
  pub north : n ≤ 3
  pub south : s ≤ 3
  pub loose : Loose Faces 15 ns
  pub all : t ≡ heading Full n s ++ render Faces ns

-- bytes that have one
abbrev pub IsBody : List ℕ → Type 0
IsBody b = (ns : Nodes) × LooseBody b ns

abbrev pub LooseText : List ℕ → Type 0
LooseText t = (n : ℕ) × (s : ℕ) × (ns : Nodes) × LooseAs n s t ns

-- "9 for bodies outside the looser form, its place read from that form": the longest leading part that some looser text begins with
abbrev pub LooseLongest : List ℕ → ℕ → Type 0
LooseLongest t k = LongestOf LooseText t k

-- 10: "five bytes or more, mark right, version not 1"
abbrev pub OtherThanOne : List ℕ → Type 0
OtherThanOne t = (d : ℕ) × (e : ℕ) × (u : List ℕ) × (t ≡ 67 ∷ 86 ∷ 82 ∷ d ∷ e ∷ u) × ((d ≡ 0) × (e ≡ 1) → ⊥)
