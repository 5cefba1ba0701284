-- What the whole test says of the node that has the code at hand inside, and how far it has come. Assumes nothing.
use Rattle.std.specs.Prelude.{◌≡◌, List, ℕ, ◌+◌, ◌≤◌, ◌<◌, length}
use Rattle.reading.specs.Prefix.{Name}
use Rattle.writing.specs.Internal.Measure.{size_from, NodeAt, NodeTakes}

-- the node takes the codes up to the place r and is whole, or r is the place at hand and the node is not whole
pub record WholeUntil (codes : List ℕ) (at start size r : ℕ) : Type 0 where
  pub whole : (r ≡ at → ⊥) → (w : Name) (k : ℕ) → NodeAt codes at w start size k → (bytes : ℕ) × NodeTakes codes at w k r bytes 1
  pub held : r ≡ at → (w : Name) (k : ℕ) → NodeAt codes at w start size k → (next : ℕ) × (bytes : ℕ) × NodeTakes codes at w k next bytes 0
  pub inside : r ≤ length codes
  pub finest : size < 9 → r ≡ at → ⊥

-- the codes up to the place i cover the cell from its first finest cell to before the position
pub record CoveredTo (codes : List ℕ) (at start size i position : ℕ) : Type 0 where
  pub from : at ≤ i
  pub to : i ≤ length codes
  pub left : position < start + size
  pub sum : position + size_from codes i ≡ start + size_from codes at
