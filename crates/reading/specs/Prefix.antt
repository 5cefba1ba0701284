-- Names as numbers, and which begin which: the computing side of cells and of lying inside. Laws/Named ties it to the grid. Assumes nothing.
use Rattle.std.specs.Prelude.{◌≡◌, ◌⊎◌, List, [], ◌∷◌, ℕ, zero, suc, ◌≤◌, ◌<◌, length}
use Rattle.logic.specs.Lists.{All, Any, Pairwise}
use Rattle.ternary.specs.Digits.{Below}
use Rattle.cell.specs.declared.Cell.{Cell}
use Rattle.code.specs.Code.{digits_of}

-- a face's number, and then digits, coarsest first; or, of a name inside a face, digits alone
abbrev pub Name : Type 0
Name = List ℕ

-- the name of a cell
unfoldable pub numbers_of : Cell → Name
numbers_of c = c.face ∷ digits_of c.resolution c.row c.column

-- p begins with q
abbrev pub Prefix : Name → Name → Type 0
Prefix [] p = Unit {0}
Prefix (a ∷ q) [] = ⊥
Prefix (a ∷ q) (b ∷ p) = (a ≡ b) × Prefix q p

-- p begins with one of these
abbrev pub Covered : List Name → Name → Type 0
Covered qs p = Any (λ (q : Name). Prefix q p) qs

-- n digits
abbrev pub Digs : ℕ → List ℕ → Type 0
Digs zero [] = Unit {0}
Digs zero (b ∷ p) = ⊥
Digs (suc n) [] = ⊥
Digs (suc n) (b ∷ p) = (b < 9) × Digs n p

-- a finest name: a number below m, and then r digits (of the whole grid, one of 6 faces and 15 digits)
abbrev pub FinestName : (m r : ℕ) → Name → Type 0
FinestName m r [] = ⊥
FinestName m r (b ∷ p) = (b < m) × Digs r p

-- these begin the same finest names
abbrev pub SameNames : (m r : ℕ) → List Name → List Name → Type 0
SameNames m r qs ps = (p : Name) → FinestName m r p → (Covered qs p → Covered ps p) × (Covered ps p → Covered qs p)

-- a name: a number below m, and at most r digits
abbrev pub IsName : (m r : ℕ) → Name → Type 0
IsName m r [] = ⊥
IsName m r (x ∷ q) = (x < m) × (length q ≤ r) × Below 9 q

abbrev pub AreNames : (m r : ℕ) → List Name → Type 0
AreNames m r qs = All (IsName m r) qs

-- at the first number that differs, q has the smaller one
abbrev pub Ahead : (q p : Name) → Type 0
Ahead [] p = ⊥
Ahead (a ∷ q) [] = ⊥
Ahead (a ∷ q) (b ∷ p) = (a < b) ⊎ ((a ≡ b) × Ahead q p)

abbrev pub AheadAll : Name → List Name → Type 0
AheadAll q qs = All (Ahead q) qs

-- each is ahead of all that come later
abbrev pub InOrder : List Name → Type 0
InOrder qs = Pairwise Ahead qs
