-- Names in rising order, taken in turn by the cells of a tree: the names inside a cell stand together, and those behind it come after. Assumes nothing.
use Rattle.std.specs.Prelude.{◌≡◌, ◌⊎◌, List, [], ◌∷◌, ◌++◌}
use Rattle.reading.specs.Prefix.{Name, Prefix, Ahead, AreNames, InOrder}
use Rattle.reading.specs.Written.{tails}

-- what follows the name w in the names that begin with it
unfoldable pub rests_of : Name → List Name → List Name
rests_of [] qs = qs
rests_of (c ∷ w) qs = rests_of w (tails c qs)

-- q begins with w or comes after it
abbrev pub Since : Name → Name → Type 0
Since w q = Prefix w q ⊎ Ahead w q

abbrev pub Each : (Name → Type 0) → List Name → Type 0
Each F [] = Unit {0}
Each F (q ∷ qs) = F q × Each F qs

-- rising names that a cell w or later ones take
pub record Standing (w : Name) (ss : List Name) : Type 0 where
  pub named : AreNames 6 15 ss
  pub rising : InOrder ss
  pub since : Each (Since w) ss

-- some names at the front, all inside w, were taken
pub record Took (w : Name) (ss rest : List Name) : Type 0 where
  pub front : List Name
  pub split : ss ≡ front ++ rest
  pub inside : Each (Prefix w) front
