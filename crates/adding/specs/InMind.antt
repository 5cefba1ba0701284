-- Where adding may begin to look: a list that the last name led to. For speed alone: what is added does not depend on it. Assumes nothing.
use Rattle.std.specs.Prelude.{◌≡◌, ◌⊎◌, List, [], ◌∷◌, ℕ, ◌+◌, length, take, get_or}
use Rattle.code.specs.Code.{cell_of}
use Rattle.reading.specs.declared.Level.TheVariants.{Digits}
use Rattle.reading.specs.Reading.{Nodes, end, whole, listed, render}
use Rattle.reading.specs.Prefix.{Name, numbers_of}
use Rattle.reading.specs.TextReading.{nodes_of, body_start}

-- from nodes at place i these numbers, each in the list of the one before it, lead to the list `is`, at the place `at`
abbrev pub LeadsTo : (i : ℕ) → Name → Nodes → (at : ℕ) → Nodes → Type 0
LeadsTo i [] ns at is = (at ≡ i) × (is ≡ ns)
LeadsTo i (x ∷ p) end at is = ⊥
LeadsTo i (x ∷ p) (whole c ns) at is = LeadsTo (i + 1) (x ∷ p) ns at is
LeadsTo i (x ∷ p) (listed c js ns) at is = ((c ≡ x) × LeadsTo (i + 2) p js at is) ⊎ LeadsTo (i + (length (render Digits js) + 3)) (x ∷ p) ns at is

-- three numbers, a place, a depth and a code: so many leading numbers of the code's name lead to a list of the text, at the place
pub record InMind (t near : List ℕ) : Type 0 where
  pub long : length near ≡ 3
  pub list : Nodes
  pub leads : LeadsTo (body_start t) (take (get_or near 1 0) (numbers_of (cell_of (get_or near 2 0)))) (nodes_of t) (get_or near 0 0) list
