-- The order of refusals (01 "Refusal numbers"), and what it is to be the first that applies. Assumes nothing.
use Rattle.std.specs.Prelude.{◌≡◌, ◌⊎◌, Bool, true, false, ◌&&◌, not, cond, List, [], ◌∷◌, ℕ, eqb}

-- "Order where several apply"; 15 comes "after 11" (02, W-208), 19 "before all others" (02, W-214); the settings have 18, "judged before 16", and 17
-- behind all others (02, W-209)
abbrev pub order : List ℕ
order = 19 ∷ 5 ∷ 2 ∷ 1 ∷ 3 ∷ 4 ∷ 6 ∷ 7 ∷ 12 ∷ 13 ∷ 10 ∷ 9 ∷ 14 ∷ 11 ∷ 15 ∷ 8 ∷ 18 ∷ 16 ∷ 17 ∷ []

-- "in writing, 13 is judged on the text of a good list, so there it comes last but for 8"
abbrev pub order_in_writing : List ℕ
order_in_writing = 5 ∷ 2 ∷ 1 ∷ 3 ∷ 4 ∷ 6 ∷ 7 ∷ 12 ∷ 10 ∷ 9 ∷ 14 ∷ 11 ∷ 15 ∷ 13 ∷ 8 ∷ []

-- in a question of a summary, "2 for a finer cell asked, after 4" (02, W-207)
abbrev pub order_in_summary : List ℕ
order_in_summary = 5 ∷ 4 ∷ 2 ∷ 14 ∷ []

-- an entry's refusal numbers, each with the condition under which 01 gives it
abbrev pub Chain : Type 1
Chain = List (ℕ × Type 0)

abbrev pub numbers : Chain → List ℕ
numbers [] = []
numbers (x ∷ xs) = x.0 ∷ numbers xs

-- some of these numbers, in their order, each at most once
unfoldable pub in_order : (order ns : List ℕ) → Bool
in_order os [] = true
in_order [] (n ∷ ns) = false
in_order (o ∷ os) (n ∷ ns) = cond (eqb o n) (in_order os ns) (in_order os (n ∷ ns))

-- r is the number of the first condition that holds; 0 where none does
abbrev pub First : Chain → ℕ → Type 0
First [] r = r ≡ 0
First (x ∷ xs) r = (x.1 × (r ≡ x.0)) ⊎ ((x.1 → ⊥) × First xs r)

pub record FirstOf (xs : Chain) (r : ℕ) : Type 0 where
  pub first : First xs r

abbrev pub Choice : Bool → Type 0 → Type 0 → Type 0
Choice true A B = A
Choice false A B = B

-- "given exactly when": the condition of this number holds, and none of those before it
abbrev pub Applies : Chain → ℕ → Type 0
Applies [] q = ⊥
Applies (x ∷ xs) q = Choice (eqb x.0 q) x.1 ((x.1 → ⊥) × Applies xs q)

-- none of the conditions holds
abbrev pub NoneOf : Chain → Type 0
NoneOf [] = Unit {0}
NoneOf (x ∷ xs) = (x.1 → ⊥) × NoneOf xs

-- no number stands twice
abbrev pub absent : ℕ → List ℕ → Bool
absent n [] = true
absent n (m ∷ ns) = not (eqb n m) && absent n ns

abbrev pub distinct : List ℕ → Bool
distinct [] = true
distinct (n ∷ ns) = absent n ns && distinct ns

-- a number stands once or not at all
abbrev pub once : ℕ → List ℕ → Bool
once q [] = true
once q (n ∷ ns) = cond (eqb n q) (absent q ns) (once q ns)
