-- A reading of a coverage text's body (01 "The coverage text"): "a split of all its bytes into .. faces, nodes and lists by this grammar, with the
-- whole cells in the order they stand". Stated over the greatest depth, and over whether N and S may hold lists. Assumes nothing.
use Rattle.std.specs.Prelude.{◌≡◌, List, [], ◌∷◌, ◌++◌, map, cond, ℕ, suc, ◌+◌, ◌-◌, ◌≤◌, ◌<◌, eqb}
use Rattle.reading.specs.declared.Level.{Level}
use Rattle.reading.specs.declared.Level.TheVariants.{Faces, Belt, Digits}

-- Nodes side by side, in the order they stand: none; or a whole node of this number and further nodes; or a node of this number that holds this
-- list, and further nodes. A face is a node too, whose number is the face's.
pub data Nodes : Type 0 where
  end : Nodes
  whole : ℕ → Nodes → Nodes
  listed : ℕ → Nodes → Nodes → Nodes

-- the byte of number 0: the letter `N`, or the digit `0`
abbrev pub first : Level → ℕ
first Faces = 78
first Belt = 78
first Digits = 48

-- the nodes that stand side by side in a text are its faces
abbrev pub OfFaces : Level → Type 0
OfFaces Faces = Unit {0}
OfFaces Belt = Unit {0}
OfFaces Digits = ⊥

-- six faces, "a digit 0 to 8"
abbrev pub many : Level → ℕ
many Faces = 6
many Belt = 6
many Digits = 9

-- how many digits may lie below a node of number c, where d may lie below the level's nodes; where N and S stand only whole, none below them
abbrev pub room : Level → ℕ → ℕ → ℕ
room Faces c d = d
room Belt c d = cond (eqb c 0) 0 (cond (eqb c 5) 0 d)
room Digits c d = d

-- "A face is its letter alone (whole), or its letter and a bracketed list"; "a node is a digit 0 to 8 (whole), or a digit and a bracketed list"
abbrev pub render : Level → Nodes → List ℕ
render l end = []
render l (whole c ns) = (first l + c) ∷ render l ns
render l (listed c is ns) = (first l + c) ∷ 40 ∷ (render Digits is ++ (41 ∷ render l ns))

-- the whole nodes that stand in these nodes themselves, not in a list inside
abbrev pub wholes : Nodes → ℕ
wholes end = 0
wholes (whole c ns) = suc (wholes ns)
wholes (listed c is ns) = wholes ns

-- "one or more nodes"
abbrev pub Some : Nodes → Type 0
Some end = ⊥
Some (whole c ns) = Unit {0}
Some (listed c is ns) = Unit {0}

-- Nodes of the grammar: "letters strictly rising", "digits strictly rising", from the number lo on. "A list is `(`, one or more nodes .., `)`."
-- "A list never consists of nine whole nodes. Nothing lies deeper than" d digits.
abbrev pub Good : Level → ℕ → ℕ → Nodes → Type 0
Good l d lo end = Unit {0}
Good l d lo (whole c ns) = (lo ≤ c) × (c < many l) × Good l d (suc c) ns
Good l d lo (listed c is ns) =
    (lo ≤ c) × (c < many l) × (0 < room l c d) × Some is × (wholes is ≡ 9 → ⊥) × Good Digits (room l c d - 1) 0 is × Good l d (suc c) ns

-- The whole cells' names as numbers, in the order they stand: "the face letter, then the digits whose lists it stands in, outermost first, then itself"
abbrev pub names : Nodes → List (List ℕ)
names end = []
names (whole c ns) = (c ∷ []) ∷ names ns
names (listed c is ns) = map (λ (q : List ℕ). c ∷ q) (names is) ++ names ns
