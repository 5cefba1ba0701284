-- The accepted text of the ground of some cells, computed (01 "The coverage text"): "Writing takes rising codes, none inside another, and gives the
-- accepted text of the same ground." Laws/Written shows that it is accepted and of the same ground, for any cells. Assumes nothing.
use Rattle.std.specs.Prelude.{◌≡◌, ◌⊎◌, Bool, true, false, ◌&&◌, ◌||◌, cond, List, [], ◌∷◌, ◌++◌, map, ℕ, zero, suc, ◌-◌, ◌≤◌, eqb, ltb}
use Rattle.cell.specs.declared.Cell.{Cell}
use Rattle.reading.specs.declared.Level.{Level}
use Rattle.reading.specs.declared.Level.TheVariants.{Digits}
use Rattle.reading.specs.declared.Profile.{Profile}
use Rattle.reading.specs.declared.Profile.TheVariants.{Full, Handheld}
use Rattle.reading.specs.Reading.{Nodes, end, whole, listed, room, wholes, render}
use Rattle.reading.specs.Prefix.{Name, numbers_of}
use Rattle.reading.specs.Text.{level_of, depth_of, heading}

-- what follows the number c in the names that begin with it
unfoldable pub tails : ℕ → List Name → List Name
tails c [] = []
tails c ([] ∷ qs) = tails c qs
tails c ((b ∷ q) ∷ qs) = cond (eqb b c) (q ∷ tails c qs) (tails c qs)

-- a name ends here: the cell itself is among the cells
unfoldable pub any_ends : List Name → Bool
any_ends [] = false
any_ends ([] ∷ qs) = true
any_ends ((b ∷ q) ∷ qs) = any_ends qs

-- a node of number c: whole where a name ends here or where its nine children are whole; `below` makes the list that it holds
unfoldable pub node_of : (List Name → Nodes) → ℕ → List Name → Nodes → Nodes
node_of below c [] rest = rest
node_of below c (q ∷ qs) rest =
    cond (any_ends (q ∷ qs) || eqb (wholes (below (q ∷ qs))) 9) (whole c rest) (listed c (below (q ∷ qs)) rest)

-- the nodes of the n numbers from c on
unfoldable pub side : (List Name → Nodes) → (n c : ℕ) → List Name → Nodes
unfolding node_of tails any_ends
side below zero c qs = end
side below (suc n) c qs = node_of below c (tails c qs) (side below n (suc c) qs)

-- nodes of names that have at most r digits after their first number
unfoldable pub built : (r n : ℕ) → List Name → Nodes
unfolding side
built zero n qs = side (λ ts. end) n 0 qs
built (suc r) n qs = side (λ ts. built r 9 ts) n 0 qs

-- what is built below the numbers
abbrev pub under : ℕ → List Name → Nodes
under zero ts = end
under (suc r) ts = built r 9 ts

-- the nodes of some cells
abbrev pub nodes_for : List Cell → Nodes
nodes_for cells = built 15 6 (map numbers_of cells)

-- the text of some cells, in a profile that their ground fits
unfoldable pub written_text : Profile → (n s : ℕ) → List Cell → List ℕ
unfolding built
written_text p n s cells = heading p n s ++ render (level_of p) (nodes_for cells)

-- ---- whether nodes fit a level and a depth: no list where no digit may lie. Laws/Fits shows that nodes of version 1 that fit are those of a profile

unfoldable pub fitting : Level → ℕ → Nodes → Bool
fitting l d end = true
fitting l d (whole c ns) = fitting l d ns
fitting l d (listed c is ns) = ltb 0 (room l c d) && (fitting Digits (room l c d - 1) is && fitting l d ns)

-- the fewest cells of a ground keep to a profile (Laws/Allowed: exactly where each of them is allowed)
abbrev pub keeps : Profile → List Cell → Bool
keeps p cells = fitting (level_of p) (depth_of p) (nodes_for cells)

-- a cell that a profile allows: "N and S may appear only whole, and nothing lies deeper than that depth"
abbrev pub Allows : Profile → Cell → Type 0
Allows Full c = Unit {0}
Allows (Handheld d) c = (c.resolution ≤ d) × ((c.face ≡ 0) ⊎ (c.face ≡ 5) → c.resolution ≡ 0)
