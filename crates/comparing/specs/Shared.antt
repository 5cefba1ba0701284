-- What two readings share, node by node, as a definition that computes (02, W-205): the nodes of the ground that each of the two has or has not. A cell
-- is looked into exactly where one of them has a list for it. Laws/Compare shows that the whole cells of these nodes are the fewest of that ground.
-- Assumes nothing.
use Rattle.std.specs.Prelude.{Bool, ◌&&◌, ◌||◌, cond, ℕ, zero, suc, eqb}
use Rattle.reading.specs.Reading.{Nodes, end, whole, listed}

-- how much of a cell a text covers: nothing, all, or what these nodes cover
pub data Portion : Type 0 where
  none : Portion
  all : Portion
  some : Nodes → Portion

abbrev pub portion_number : Portion → ℕ
portion_number none = 0
portion_number all = 1
portion_number (some ns) = 2

-- how much of the child of number c, where no child of a smaller number is left
abbrev pub of_child : ℕ → Portion → Portion
of_child c none = none
of_child c all = all
of_child c (some end) = none
of_child c (some (whole b ns)) = cond (eqb b c) all none
of_child c (some (listed b is ns)) = cond (eqb b c) (some is) none

-- what is left for the children after it
abbrev pub past_child : ℕ → Portion → Portion
past_child c none = none
past_child c all = all
past_child c (some end) = some end
past_child c (some (whole b ns)) = cond (eqb b c) (some ns) (some (whole b ns))
past_child c (some (listed b is ns)) = cond (eqb b c) (some ns) (some (listed b is ns))

-- one of the texts has a list for the cell
abbrev pub divides : (i j : ℕ) → Bool
divides i j = eqb i 2 || eqb j 2

abbrev pub divided : Portion → Portion → Bool
divided x y = divides (portion_number x) (portion_number y)

-- the first has, or has not, all of a cell that is not divided, as p says, and the second as q says: 1 for what it has, 0 for what it has not
abbrev pub wanted : (p q : ℕ) → Portion → Portion → Bool
wanted p q x y = eqb (portion_number x) p && eqb (portion_number y) q

-- a node of number c that holds these nodes, if there are any
abbrev pub holding : ℕ → Nodes → Nodes → Nodes
holding c end rest = rest
holding c (whole b ns) rest = listed c (whole b ns) rest
holding c (listed b is ns) rest = listed c (listed b is ns) rest

-- the node of a cell of number c; `below` makes the nodes that it holds
unfoldable pub node_shared : (below : Portion → Portion → Nodes) (p q c : ℕ) → Portion → Portion → Nodes → Nodes
node_shared below p q c x y rest = cond (divided x y) (holding c (below x y) rest) (cond (wanted p q x y) (whole c rest) rest)

-- the nodes of the n numbers from c on
unfoldable pub side_shared : (below : Portion → Portion → Nodes) (p q n c : ℕ) → Portion → Portion → Nodes
unfolding node_shared
side_shared below p q zero c x y = end
side_shared below p q (suc n) c x y =
    node_shared below p q c (of_child c x) (of_child c y) (side_shared below p q n (suc c) (past_child c x) (past_child c y))

-- the nodes below a cell, where r digits may lie below it
unfoldable pub below_shared : (r p q : ℕ) → Portion → Portion → Nodes
unfolding side_shared
below_shared zero p q x y = end
below_shared (suc r) p q x y = side_shared (below_shared r p q) p q 9 0 x y

-- of two readings
unfoldable pub shared : (p q : ℕ) → Nodes → Nodes → Nodes
unfolding below_shared
shared p q a b = side_shared (below_shared 15 p q) p q 6 0 (some a) (some b)
