-- How many bytes a node takes, told by its brackets alone (01 "The coverage text"). Assumes nothing.
use Rattle.std.specs.Prelude.{cond, List, [], ◌∷◌, ℕ, ◌+◌, ◌-◌, eqb, drop}
use Rattle.walk.specs.Walk.{whole_at}

-- how many lists are open behind a byte
unfoldable pub open_past : ℕ → ℕ → ℕ
open_past d b = cond (eqb b 40) (d + 1) (cond (eqb b 41) (d - 1) d)

-- how many bytes it takes until d lists are shut
unfoldable pub shut_in : ℕ → List ℕ → ℕ
unfolding open_past
shut_in d [] = 0
shut_in d (b ∷ bs) = 1 + cond (eqb (open_past d b) 0) 0 (shut_in (open_past d b) bs)

-- the bytes of the node that stands here
unfoldable pub node_in : List ℕ → ℕ
unfolding shut_in
node_in bs = cond (whole_at bs) 1 (2 + shut_in 1 (drop 2 bs))
