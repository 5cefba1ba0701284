-- The reader of 01's grammar as a definition that computes: "node reader and list reader call each other, the unread bytes falling". That it reads
-- exactly the grammar is shown in Laws/Parse. Assumes nothing.
use Rattle.std.specs.Prelude.{List, [], ◌∷◌, cond, ℕ, zero, suc, ◌+◌, ◌-◌, leb, ltb, eqb}
use Rattle.reading.specs.declared.Level.{Level}
use Rattle.reading.specs.declared.Level.TheVariants.{Digits}
use Rattle.reading.specs.Reading.{Nodes, end, whole, listed, first, many, room, wholes}

-- nodes read, and the bytes left; or the bytes are no nodes
pub data Parse : Type 0 where
  bad : Parse
  got : Nodes → List ℕ → Parse

-- what follows a node's letter or digit: nothing of its own, or a list; and the bytes left
pub data Item : Type 0 where
  wrong : Item
  bare : List ℕ → Item
  held : Nodes → List ℕ → Item

-- a list's nodes are read and `)` is left: "one or more nodes", "never consists of nine whole nodes"
unfoldable pub close : Parse → Item
close bad = wrong
close (got end rest) = wrong
close (got (whole c ns) []) = wrong
close (got (whole c ns) (b ∷ rest)) = cond (eqb (wholes (whole c ns)) 9) wrong (held (whole c ns) rest)
close (got (listed c is ns) []) = wrong
close (got (listed c is ns) (b ∷ rest)) = cond (eqb (wholes (listed c is ns)) 9) wrong (held (listed c is ns) rest)

-- p reads the nodes of a list below which this many digits may lie
unfoldable pub item : (ℕ → List ℕ → Parse) → ℕ → List ℕ → Item
unfolding close
item p d [] = bare []
item p d (b ∷ bs) = cond (eqb b 40) (cond (eqb d 0) wrong (close (p (d - 1) bs))) (bare (b ∷ bs))

unfoldable pub add_whole : ℕ → Parse → Parse
add_whole c bad = bad
add_whole c (got ns rest) = got (whole c ns) rest

unfoldable pub add_listed : ℕ → Nodes → Parse → Parse
add_listed c is bad = bad
add_listed c is (got ns rest) = got (listed c is ns) rest

-- a node of number c, and k reads the further nodes
unfoldable pub then : ℕ → (List ℕ → Parse) → Item → Parse
unfolding add_whole add_listed
then c k wrong = bad
then c k (bare rest) = add_whole c (k rest)
then c k (held is rest) = add_listed c is (k rest)

-- nodes from lo on, up to a `)` or the end; n is more than the number of bytes
unfoldable pub parse : ℕ → Level → ℕ → ℕ → List ℕ → Parse
unfolding item then
parse zero l d lo bs = bad
parse (suc n) l d lo [] = got end []
parse (suc n) l d lo (b ∷ bs) =
    cond (eqb b 41) (got end (b ∷ bs))
    (cond (leb (first l + lo) b)
    (cond (ltb b (first l + many l))
    (then (b - first l) (λ rest. parse n l d (suc (b - first l)) rest)
    (item (λ e cs. parse n Digits e 0 cs) (room l (b - first l) d) bs))
    bad)
    bad)
