-- The heading, the scan and the reading of a looser text, as definitions that compute. Laws/Scan, Laws/Reading and Laws/Place show that they are right.
-- Assumes nothing.
use Rattle.std.specs.Prelude.{List, [], ◌∷◌, Bool, true, false, ◌&&◌, cond, ℕ, zero, suc, ◌+◌, ◌-◌, leb, ltb, eqb, length, drop}
use Rattle.reading.specs.Heading.{lead}
use Rattle.reading.specs.declared.Level.{Level}
use Rattle.reading.specs.declared.Level.TheVariants.{Faces, Digits}
use Rattle.reading.specs.Reading.{Nodes, end, first, many}
use Rattle.reading.specs.Parse.{Parse, bad, got, Item, wrong, bare, held, then}

-- ---- the heading of version 1: the least and the greatest byte at each place

abbrev pub least_one : List ℕ
least_one = 67 ∷ 86 ∷ 82 ∷ 0 ∷ 1 ∷ 48 ∷ 48 ∷ []

abbrev pub greatest_one : List ℕ
greatest_one = 67 ∷ 86 ∷ 82 ∷ 0 ∷ 1 ∷ 51 ∷ 51 ∷ []

-- how many leading bytes are as in such a heading
abbrev pub lead_one : List ℕ → ℕ
lead_one t = lead least_one greatest_one t

-- ---- the scan: how many lists are open, and whether a letter or digit was just read

pub data Next : Type 0 where
  stop : Next
  on : ℕ → Bool → Next

-- letters outside of all lists, digits inside
abbrev pub level_at : ℕ → Level
level_at zero = Faces
level_at (suc k) = Digits

abbrev pub is_name : (k b : ℕ) → Bool
is_name k b = leb (first (level_at k)) b && ltb b (first (level_at k) + many (level_at k))

unfoldable pub step : ℕ → Bool → ℕ → Next
step k named b =
    cond (eqb b 40) (cond (named && ltb k 15) (on (suc k) false) stop)
    (cond (eqb b 41) (cond (eqb k 0) stop (on (k - 1) false))
    (cond (is_name k b) (on k true) stop))

unfoldable pub after : Next → (ℕ → Bool → ℕ) → ℕ → ℕ
after stop f z = z
after (on k named) f z = f k named

-- how many bytes the scan goes over before it stops
unfoldable pub scan : ℕ → Bool → List ℕ → ℕ
unfolding step after
scan k named [] = 0
scan k named (b ∷ bs) = after (step k named b) (λ j t. suc (scan j t bs)) 0

-- how many lists are open there
unfoldable pub depth : ℕ → Bool → List ℕ → ℕ
unfolding step after
depth k named [] = k
depth k named (b ∷ bs) = after (step k named b) (λ j t. depth j t bs) k

-- ---- the reading

-- a list's nodes are read and `)` is left
unfoldable pub close : Parse → Item
close bad = wrong
close (got ns []) = wrong
close (got ns (b ∷ rest)) = held ns rest

unfoldable pub item : (ℕ → List ℕ → Parse) → ℕ → List ℕ → Item
unfolding close
item p d [] = bare []
item p d (b ∷ bs) = cond (eqb b 40) (cond (eqb d 0) wrong (close (p (d - 1) bs))) (bare (b ∷ bs))

-- nodes up to a `)` or the end; n is more than the number of bytes
unfoldable pub parse : ℕ → Level → ℕ → List ℕ → Parse
unfolding item
parse zero l d bs = bad
parse (suc n) l d [] = got end []
parse (suc n) l d (b ∷ bs) =
    cond (eqb b 41) (got end (b ∷ bs))
    (cond (leb (first l) b)
    (cond (ltb b (first l + many l))
    (then (b - first l) (λ rest. parse n l d rest) (item (λ e cs. parse n Digits e cs) d bs))
    bad)
    bad)

abbrev pub nodes_got : Parse → Nodes
nodes_got bad = end
nodes_got (got ns rest) = ns

-- the nodes of a looser body
unfoldable pub loose_nodes : List ℕ → Nodes
unfolding parse
loose_nodes b = nodes_got (parse (suc (length b)) Faces 15 b)

-- the place of refusal 9
unfoldable pub loose_place : List ℕ → ℕ
unfolding scan
loose_place t = cond (ltb (lead_one t) 7) (lead_one t) (7 + scan 0 false (drop 7 t))
