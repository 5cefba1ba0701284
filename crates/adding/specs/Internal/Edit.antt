-- Which bytes of a text change when a cell is added: one run of bytes is cut out, or one put in, or none. EditLaws shows that the text is then that
-- of the nodes with the cell. Assumes nothing.
use Rattle.std.specs.Prelude.{cond, List, [], ◌∷◌, ◌++◌, ℕ, suc, ◌+◌, ◌≤◌, ◌<◌, eqb, length, take, drop}
use Rattle.reading.specs.declared.Level.{Level}
use Rattle.reading.specs.declared.Level.TheVariants.{Digits}
use Rattle.reading.specs.Reading.{Nodes, end, whole, listed, first, render}
use Rattle.reading.specs.Prefix.{Name}
use Rattle.adding.specs.Internal.Grow.{by}
use Rattle.adding.specs.declared.Edit.{Edit}
use Rattle.adding.specs.declared.Edit.TheVariants.{Covered, Put, Cut, Full}

-- the bytes of a name
abbrev pub name_bytes : Level → Name → List ℕ
name_bytes l [] = []
name_bytes l (x ∷ p) = (first l + x) ∷ name_bytes Digits p

-- each of the bytes in the list of the one before it: a node that holds one cell
abbrev pub nested : List ℕ → List ℕ
nested [] = []
nested (b ∷ []) = b ∷ []
nested (b ∷ c ∷ bs) = b ∷ 40 ∷ (nested (c ∷ bs) ++ (41 ∷ []))

-- the whole nodes that stand first
unfoldable pub run : Nodes → ℕ
run end = 0
run (whole c ns) = suc (run ns)
run (listed c is ns) = 0

-- the node at i, whose bytes end at e, becomes whole; w whole ones stand before it and these nodes behind it
unfoldable pub to_whole : (i e w : ℕ) → Nodes → Edit
unfolding run
to_whole i e w ns = cond (eqb (w + 1 + run ns) 9) (Full (e + run ns)) (Cut (i + 1) e)

-- the node is put in at i, before these nodes
unfoldable pub to_put : (i k w : ℕ) → Name → Nodes → Edit
unfolding run
to_put i k w [] ns = cond (eqb (w + 1 + run ns) 9) (Full (i + run ns)) (Put i k)
to_put i k w (y ∷ p) ns = Put i k

-- what an edit of its list is to a node at i
unfoldable pub over : (i w : ℕ) → Nodes → Edit → Edit
unfolding to_whole
over i w ns Covered = Covered
over i w ns (Put a k) = Put a k
over i w ns (Cut a b) = Cut a b
over i w ns (Full e) = to_whole i (e + 1) w ns

-- the bytes of a node with this list
abbrev pub size : Nodes → ℕ
size is = length (render Digits is) + 3

-- the nodes at i, with w whole ones before them, and the cell of the name x ∷ p; x is the k-th number of the whole name
unfoldable pub edit_of : (i k w x : ℕ) → Name → Nodes → Edit
unfolding to_whole to_put over
edit_of i k w x p end = to_put i k w p end
edit_of i k w x p (whole c ns) = by c x (edit_of (i + 1) k (w + 1) x p ns) Covered (to_put i k w p (whole c ns))
edit_of i k w x [] (listed c is ns) =
    by c x (edit_of (i + size is) k w x [] ns) (to_whole i (i + size is) w ns) (to_put i k w [] (listed c is ns))
edit_of i k w x (y ∷ p) (listed c is ns) =
    by c x (edit_of (i + size is) k w x (y ∷ p) ns) (over i w ns (edit_of (i + 2) (k + 1) 0 y p is)) (to_put i k w (y ∷ p) (listed c is ns))

-- a text, edited
unfoldable pub edited : (name t : List ℕ) → Edit → List ℕ
edited name t Covered = t
edited name t (Put i k) = take i t ++ (nested (drop k name) ++ drop i t)
edited name t (Cut a b) = take a t ++ drop b t
edited name t (Full e) = t

-- an edit of a text of n bytes, by a name of `count`
abbrev pub EditFits : (n count : ℕ) → Edit → Type 0
EditFits n count Covered = Unit {0}
EditFits n count (Put i k) = (i ≤ n) × (k < count)
EditFits n count (Cut a b) = (a ≤ b) × (b ≤ n)
EditFits n count (Full e) = Unit {0}
