-- Where the scan stands, as numbers: how deep, and at each depth the least number that may come and how many stand whole. What may come next there.
-- Assumes nothing.
use Rattle.std.specs.Prelude.{List, [], ◌∷◌, Bool, ◌&&◌, ◌||◌, not, ℕ, zero, suc, ◌+◌, ◌-◌, get_or, leb, ltb, eqb}
use Rattle.reading.specs.declared.Level.{Level}
use Rattle.reading.specs.declared.Level.TheVariants.{Digits}
use Rattle.reading.specs.Reading.{first, many, room}
use Rattle.reading.specs.Scan.{Frame, frame, State, at}

-- inside a list, nodes are digits
abbrev pub here_of : Level → ℕ → Level
here_of l zero = l
here_of l (suc k) = Digits

-- the nodes around those k lists deep, innermost first
abbrev pub stack : ℕ → List ℕ → List ℕ → List Frame
stack zero lo w = []
stack (suc k) lo w = frame (get_or lo k 0) (get_or w k 0) ∷ stack k lo w

abbrev pub stands_at : ℕ → List ℕ → List ℕ → Bool → State
stands_at k lo w named = at (stack k lo w) (get_or lo k 0) (get_or w k 0) named

-- a `(` may come: a letter or digit was just read, below which digits may lie
unfoldable pub may_open : Level → (d k lo : ℕ) → Bool → Bool
may_open l d k lo named = named && not (eqb (room (here_of l k) (lo - 1) (d - k)) 0)

-- a `)` may come: a list is open, "one or more nodes" are in it, and not "nine whole nodes"
unfoldable pub may_shut : (k lo w : ℕ) → Bool
may_shut k lo w = not (eqb k 0) && (not (eqb lo 0) && not (eqb w 9))

-- a letter or digit may come: its number is none below lo, and where it would be the ninth whole node, a list may follow
unfoldable pub may_stand : Level → (d k lo w b : ℕ) → Bool
may_stand l d k lo w b =
    not (ltb b (first (here_of l k) + lo))
    && (not (leb (first (here_of l k) + many (here_of l k)) b)
    && (not (eqb w 8) || not (eqb (room (here_of l k) (b - first (here_of l k)) (d - k)) 0)))
