-- The scan of a body over letters, brackets and digits, as a definition that computes (01 "Refusal numbers": the place). That it goes over "the longest
-- leading part that some accepted text begins with" is shown in Laws/Place. Assumes nothing.
use Rattle.std.specs.Prelude.{List, [], ◌∷◌, Bool, true, false, cond, ℕ, suc, ◌+◌, ◌-◌, length, leb, ltb, eqb}
use Rattle.reading.specs.declared.Level.{Level}
use Rattle.reading.specs.declared.Level.TheVariants.{Digits}
use Rattle.reading.specs.Reading.{first, many, room}

-- of nodes that are being read: the least number that may come, and how many stand whole
pub data Frame : Type 0 where
  frame : ℕ → ℕ → Frame

-- where the scan stands: the nodes around, innermost first; the nodes at hand; and whether a letter or digit was just read
pub data State : Type 0 where
  at : List Frame → ℕ → ℕ → Bool → State

pub data Next : Type 0 where
  stop : Next
  on : State → Next

-- the nodes at hand are digits inside a list
abbrev pub level : Level → List Frame → Level
level l [] = l
level l (f ∷ o) = Digits

-- a `(`: right after a letter or digit, below which digits may lie; its node is not whole then
unfoldable pub open_list : Level → ℕ → List Frame → ℕ → ℕ → Bool → Next
open_list l d o lo w false = stop
open_list l d o lo w true = cond (eqb (room (level l o) (lo - 1) (d - length o)) 0) stop (on (at (frame lo (w - 1) ∷ o) 0 0 false))

-- a `)`: in a list that has a node and is not nine whole ones
unfoldable pub shut_list : List Frame → ℕ → ℕ → Next
shut_list [] lo w = stop
shut_list (frame lo' w' ∷ o) lo w = cond (eqb lo 0) stop (cond (eqb w 9) stop (on (at o lo' w' false)))

-- a letter or digit of number c: where it is the ninth whole one, a list must be able to follow
unfoldable pub stand_node : Level → ℕ → List Frame → ℕ → ℕ → Next
stand_node l d o w c =
    cond (eqb w 8) (cond (eqb (room (level l o) c (d - length o)) 0) stop (on (at o (suc c) (suc w) true))) (on (at o (suc c) (suc w) true))

unfoldable pub step : Level → ℕ → State → ℕ → Next
unfolding open_list shut_list stand_node
step l d (at o lo w named) b =
    cond (eqb b 40) (open_list l d o lo w named)
    (cond (eqb b 41) (shut_list o lo w)
    (cond (ltb b (first (level l o) + lo)) stop
    (cond (leb (first (level l o) + many (level l o)) b) stop
    (stand_node l d o w (b - first (level l o))))))

unfoldable pub go_on : Next → (State → ℕ) → ℕ
go_on stop k = 0
go_on (on s) k = suc (k s)

-- how many bytes the scan goes over before it stops
unfoldable pub scan : Level → ℕ → State → List ℕ → ℕ
unfolding step go_on
scan l d s [] = 0
scan l d s (b ∷ bs) = go_on (step l d s b) (λ t. scan l d t bs)

abbrev pub start : State
start = at [] 0 0 false
