-- The neighbours of a cell (01 "Neighbours and shapes"). Directions 0 to 3 are up, right, down, left. Assumes nothing.
use Rattle.std.specs.Prelude.{Bool, cond, ℕ, ◌+◌, ◌-◌, ◌%◌, ◌^◌, ◌<◌, ◌≡◌, eqb, ltb}
use Rattle.logic.specs.Refusal.{refuse, ◌otherwise◌}
use Rattle.logic.specs.Choice.{four}
use Rattle.cell.specs.declared.Cell.{Cell}
use Rattle.cell.specs.declared.Arrangement.{Arrangement}
use Rattle.cell.specs.Cell.{cell_refusal, arrangement_refusal}

-- another cell of the same resolution
abbrev pub at : Cell → ℕ → ℕ → ℕ → Cell
at c face row column = record { face = face; resolution = c.resolution; row = row; column = column }

-- m = 3^k
abbrev pub rows : Cell → ℕ
rows c = 3 ^ c.resolution

-- by the face: N, face c of O to R (O counts as 0), or S
abbrev pub by_face {ℓ} : {A : Type ℓ} → ℕ → A → (ℕ → A) → A → A
by_face face north belt south = cond (ltb face 1) north (cond (ltb face 5) (belt (face - 1)) south)

-- face c of O to R, as a face
abbrev pub belt : ℕ → ℕ
belt c = 1 + c

-- (c - n) mod 4
abbrev pub turn_of : ℕ → ℕ → ℕ
turn_of c n = (c + 4 - n) % 4

-- the cell has no further cell of its face in that direction
unfoldable pub leaves : Cell → ℕ → Bool
leaves c d = four d (eqb c.row 0) (eqb (c.column + 1) (rows c)) (eqb (c.row + 1) (rows c)) (eqb c.column 0)

-- "Inside a face it is the plain step."
unfoldable pub within_face : Cell → ℕ → Cell
within_face c d =
    four d
    (at c c.face (c.row - 1) c.column)
    (at c c.face c.row (c.column + 1))
    (at c c.face (c.row + 1) c.column)
    (at c c.face c.row (c.column - 1))

-- the table's first line: "up, into N (row, column), turn (c - n) mod 4"
unfoldable pub into_north : Cell → ℕ → Cell
into_north c turn =
    four turn
    (at c 0 (rows c - 1) c.column)
    (at c 0 (rows c - 1 - c.column) (rows c - 1))
    (at c 0 0 (rows c - 1 - c.column))
    (at c 0 c.column 0)

-- the table's second line: "down, into S, turn (c - s) mod 4"
unfoldable pub into_south : Cell → ℕ → Cell
into_south c turn =
    four turn
    (at c 5 0 c.column)
    (at c 5 c.column (rows c - 1))
    (at c 5 (rows c - 1) (rows c - 1 - c.column))
    (at c 5 (rows c - 1 - c.column) 0)

-- from face b of O to R; "Right and left go round O, P, Q, R in the same row."
unfoldable pub out_of_belt : Arrangement → Cell → ℕ → ℕ → Cell
unfolding into_north into_south
out_of_belt a c d b =
    four d
    (into_north c (turn_of b a.north))
    (at c (belt ((b + 1) % 4)) c.row 0)
    (into_south c (turn_of b a.south))
    (at c (belt ((b + 3) % 4)) c.row (rows c - 1))

-- "The down, right, up and left edges of N meet turns 0 to 3" and "for S it is the up, right, down and left edges"
abbrev pub turn_north : ℕ → ℕ
turn_north d = four d 2 1 0 3

abbrev pub turn_south : ℕ → ℕ
turn_south d = four d 0 1 2 3

-- "By these N and S lead back by the inverse": the table's lines, read from right to left
unfoldable pub out_of_north : Arrangement → Cell → ℕ → Cell
out_of_north a c turn =
    at c (belt ((a.north + turn) % 4)) 0 (four turn c.column (rows c - 1 - c.row) (rows c - 1 - c.column) c.row)

unfoldable pub out_of_south : Arrangement → Cell → ℕ → Cell
out_of_south a c turn =
    at c (belt ((a.south + turn) % 4)) (rows c - 1) (four turn c.column c.row (rows c - 1 - c.column) (rows c - 1 - c.row))

-- "The face across an edge is decided by face, direction and turn"
unfoldable pub across_edge : Arrangement → Cell → ℕ → Cell
unfolding out_of_belt out_of_north out_of_south
across_edge a c d =
    by_face c.face (out_of_north a c (turn_north d)) (out_of_belt a c d) (out_of_south a c (turn_south d))

-- "Moving a cell one step in a direction hands back a new cell."
unfoldable pub neighbour_of : Arrangement → Cell → ℕ → Cell
unfolding leaves within_face across_edge
neighbour_of a c d = cond (leaves c d) (across_edge a c d) (within_face c d)

-- 5: the arrangement. 2, 1, 3: the cell. 3: direction above 3
unfoldable pub neighbour_refusal : Arrangement → Cell → ℕ → ℕ
neighbour_refusal a c d = arrangement_refusal a otherwise cell_refusal c otherwise refuse (ltb 3 d) 3

-- the direction that leads back from the neighbour in a direction: the opposite one, but for an edge of N or S
unfoldable pub back_of : Arrangement → Cell → ℕ → ℕ
unfolding leaves
back_of a c d =
    cond (leaves c d)
    (by_face c.face 0
    (λ b. four d (four (turn_of b a.north) 2 1 0 3) 3 (four (turn_of b a.south) 0 1 2 3) 1)
    2)
    ((d + 2) % 4)

-- being a neighbour
abbrev pub Neighbour : Arrangement → Cell → Cell → Type 0
Neighbour a c x = (d : ℕ) × (d < 4) × (neighbour_of a c d ≡ x)
