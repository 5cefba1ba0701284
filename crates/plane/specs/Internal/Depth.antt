-- The plane in natural numbers, as the code computes in it: a point is so far right of the left edge of O, and so deep below the top of N.
-- What is said here of a point is said of its X and Y by DepthLaws. Assumes nothing.
use Rattle.std.specs.Prelude.{Bool, ◌&&◌, not, cond, ℕ, suc, ◌+◌, ◌-◌, ◌*◌, ◌/◌, ◌%◌, ◌^◌, ℤ, pos, negsuc, eqb, leb, ltb, Result}
use Rattle.logic.specs.Refusal.{refuse}
use Rattle.cell.specs.declared.Cell.{Cell}
use Rattle.cell.specs.declared.Arrangement.{Arrangement}
use Rattle.cell.specs.Cell.{found}
use Rattle.cell.specs.Neighbour.{by_face}
use Rattle.plane.specs.Plane.{face_side, three_halves, side_of, face_left, cell_at}

-- how deep a point lies below the top of N; 0 above it
abbrev pub depth_below : ℤ → ℕ
depth_below (pos n) = three_halves - n
depth_below (negsuc n) = three_halves + suc n

-- the depth of the top edge of a face
unfoldable pub face_depth : ℕ → ℕ
face_depth face = by_face face 0 (λ c. face_side) (2 * face_side)

-- the left edge of a cell, and the depth of its top edge
abbrev pub left_in : Arrangement → Cell → ℕ
left_in a c = face_left a c.face + c.column * side_of c.resolution

abbrev pub depth_in : Cell → ℕ
depth_in c = face_depth c.face + c.row * side_of c.resolution

-- the row of a cell of a face, by the distance from the face's top edge
abbrev pub row_at : ℕ → ℕ → ℕ
row_at k down = cond (eqb down face_side) (3 ^ k - 1) (down / side_of k)

-- `right` and `down` lie within a cap, N or S, with the left edge `left`: "They own none of their outer edges."
abbrev pub on_cap : (left right down : ℕ) → Bool
on_cap left right down = (ltb left right && ltb right (left + face_side)) && (ltb 0 down && ltb down face_side)

-- the cell of a cap, `down` below its top edge
unfoldable pub found_on_cap : (face k left right down : ℕ) → Result Cell ℕ
found_on_cap face k left right down = found (refuse (not (on_cap left right down)) 7) (cell_at face k (right - left) down)

-- the cell of O to R, `down` below their top edge
unfoldable pub found_on_belt : (k right down : ℕ) → Result Cell ℕ
found_on_belt k right down = found (refuse (not (ltb right (4 * face_side))) 7) (cell_at (1 + right / face_side) k (right % face_side) down)

-- the cell at that depth
unfoldable pub found_at : Arrangement → (k right depth : ℕ) → Result Cell ℕ
found_at a k right depth =
    cond (ltb depth face_side) (found_on_cap 0 k (a.north * face_side) right depth)
    (cond (leb depth (2 * face_side)) (found_on_belt k right (depth - face_side))
    (found_on_cap 5 k (a.south * face_side) right (depth - 2 * face_side)))
