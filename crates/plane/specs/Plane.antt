-- The plane (01 "The plane"). A face side is M units; X runs east from the left edge of O and Y runs up from the equator. Assumes nothing.
use Rattle.std.specs.Prelude.{◌≡◌, refl, Bool, true, false, ◌&&◌, ◌||◌, not, cond, [], ◌∷◌, ℕ, ◌+◌, ◌-◌, ◌*◌, ◌/◌, ◌%◌, ◌^◌, ℤ, pos, neg_ℤ, nat_abs, ◌+ℤ◌, ◌-ℤ◌, ◌≤ℤ◌, ◌<ℤ◌, eqb, ltb}
use Rattle.std.specs.Int.Signed.{le_z, lt_z}
use Rattle.logic.specs.Refusal.{refuse, ◌otherwise◌}
use Rattle.cell.specs.declared.Cell.{Cell}
use Rattle.cell.specs.declared.Arrangement.{Arrangement}
use Rattle.cell.specs.Cell.{arrangement_refusal}
use Rattle.cell.specs.Neighbour.{by_face}
use Rattle.plane.specs.declared.Square.{Square}
use Rattle.plane.specs.declared.Point.{Point}
use Rattle.plane.specs.declared.Vertices.{Vertices}

-- "A face side is M = 2 x 3^15 = 28,697,814 units."
abbrev pub face_side : ℕ
face_side = 28697814

face-side : 2 * 3 ^ 15 ≡ face_side
face-side = refl

-- M/2 and 3M/2
abbrev pub half : ℕ
half = 14348907

abbrev pub three_halves : ℕ
three_halves = 43046721

-- "Cells have side 2 x 3^(15-k)."
abbrev pub side_of : ℕ → ℕ
side_of k = 2 * 3 ^ (15 - k)

-- the left edge of a face: "N lies above face n", O to R from 0, "S lies below face s"
unfoldable pub face_left : Arrangement → ℕ → ℕ
face_left a face = by_face face (a.north * face_side) (λ c. c * face_side) (a.south * face_side)

-- the top edge of a face
unfoldable pub face_top : ℕ → ℤ
face_top face = by_face face (pos three_halves) (λ c. pos half) (neg_ℤ (pos half))

-- the edges of a cell
unfoldable pub left_of : Arrangement → Cell → ℤ
left_of a c = pos (face_left a c.face + c.column * side_of c.resolution)

unfoldable pub right_of : Arrangement → Cell → ℤ
right_of a c = left_of a c +ℤ pos (side_of c.resolution)

unfoldable pub top_of : Cell → ℤ
top_of c = face_top c.face -ℤ pos (c.row * side_of c.resolution)

unfoldable pub bottom_of : Cell → ℤ
bottom_of c = top_of c -ℤ pos (side_of c.resolution)

-- "The nucleus is the middle."
unfoldable pub nucleus_x : Arrangement → Cell → ℤ
nucleus_x a c = left_of a c +ℤ pos (3 ^ (15 - c.resolution))

unfoldable pub nucleus_y : Cell → ℤ
nucleus_y c = top_of c -ℤ pos (3 ^ (15 - c.resolution))

-- what the code answers: the square, the nucleus, and the "vertices .. top left, top right, bottom right, bottom left, whether owned or not"
unfoldable pub square_of : Arrangement → Cell → Square
square_of a c = record { left = left_of a c; top = top_of c; side = pos (side_of c.resolution) }

unfoldable pub nucleus_of : Arrangement → Cell → Point
nucleus_of a c = record { x = nucleus_x a c; y = nucleus_y c }

unfoldable pub vertices_of : Arrangement → Cell → Vertices
vertices_of a c =
    record {
      x = left_of a c ∷ right_of a c ∷ right_of a c ∷ left_of a c ∷ [];
      y = top_of c ∷ top_of c ∷ bottom_of c ∷ bottom_of c ∷ [];
    }

-- ---- which cell owns a point

-- a cell of O to R
abbrev pub on_belt : Cell → Bool
on_belt c = by_face c.face false (λ b. true) false

-- "A cell owns its left and top edges, except that a cell on a face's border follows the face": O to R come "with their left, top and
-- bottom edge", N and S "own none of their outer edges". "So the lowest row of O to R owns its bottom edge too."
unfoldable pub owns_left : Cell → Bool
owns_left c = on_belt c || not (eqb c.column 0)

unfoldable pub owns_top : Cell → Bool
owns_top c = on_belt c || not (eqb c.row 0)

unfoldable pub owns_bottom : Cell → Bool
owns_bottom c = on_belt c && eqb (c.row + 1) (3 ^ c.resolution)

-- x is past the edge e, or on it where the edge is owned
abbrev pub Past : Bool → ℤ → ℤ → Type 0
Past true e x = e ≤ℤ x
Past false e x = e <ℤ x

-- the point lies in the cell
pub record Owns (a : Arrangement) (c : Cell) (x y : ℤ) : Type 0 where
  pub west : Past (owns_left c) (left_of a c) x
  pub east : x <ℤ right_of a c
  pub north : Past (owns_top c) y (top_of c)
  pub south : Past (owns_bottom c) (bottom_of c) y

-- ---- the image

-- "O to R hold the points with 0 <= X < 4M and |Y| <= M/2"
unfoldable pub in_belt : ℤ → ℤ → Bool
in_belt x y = (le_z (pos 0) x && lt_z x (pos (4 * face_side))) && (le_z (neg_ℤ (pos half)) y && le_z y (pos half))

-- "N lies above face n: nM < X < (n+1)M and M/2 < Y < 3M/2."
unfoldable pub in_north : Arrangement → ℤ → ℤ → Bool
in_north a x y =
    (lt_z (pos (a.north * face_side)) x && lt_z x (pos ((a.north + 1) * face_side)))
    && (lt_z (pos half) y && lt_z y (pos three_halves))

-- "S lies below face s: sM < X < (s+1)M and -3M/2 < Y < -M/2."
unfoldable pub in_south : Arrangement → ℤ → ℤ → Bool
in_south a x y =
    (lt_z (pos (a.south * face_side)) x && lt_z x (pos ((a.south + 1) * face_side)))
    && (lt_z (neg_ℤ (pos three_halves)) y && lt_z y (neg_ℤ (pos half)))

unfoldable pub in_image : Arrangement → ℤ → ℤ → Bool
unfolding in_belt in_north in_south
in_image a x y = in_belt x y || in_north a x y || in_south a x y

-- ---- the cell of a point. What it is, `Owns` says (Laws/Plane, `found-owns` and `owner-found`); this is how it is computed

-- the distance of a point from the top of N, downwards
abbrev pub depth_of : ℤ → ℕ
depth_of y = nat_abs (pos three_halves -ℤ y)

-- the cell of a face, by the distances from its left and its top edge; the bottom edge is in the last row
unfoldable pub cell_at : (face k right down : ℕ) → Cell
cell_at face k right down =
    record {
      face = face;
      resolution = k;
      row = cond (eqb down face_side) (3 ^ k - 1) (down / side_of k);
      column = right / side_of k;
    }

unfoldable pub point_cell : Arrangement → ℕ → ℤ → ℤ → Cell
unfolding in_belt in_north cell_at
point_cell a k x y =
    cond (in_belt x y) (cell_at (1 + nat_abs x / face_side) k (nat_abs x % face_side) (depth_of y - face_side))
    (cond (in_north a x y) (cell_at 0 k (nat_abs x - a.north * face_side) (depth_of y))
    (cell_at 5 k (nat_abs x - a.south * face_side) (depth_of y - 2 * face_side)))

-- 5: the arrangement. 2: resolution above 15. 7: planar point outside the image
unfoldable pub point_refusal : Arrangement → ℕ → ℤ → ℤ → ℕ
unfolding in_image
point_refusal a k x y = arrangement_refusal a otherwise refuse (ltb 15 k) 2 otherwise refuse (not (in_image a x y)) 7
