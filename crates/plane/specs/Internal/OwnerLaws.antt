-- Owning a point, and being in the image, as facts of the point's face: FaceLaws speaks of these. Assumes nothing.
use Rattle.std.specs.Prelude.{◌≡◌, Bool, true, cond, ℤ, negsuc, ◌<ℤ◌, T, ltb}
use Rattle.std.proofs.Math.Path.{refl, subst}
use Rattle.std.proofs.Common.{sym, ap, ap₂, ◌∙◌, lt_of_not-le, arith, leb→le, le→leb, ltb→lt, lt→ltb, ltb-true, ltb-false, lt-ltb, le-ltb, le-leb}
use Rattle.std.proofs.Math.Bool.{false}
use Prim.Native.Nat.{ℕ, ◌+◌, ◌-◌, ◌*◌, ◌/◌, ◌≤◌, ◌<◌}
use Rattle.std.proofs.Math.Decide.{dec_le}
use Rattle.std.proofs.Math.IntN.{pos, sub_ℕ}
use Rattle.std.specs.Int.Signed.{le_z}
use Rattle.cell.specs.declared.Cell.{Cell}
use Rattle.cell.specs.declared.Arrangement.{Arrangement}
use Rattle.cell.specs.Neighbour.{by_face}
use Rattle.signed.specs.Laws.Sign.{pos-sub, sub-le, sub-lt, sub-le-left, sub-lt-left}
use Rattle.plane.specs.Plane.{face_side, three_halves, side_of, face_left, on_belt, owns_left, owns_top, owns_bottom, Past, Owns, in_image, cell_at, point_cell}
use Rattle.plane.specs.Internal.Depth.{depth_below, face_depth, left_in, depth_in}
use Rattle.plane.specs.Internal.DepthLaws.{left_is, right_is, top-is, bottom-is}
use Rattle.plane.specs.Internal.ImageLaws.{cap-true, true-cap, image-north, image-belt, image-south, cell-north, cell-belt, cell-south}
use Rattle.plane.specs.Internal.FaceLaws.{Beyond, OnFace, InSquare}

-- ---- edges in natural numbers

module _ (e x : ℕ) where
  past-beyond : (b : Bool) → Past b (pos e) (pos x) → Beyond b e x
  past-beyond true h = leb→le e x h.le
  past-beyond false h = ltb→lt e x h.lt

  beyond-past : (b : Bool) → Beyond b e x → Past b (pos e) (pos x)
  beyond-past true h = record { le = le→leb e x h }
  beyond-past false h = record { lt = lt→ltb e x h }

-- the greater Y is the smaller depth
module _ (h e d : ℕ) where
  past-deeper : (b : Bool) → Past b (sub_ℕ h d) (sub_ℕ h e) → Beyond b e d
  past-deeper true p = leb→le e d (subst T (sub-le-left d e h) p.le)
  past-deeper false p = ltb→lt e d (subst T (sub-lt-left d e h) p.lt)

  deeper-past : (b : Bool) → Beyond b e d → Past b (sub_ℕ h d) (sub_ℕ h e)
  deeper-past true p = record { le = subst T (sym (sub-le-left d e h)) (le→leb e d p) }
  deeper-past false p = record { lt = subst T (sym (sub-lt-left d e h)) (lt→ltb e d p) }

-- what is past a left edge is not left of O, and what is below a top edge is not above the top of N
pub not-west : (b : Bool) (e n : ℕ) → Past b (pos e) (negsuc n) → ⊥
not-west true e n h = h.le
not-west false e n h = h.lt

pub not-above : (b : Bool) (h e : ℕ) (y : ℤ) → Past b y (sub_ℕ h e) → le_z y (pos h) ≡ true
not-above b h e (negsuc n) p = refl
not-above b h e (pos n) p = le-leb n h (low b (subst (λ (z : ℤ). Past b z (sub_ℕ h e)) (pos-sub n) p))
  where
    low : (t : Bool) → Past t (sub_ℕ n 0) (sub_ℕ h e) → n ≤ h
    low true q = let l = leb→le (n + e) (h + 0) (subst T (sub-le n 0 h e) q.le) in omega arith
    low false q = let l = ltb→lt (n + e) (h + 0) (subst T (sub-lt n 0 h e) q.lt) in omega arith

-- ---- owning is being in the square of the cell's row and column

module _ (a : Arrangement) (c : Cell) (n d : ℕ) where
  pub owns-square : Owns a c (pos n) (sub_ℕ three_halves d) → InSquare (on_belt c) (face_left a c.face) (face_depth c.face) c.resolution c.row c.column n d
  unfolding owns_left owns_top owns_bottom
  owns-square o =
      record {
        west = past-beyond (left_in a c) n (owns_left c) (subst (λ (z : ℤ). Past (owns_left c) z (pos n)) (left_is a c) o.west);
        east = past-beyond n (left_in a c + side_of c.resolution) false (subst (λ (z : ℤ). pos n <ℤ z) (right_is a c) o.east);
        north = past-deeper three_halves (depth_in c) d (owns_top c) (subst (λ (z : ℤ). Past (owns_top c) (sub_ℕ three_halves d) z) (top-is c) o.north);
        south = past-deeper three_halves d (depth_in c + side_of c.resolution) (owns_bottom c) (subst (λ (z : ℤ). Past (owns_bottom c) z (sub_ℕ three_halves d)) (bottom-is c) o.south);
      }

  pub square-owns : InSquare (on_belt c) (face_left a c.face) (face_depth c.face) c.resolution c.row c.column n d → Owns a c (pos n) (sub_ℕ three_halves d)
  unfolding owns_left owns_top owns_bottom
  square-owns q =
      record {
        west = subst (λ (z : ℤ). Past (owns_left c) z (pos n)) (sym (left_is a c)) (beyond-past (left_in a c) n (owns_left c) q.west);
        east = subst (λ (z : ℤ). pos n <ℤ z) (sym (right_is a c)) (beyond-past n (left_in a c + side_of c.resolution) false q.east);
        north = subst (λ (z : ℤ). Past (owns_top c) (sub_ℕ three_halves d) z) (sym (top-is c)) (deeper-past three_halves (depth_in c) d (owns_top c) q.north);
        south = subst (λ (z : ℤ). Past (owns_bottom c) z (sub_ℕ three_halves d)) (sym (bottom-is c)) (deeper-past three_halves d (depth_in c + side_of c.resolution) (owns_bottom c) q.south);
      }

-- ---- the image is the six faces

-- O to R own their left, top and bottom edge
abbrev pub owns_edges : ℕ → Bool
owns_edges face = by_face face false (λ b. true) false

-- the point n right of O is on the face
abbrev pub On : Arrangement → ℕ → ℕ → ℤ → Type 0
On a face n y = OnFace (owns_edges face) (face_left a face) (face_depth face) n (depth_below y)

-- the cell of the face at the point's distances from the face's left and top edge
abbrev pub cell_on : Arrangement → (face k n : ℕ) → ℤ → Cell
cell_on a face k n y = cell_at face k (n - face_left a face) (depth_below y - face_depth face)

module _ (a : Arrangement) (n : ℕ) (y : ℤ) where
  -- a point of the image is on a face
  pub image-face : in_image a (pos n) y ≡ true → (face : ℕ) × (face ≤ 5) × On a face n y
  unfolding face_left face_depth
  image-face e = go (dec_le face_side d) (dec_le d (2 * face_side))
    where
      d : ℕ
      d = depth_below y

      go : Dec (face_side ≤ d) → Dec (d ≤ 2 * face_side) → (face : ℕ) × (face ≤ 5) × On a face n y
      go (no f) _ =
          let t = cap-true (a.north * face_side) n d (sym (image-north a n y (lt_of_not-le f)) ∙ e) in
          (0, omega arith, record { west = t.0; east = t.1; north = t.2; south = omega arith })
      go (yes h) (yes l) =
          let t = ltb-true n (4 * face_side) (sym (image-belt a n y h l) ∙ e) in
          let q : n / face_side ≤ 3 = omega arith in (
            1 + n / face_side,
            omega arith,
            simp (le-ltb (1 + n / face_side) 1 (omega arith), lt-ltb (1 + n / face_side) 5 (omega arith))
                (record { west = omega arith; east = omega arith; north = h; south = omega arith }),
          )
      go (yes h) (no f) =
          let g = lt_of_not-le f in
          let t = cap-true (a.south * face_side) n (d - 2 * face_side) (sym (image-south a n y g) ∙ e) in
          (5, omega arith, record { west = t.0; east = t.1; north = g; south = omega arith })

  -- a point on a face is in the image, and its cell is of that face
  pub face-image : (k face : ℕ) → face ≤ 5 → On a face n y → (in_image a (pos n) y ≡ true) × (point_cell a k (pos n) y ≡ cell_on a face k n y)
  unfolding face_left face_depth
  face-image k face h o = go (ltb face 1) (ltb face 5) refl refl o
    where
      d : ℕ
      d = depth_below y

      left : (t u : Bool) → ℕ
      left t u = cond t (a.north * face_side) (cond u ((face - 1) * face_side) (a.south * face_side))

      top : (t u : Bool) → ℕ
      top t u = cond t 0 (cond u face_side (2 * face_side))

      go :
          (t u : Bool) → ltb face 1 ≡ t → ltb face 5 ≡ u → OnFace (cond t false (cond u true false)) (left t u) (top t u) n d →
          (in_image a (pos n) y ≡ true) × (point_cell a k (pos n) y ≡ cell_at face k (n - left t u) (d - top t u))
      go true u e f p =
          let z = ltb-true face 1 e in
          let s : d < face_side = p.south in
          let t = true-cap (a.north * face_side) n d p.west p.east p.north s in
          (image-north a n y s ∙ t, cell-north a n y k s t ∙ ap₂ (λ (x w : ℕ). cell_at x k (n - a.north * face_side) w) (omega arith) (omega arith))
      go false true e f p =
          let z = ltb-false face 1 e in
          let v = ltb-true face 5 f in
          let w = p.west in
          let r = p.east in
          let b : d ≤ 2 * face_side = p.south in
          let t : ltb n (4 * face_side) ≡ true = lt-ltb n (4 * face_side) (omega arith) in
          (image-belt a n y p.north b ∙ t, cell-belt a n y k p.north b t ∙ ap₂ (λ (x m : ℕ). cell_at x k m (d - face_side)) (omega arith) (omega arith))
      go false false e f p =
          let z = ltb-false face 5 f in
          let s : 2 * face_side < d = p.north in
          let b : d < 2 * face_side + face_side = p.south in
          let t = true-cap (a.south * face_side) n (d - 2 * face_side) p.west p.east (omega arith) (omega arith) in
          (image-south a n y s ∙ t, cell-south a n y k s ∙ ap (λ (x : ℕ). cell_at x k (n - a.south * face_side) (d - 2 * face_side)) (omega arith))
