-- X and Y of a point against its distance from the left edge of O and its depth. Assumes nothing.
use Rattle.std.specs.Prelude.{◌≡◌, refl, Bool, true, false, ◌&&◌, not, cond, ℕ, suc, ◌+◌, ◌-◌, ◌*◌, ◌^◌, ◌≤◌, ◌<◌, ℤ, pos, negsuc, neg_ℤ, nat_abs, ◌-ℤ◌, leb, ltb}
use Rattle.std.proofs.Common.{sym, ap, ap₂, ◌∙◌, arith, le-leb, leb-true}
use Rattle.std.proofs.Math.IntN.{sub_ℕ}
use Rattle.std.specs.Int.Signed.{le_z, lt_z}
use Rattle.cell.specs.declared.Cell.{Cell}
use Rattle.cell.specs.declared.Arrangement.{Arrangement}
use Rattle.signed.specs.Laws.Sign.{same-le, ltb-not, lt_not_le, sub_at, sub-below, sub-le, sub-less, sub-size, pos-sub, negsuc-sub, minus-plain}
use Rattle.plane.specs.Plane.{face_side, half, three_halves, side_of, face_top, left_of, right_of, top_of, bottom_of, nucleus_x, nucleus_y, in_belt, in_north, in_south, depth_of}
use Rattle.plane.specs.Internal.Depth.{depth_below, face_depth, left_in, depth_in}

-- ---- the edges of a cell

face-top : (face : ℕ) → face_top face ≡ sub_ℕ three_halves (face_depth face)
unfolding face_top face_depth
face-top face = go (ltb face 1) (ltb face 5)
  where
    go : (t u : Bool) → cond t (pos three_halves) (cond u (pos half) (neg_ℤ (pos half))) ≡ sub_ℕ three_halves (cond t 0 (cond u face_side (2 * face_side)))
    go true u = refl
    go false true = refl
    go false false = refl

pub left_is : (a : Arrangement) (c : Cell) → left_of a c ≡ pos (left_in a c)
unfolding left_of
left_is a c = refl

pub right_is : (a : Arrangement) (c : Cell) → right_of a c ≡ pos (left_in a c + side_of c.resolution)
unfolding right_of left_of
right_is a c = refl

pub top-is : (c : Cell) → top_of c ≡ sub_ℕ three_halves (depth_in c)
unfolding top_of
top-is c =
    let d : ℕ = c.row * side_of c.resolution in
    ap (λ (z : ℤ). z -ℤ pos d) (face-top c.face) ∙ sub-less three_halves (face_depth c.face) d

-- what lies below the top edge
below_top : (c : Cell) (n : ℕ) → top_of c -ℤ pos n ≡ sub_ℕ three_halves (depth_in c + n)
below_top c n = ap (λ (z : ℤ). z -ℤ pos n) (top-is c) ∙ sub-less three_halves (depth_in c) n

pub bottom-is : (c : Cell) → bottom_of c ≡ sub_ℕ three_halves (depth_in c + side_of c.resolution)
unfolding bottom_of
bottom-is c = below_top c (side_of c.resolution)

pub nucleus-x : (a : Arrangement) (c : Cell) → nucleus_x a c ≡ pos (left_in a c + 3 ^ (15 - c.resolution))
unfolding nucleus_x left_of
nucleus-x a c = refl

pub nucleus-y : (c : Cell) → nucleus_y c ≡ sub_ℕ three_halves (depth_in c + 3 ^ (15 - c.resolution))
unfolding nucleus_y
nucleus-y c = below_top c (3 ^ (15 - c.resolution))

-- ---- the depth of a point

-- below the top of N a point is given by its depth
pub depth-back : (y : ℤ) → le_z y (pos three_halves) ≡ true → y ≡ sub_ℕ three_halves (depth_below y)
depth-back (pos n) t =
    let h : n ≤ three_halves = leb-true n three_halves t in
    ap pos (omega arith) ∙ sym (sub_at three_halves (three_halves - n) (omega arith))
depth-back (negsuc n) t = ap negsuc (omega arith) ∙ sym (sub-below three_halves (three_halves + suc n) (omega arith))

pub depth_is : (y : ℤ) → le_z y (pos three_halves) ≡ true → depth_of y ≡ depth_below y
depth_is (pos n) t =
    let h : n ≤ three_halves = leb-true n three_halves t in
    ap nat_abs (minus-plain three_halves (pos n) refl) ∙ sub-size three_halves n ∙ omega arith
depth_is (negsuc n) t = refl

-- Y against that of a point e deep is e against the depth
module _ (e : ℕ) where
  pub edge-le : (y : ℤ) → le_z (sub_ℕ three_halves e) y ≡ leb (depth_below y) e
  edge-le (pos n) =
      ap (λ (z : ℤ). le_z (sub_ℕ three_halves e) z) (pos-sub n)
      ∙ sub-le three_halves e n 0
      ∙ same-le (three_halves + 0) (n + e) (three_halves - n) e (λ l. omega arith) (λ l. omega arith)
  edge-le (negsuc n) =
      ap (λ (z : ℤ). le_z (sub_ℕ three_halves e) z) (negsuc-sub n)
      ∙ sub-le three_halves e 0 (suc n)
      ∙ same-le (three_halves + suc n) (0 + e) (three_halves + suc n) e (λ l. omega arith) (λ l. omega arith)

  pub lt-edge : (y : ℤ) → lt_z y (sub_ℕ three_halves e) ≡ ltb e (depth_below y)
  lt-edge y = lt_not_le y (sub_ℕ three_halves e) ∙ ap not (edge-le y) ∙ sym (ltb-not e (depth_below y))

  module _ (p : 0 < e) where
    pub le-edge : (y : ℤ) → le_z y (sub_ℕ three_halves e) ≡ leb e (depth_below y)
    le-edge (pos n) =
        ap (λ (z : ℤ). le_z z (sub_ℕ three_halves e)) (pos-sub n)
        ∙ sub-le n 0 three_halves e
        ∙ same-le (n + e) (three_halves + 0) e (three_halves - n) (λ l. omega arith) (λ l. omega arith)
    le-edge (negsuc n) =
        ap (λ (z : ℤ). le_z z (sub_ℕ three_halves e)) (negsuc-sub n)
        ∙ sub-le 0 (suc n) three_halves e
        ∙ same-le (0 + e) (three_halves + suc n) e (three_halves + suc n) (λ l. omega arith) (λ l. omega arith)

    pub edge-lt : (y : ℤ) → lt_z (sub_ℕ three_halves e) y ≡ ltb (depth_below y) e
    edge-lt y = lt_not_le (sub_ℕ three_halves e) y ∙ ap not (le-edge y) ∙ sym (ltb-not (depth_below y) e)

-- ---- the parts of the image

pub belt-is : (n : ℕ) (y : ℤ) → in_belt (pos n) y ≡ (ltb n (4 * face_side) && (leb (depth_below y) (2 * face_side) && leb face_side (depth_below y)))
unfolding in_belt
belt-is n y =
    ap₂ ◌&&◌ (ap (λ (t : Bool). t && ltb n (4 * face_side)) (le-leb 0 n (omega arith))) (ap₂ ◌&&◌ (edge-le (2 * face_side) y) (le-edge face_side (omega arith) y))

-- N and S lie over the same width
next-face : (c : ℕ) → (c + 1) * face_side ≡ c * face_side + face_side
next-face c = omega arith

pub north-is :
    (a : Arrangement) (n : ℕ) (y : ℤ) →
    in_north a (pos n) y ≡ ((ltb (a.north * face_side) n && ltb n (a.north * face_side + face_side)) && (ltb (depth_below y) face_side && ltb 0 (depth_below y)))
unfolding in_north
north-is a n y =
    ap₂ ◌&&◌ (ap (λ (x : ℕ). ltb (a.north * face_side) n && ltb n x) (next-face a.north)) (ap₂ ◌&&◌ (edge-lt face_side (omega arith) y) (lt-edge 0 y))

pub south-is :
    (a : Arrangement) (n : ℕ) (y : ℤ) →
    in_south a (pos n) y ≡ ((ltb (a.south * face_side) n && ltb n (a.south * face_side + face_side)) && (ltb (depth_below y) (3 * face_side) && ltb (2 * face_side) (depth_below y)))
unfolding in_south
south-is a n y =
    ap₂ ◌&&◌ (ap (λ (x : ℕ). ltb (a.south * face_side) n && ltb n x) (next-face a.south)) (ap₂ ◌&&◌ (edge-lt (3 * face_side) (omega arith) y) (lt-edge (2 * face_side) y))
