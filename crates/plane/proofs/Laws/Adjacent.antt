-- The plane and the neighbours agree (01 "The plane", "Neighbours and shapes"): a neighbour's square lies right beside the cell's, with a whole side in
-- common, inside each face, between face n and N, between face s and S, and along O, P, Q, R. The other edges of N and S, and the one from R to O, are
-- where the plane is cut. Assumes nothing.
use Rattle.std.specs.Prelude.{◌≡◌, false, pos}
use Rattle.std.proofs.Math.Path.{refl, sym, ap}
use Rattle.std.proofs.Common.{ap₂, ◌∙◌, subst, suc-mul, zero-mul, add-one, eq-eqb}
use Prim.Native.Nat.{ℕ, ◌+◌, ◌-◌, ◌*◌, ◌%◌, ◌^◌, ◌≤◌, ◌<◌}
use native.Mathlib.Omega.{arith}
use Rattle.std.proofs.Math.IntN.{sub_ℕ}
use Rattle.std.proofs.lemmas.Bool.{eqb-false}
use Rattle.logic.specs.Choice.{four}
use Rattle.cell.specs.declared.Cell.{Cell}
use Rattle.cell.specs.declared.Arrangement.{Arrangement}
use Rattle.cell.specs.Cell.{IsCell, IsArrangement}
use Rattle.cell.specs.Neighbour.{rows, belt, turn_of, leaves, within_face, into_north, into_south, out_of_belt, out_of_north, out_of_south, neighbour_of}
use Rattle.cell.proofs.Laws.Turns.{four-cases}
use Rattle.cell.proofs.Internal.Seams.{step-within, leads-belt, leads-north, leads-south}
use Rattle.plane.specs.Plane.{face_side, side_of, three_halves, face_left, left_of, right_of, top_of, bottom_of}
use Rattle.plane.specs.Internal.Depth.{face_depth, left_in, depth_in}
use Rattle.plane.specs.Internal.DepthLaws.{left_is, right_is, top-is, bottom-is}
use Rattle.plane.specs.Internal.SideLaws.{whole}
use Rattle.plane.proofs.Laws.Faces.{left-belt, depth-belt}

-- x lies right above c, to its right, below or to its left: the edge between them is one, and so are the two edges that they have in line
abbrev pub Adjacent : Arrangement → Cell → ℕ → Cell → Type 0
Adjacent a c d x =
    four d
    ((left_of a x ≡ left_of a c) × (bottom_of x ≡ top_of c))
    ((left_of a x ≡ right_of a c) × (top_of x ≡ top_of c))
    ((left_of a x ≡ left_of a c) × (top_of x ≡ bottom_of c))
    ((right_of a x ≡ left_of a c) × (top_of x ≡ top_of c))

-- ---- the same by distances from the left edge of O and depths below the top of N

module _ (a : Arrangement) (c x : Cell) where
  same_left : left_in a x ≡ left_in a c → left_of a x ≡ left_of a c
  same_left e = left_is a x ∙ ap pos e ∙ sym (left_is a c)

  same-top : depth_in x ≡ depth_in c → top_of x ≡ top_of c
  same-top e = top-is x ∙ ap (sub_ℕ three_halves) e ∙ sym (top-is c)

  is-above : left_in a x ≡ left_in a c → depth_in x + side_of x.resolution ≡ depth_in c → Adjacent a c 0 x
  is-above e f = (same_left e, bottom-is x ∙ ap (sub_ℕ three_halves) f ∙ sym (top-is c))

  is_right : left_in a x ≡ left_in a c + side_of c.resolution → depth_in x ≡ depth_in c → Adjacent a c 1 x
  is_right e f = (left_is a x ∙ ap pos e ∙ sym (right_is a c), same-top f)

-- seen from the other cell
turned_up : (a : Arrangement) (c x : Cell) → Adjacent a c 0 x → Adjacent a x 2 c
turned_up a c x h = (sym h.0, sym h.1)

turned_right : (a : Arrangement) (c x : Cell) → Adjacent a c 1 x → Adjacent a x 3 c
turned_right a c x h = (sym h.0, sym h.1)

-- ---- "Inside a face it is the plain step."

after : (j s : ℕ) → (j + 1) * s ≡ j * s + s
after j s = ap (λ (x : ℕ). x * s) (add-one j) ∙ suc-mul j s

before : (j s : ℕ) → 0 < j → (j - 1) * s + s ≡ j * s
before j s h = sym (after (j - 1) s) ∙ ap (λ (x : ℕ). x * s) (omega arith)

inside : (a : Arrangement) (c : Cell) (d : ℕ) → d < 4 → leaves c d ≡ false → Adjacent a c d (within_face c d)
unfolding leaves within_face
inside a c d l =
    let s : ℕ = side_of c.resolution in
    four-cases (λ (e : ℕ). leaves c e ≡ false → Adjacent a c e (within_face c e))
    (λ h. let q = eqb-false c.row 0 h in let e = before c.row s (omega arith) in is-above a c (within_face c 0) refl (omega arith))
    (λ h. let e = after c.column s in is_right a c (within_face c 1) (omega arith) refl)
    (λ h. let e = after c.row s in turned_up a (within_face c 2) c (is-above a (within_face c 2) c refl (omega arith)))
    (λ h.
    let q = eqb-false c.column 0 h in
    let e = before c.column s (omega arith) in
    turned_right a (within_face c 3) c (is_right a (within_face c 3) c (omega arith) refl))
    d
    l

-- the neighbour is x
to : (a : Arrangement) (c : Cell) (d : ℕ) {x : Cell} → neighbour_of a c d ≡ x → Adjacent a c d x → Adjacent a c d (neighbour_of a c d)
to a c d e h = subst (λ (y : Cell). Adjacent a c d y) (sym e) h

pub adjacent-inside : (a : Arrangement) (c : Cell) (d : ℕ) → d < 4 → leaves c d ≡ false → Adjacent a c d (neighbour_of a c d)
adjacent-inside a c d l h = to a c d (step-within a c d h) (inside a c d l h)

-- ---- from face to face

-- the last row, or column, ends at the face's edge, and the first one begins there
last : (k i : ℕ) → k ≤ 15 → i + 1 ≡ 3 ^ k → i * side_of k + side_of k ≡ face_side
last k i g h = sym (after i (side_of k)) ∙ ap (λ (x : ℕ). x * side_of k) h ∙ whole g

first : (k i : ℕ) → i ≡ 0 → i * side_of k ≡ 0
first k i h = ap (λ (x : ℕ). x * side_of k) h ∙ zero-mul (side_of k)

-- the last row of y's face meets the first of x's, which lies right under it; so do the last column of x's and the first of y's to the right
module _ (a : Arrangement) (x y : Cell) (g : x.resolution ≤ 15) (r : y.resolution ≡ x.resolution) where
  stacked :
      face_left a y.face ≡ face_left a x.face → face_depth y.face + face_side ≡ face_depth x.face →
      y.column ≡ x.column → y.row + 1 ≡ rows y → x.row ≡ 0 → Adjacent a x 0 y
  stacked p q c h i =
      let e = last y.resolution y.row (omega arith) h in
      let f = first x.resolution x.row i in
      let u : y.column * side_of y.resolution ≡ x.column * side_of x.resolution = ap₂ (λ (j k : ℕ). j * side_of k) c r in
      is-above a x y (omega arith) (omega arith)

  abreast :
      face_left a y.face ≡ face_left a x.face + face_side → face_depth y.face ≡ face_depth x.face →
      y.row ≡ x.row → x.column + 1 ≡ rows x → y.column ≡ 0 → Adjacent a x 1 y
  abreast p q c h i =
      let e = last x.resolution x.column g h in
      let f = first y.resolution y.column i in
      let u : y.row * side_of y.resolution ≡ x.row * side_of x.resolution = ap₂ (λ (j k : ℕ). j * side_of k) c r in
      is_right a x y (omega arith) (omega arith)

-- "N lies above face n", "S lies below face s"
module _ (a : Arrangement) {c : Cell} (w : IsArrangement a) (v : IsCell c) where
  pub adjacent-into-north : c.face ≡ belt a.north → c.row ≡ 0 → Adjacent a c 0 (neighbour_of a c 0)
  unfolding leaves out_of_belt into_north face_left face_depth
  adjacent-into-north f h =
      let n : ℕ = a.north in
      let l : n < 4 = omega (arith, w.northern) in
      let t : turn_of n n ≡ 0 = omega arith in
      let k = v.rowed in
      to a c 0 ((leads-belt a c 0 n l f (eq-eqb c.row 0 h)).there ∙ ap (into_north c) t)
      (stacked a c (into_north c 0) v.fine refl (sym (left-belt a n l f)) (sym (depth-belt n l f)) refl (omega arith) h)

  pub adjacent-out-of-north : c.face ≡ 0 → c.row + 1 ≡ rows c → Adjacent a c 2 (neighbour_of a c 2)
  unfolding leaves out_of_north face_left face_depth
  adjacent-out-of-north f h =
      let n : ℕ = a.north in
      let x : Cell = out_of_north a c 0 in
      let l : n < 4 = omega (arith, w.northern) in
      let e : belt ((n + 0) % 4) ≡ belt n = omega arith in
      to a c 2 (leads-north a c 2 f (eq-eqb (c.row + 1) (rows c) h)).there
      (turned_up a x c (stacked a x c v.fine refl (ap (face_left a) f ∙ sym (left-belt a n l e)) (ap (λ (y : ℕ). face_depth y + face_side) f ∙ sym (depth-belt n l e)) refl h refl))

  pub adjacent-into-south : c.face ≡ belt a.south → c.row + 1 ≡ rows c → Adjacent a c 2 (neighbour_of a c 2)
  unfolding leaves out_of_belt into_south face_left face_depth
  adjacent-into-south f h =
      let s : ℕ = a.south in
      let x : Cell = into_south c 0 in
      let l : s < 4 = omega (arith, w.southern) in
      let t : turn_of s s ≡ 0 = omega arith in
      to a c 2 ((leads-belt a c 2 s l f (eq-eqb (c.row + 1) (rows c) h)).there ∙ ap (into_south c) t)
      (turned_up a x c (stacked a x c v.fine refl (left-belt a s l f) (ap (λ (y : ℕ). y + face_side) (depth-belt s l f)) refl h refl))

  pub adjacent-out-of-south : c.face ≡ 5 → c.row ≡ 0 → Adjacent a c 0 (neighbour_of a c 0)
  unfolding leaves out_of_south face_left face_depth
  adjacent-out-of-south f h =
      let s : ℕ = a.south in
      let x : Cell = out_of_south a c 0 in
      let l : s < 4 = omega (arith, w.southern) in
      let e : belt ((s + 0) % 4) ≡ belt s = omega arith in
      let k = v.rowed in
      to a c 0 (leads-south a c 0 f (eq-eqb c.row 0 h)).there
      (stacked a c x v.fine refl (left-belt a s l e ∙ ap (face_left a) (sym f)) (ap (λ (y : ℕ). y + face_side) (depth-belt s l e) ∙ ap face_depth (sym f)) refl (omega arith) h)

-- along O, P, Q, R, from face b to the next, and from it to the one before
module _ (a : Arrangement) {c : Cell} (b : ℕ) (v : IsCell c) (f : c.face ≡ belt b) where
  pub adjacent-eastward : b < 3 → c.column + 1 ≡ rows c → Adjacent a c 1 (neighbour_of a c 1)
  unfolding leaves out_of_belt
  adjacent-eastward l h =
      let x : Cell = out_of_belt a c 1 b in
      let e : belt ((b + 1) % 4) ≡ belt (b + 1) = omega arith in
      let p = left-belt a b (omega arith) f in
      let q = left-belt a (b + 1) (omega arith) e in
      to a c 1 (leads-belt a c 1 b (omega arith) f (eq-eqb (c.column + 1) (rows c) h)).there
      (abreast a c x v.fine refl (omega arith) (depth-belt (b + 1) (omega arith) e ∙ sym (depth-belt b (omega arith) f)) refl h refl)

  pub adjacent-westward : 0 < b → b < 4 → c.column ≡ 0 → Adjacent a c 3 (neighbour_of a c 3)
  unfolding leaves out_of_belt
  adjacent-westward g l h =
      let x : Cell = out_of_belt a c 3 b in
      let e : belt ((b + 3) % 4) ≡ belt (b - 1) = omega arith in
      let p = left-belt a b l f in
      let q = left-belt a (b - 1) (omega arith) e in
      let k = v.columned in
      to a c 3 (leads-belt a c 3 b l f (eq-eqb c.column 0 h)).there
      (turned_right a x c (abreast a x c v.fine refl (omega arith) (depth-belt b l f ∙ sym (depth-belt (b - 1) (omega arith) e)) refl (omega arith) h))
