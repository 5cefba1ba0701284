-- "Every point of the image is in exactly one cell of each resolution. Any other point is refused." (01 "The plane"), once over the resolution: the
-- cell found owns the point, an owner is the one found, and a point has an owner only within the image. Assumes nothing.
use Rattle.std.specs.Prelude.{◌≡◌, refl, ◌↔◌, Bool, true, false, ◌&&◌, ◌||◌, not, ℕ, ◌+◌, ◌-◌, ◌/◌, ◌^◌, ◌≤◌, ℤ, pos, negsuc, eqb}
use Rattle.std.proofs.Common.{sym, ap, ◌∙◌, subst, subst₂, arith, ltb-false}
use Rattle.std.proofs.lemmas.Bool.{false≢true, not-false}
use Rattle.std.specs.Int.Signed.{le_z}
use Rattle.logic.specs.Refusal.{refuse}
use Rattle.logic.specs.Laws.Refusal.{both, allowed}
use Rattle.cell.specs.declared.Cell.{Cell}
use Rattle.cell.specs.declared.Arrangement.{Arrangement}
use Rattle.cell.specs.Cell.{IsCell, IsArrangement}
use Rattle.cell.proofs.Laws.Cell.{is-arrangement}
use Rattle.ternary.proofs.Laws.Powers.{power_pos}
use Rattle.plane.specs.Plane.{three_halves, side_of, face_left, on_belt, owns_left, owns_top, Past, Owns, nucleus_x, nucleus_y, in_image, cell_at, point_cell, point_refusal}
use Rattle.plane.specs.Internal.Depth.{depth_below, face_depth, left_in, depth_in, row_at}
use Rattle.plane.specs.Internal.DepthLaws.{depth-back, left_is, top-is, nucleus-x, nucleus-y}
use Rattle.plane.specs.Internal.ImageLaws.{image-west, image-deep, refusal_is}
use Rattle.plane.specs.Internal.FaceLaws.{strictly, square-face, face-square}
use Rattle.plane.specs.Internal.OwnerLaws.{On, cell_on, not-west, not-above, owns-square, square-owns, image-face, face-image}

-- a point on a face is owned by the cell at its distances from the face's edges
on-face :
    (a : Arrangement) (k n : ℕ) (y : ℤ) (face : ℕ) → face ≤ 5 → k ≤ 15 → le_z y (pos three_halves) ≡ true → On a face n y →
    IsCell (cell_on a face k n y) × ((cell_on a face k n y).resolution ≡ k) × Owns a (cell_on a face k n y) (pos n) y
unfolding cell_at
on-face a k n y face f g t o =
    let c : Cell = cell_on a face k n y in
    let s = face-square g o in
    (record { fine = g; faced = f; rowed = s.0; columned = s.1 }, refl, subst (Owns a c (pos n)) (sym (depth-back y t)) (square-owns a c n (depth_below y) s.2))

-- the cell found is a cell of that resolution, and owns the point
pub found-owns : (a : Arrangement) (k : ℕ) (x y : ℤ) → k ≤ 15 → in_image a x y ≡ true → IsCell (point_cell a k x y) × ((point_cell a k x y).resolution ≡ k) × Owns a
    (point_cell a k x y) x y
found-owns a k (negsuc n) y g e = absurd (false≢true (sym (image-west a n y) ∙ e))
found-owns a k (pos n) y g e =
    let f = image-face a n y e in
    subst (λ (z : Cell). IsCell z × (z.resolution ≡ k) × Owns a z (pos n) y) (sym (face-image a n y k f.0 f.1 f.2).1) (on-face a k n y f.0 f.1 g (image-deep a n y e) f.2)

-- a cell by its row and column
same-cell : (c : Cell) (right down : ℕ) → row_at c.resolution down ≡ c.row → right / side_of c.resolution ≡ c.column → cell_at c.face c.resolution right down ≡ c
unfolding cell_at
same-cell c right down r j = λ i. record { face = c.face; resolution = c.resolution; row = r i; column = j i }

-- an owner is the cell found; so a point outside the image has none
pub owner-found : (a : Arrangement) (c : Cell) (x y : ℤ) → IsCell c → Owns a c x y → (in_image a x y ≡ true) × (point_cell a c.resolution x y ≡ c)
owner-found a c (negsuc n) y v o = absurd (not-west (owns_left c) (left_in a c) n (subst (λ (z : ℤ). Past (owns_left c) z (negsuc n)) (left_is a c) o.west))
owner-found a c (pos n) y v o =
    let t = not-above (owns_top c) three_halves (depth_in c) y (subst (λ (z : ℤ). Past (owns_top c) y z) (top-is c) o.north) in
    let q = owns-square a c n (depth_below y) (subst (λ (z : ℤ). Owns a c (pos n) z) (depth-back y t) o) in
    let s = square-face v.fine v.rowed v.columned q in
    let f = face-image a n y c.resolution c.face v.faced s.0 in
    (f.0, f.1 ∙ same-cell c (n - face_left a c.face) (depth_below y - face_depth c.face) s.2 s.1)

-- so two owners of one resolution are one
pub one-owner : (a : Arrangement) (c z : Cell) (x y : ℤ) → IsCell c → IsCell z → c.resolution ≡ z.resolution → Owns a c x y → Owns a z x y → c ≡ z
one-owner a c z x y v w e o p = sym (owner-found a c x y v o).1 ∙ ap (λ (k : ℕ). point_cell a k x y) e ∙ (owner-found a z x y w p).1

-- a cell owns its nucleus, being past each of its edges
pub nucleus-owned : (a : Arrangement) (c : Cell) → Owns a c (nucleus_x a c) (nucleus_y c)
nucleus-owned a c =
    let k : ℕ = c.resolution in
    let h = power_pos (15 - k) in
    subst₂ (Owns a c) (sym (nucleus-x a c)) (sym (nucleus-y c))
    (square-owns a c (left_in a c + 3 ^ (15 - k)) (depth_in c + 3 ^ (15 - k))
    (record {
      west = strictly (on_belt c || not (eqb c.column 0)) (omega arith);
      east = omega arith;
      north = strictly (on_belt c || not (eqb c.row 0)) (omega arith);
      south = strictly (on_belt c && eqb (c.row + 1) (3 ^ k)) (omega arith);
    }))

-- so it is the cell of its nucleus
pub nucleus-found : (a : Arrangement) (c : Cell) → IsCell c → point_cell a c.resolution (nucleus_x a c) (nucleus_y c) ≡ c
nucleus-found a c v = (owner-found a c (nucleus_x a c) (nucleus_y c) v (nucleus-owned a c)).1

-- 7 is given exactly outside the image
pub refused-outside : {a : Arrangement} {k : ℕ} (x y : ℤ) → IsArrangement a → k ≤ 15 → (point_refusal a k x y ≡ 7) ↔ (in_image a x y ≡ false)
refused-outside {a} {k} x y g h = (λ e. outside (in_image a x y) (sym (refusal_is x y g h) ∙ e), λ e. refusal_is x y g h ∙ ap (λ (t : Bool). refuse (not t) 7) e)
  where
    outside : (t : Bool) → refuse (not t) 7 ≡ 7 → t ≡ false
    outside true e = absurd (omega arith)
    outside false e = refl

-- where nothing is refused, the answer is a cell
pub point-allowed : (a : Arrangement) (k : ℕ) (x y : ℤ) → point_refusal a k x y ≡ 0 → IsArrangement a × IsCell (point_cell a k x y)
unfolding point_refusal
point-allowed a k x y e =
    let p = both _ _ e in
    let q = both _ _ p.1 in
    (is-arrangement p.0, (found-owns a k x y (ltb-false 15 k (allowed 1 _ q.0)) (not-false (in_image a x y) (allowed 6 _ q.1))).0)
