-- No planar number of the image is larger than 4M, and no edge of a cell. Assumes nothing.
use Rattle.std.specs.Prelude.{◌≡◌, Bool, true, ◌&&◌, ◌||◌, ℕ, ◌+◌, ◌*◌, ◌≤◌, ℤ, pos, negsuc, neg_ℤ, nat_abs}
use Rattle.std.proofs.Common.{sym, ap, ◌∙◌, ⊎_elim, arith}
use Rattle.std.specs.Int.Signed.{le_z, lt_z}
use borrow.Author.Tests.{ltb-true}
use Rattle.logic.specs.Laws.Bools.{and_left, and_right, or-either, clash}
use Rattle.signed.specs.Laws.Sign.{sub-size, size-between}
use Rattle.cell.specs.declared.Cell.{Cell}
use Rattle.cell.specs.declared.Arrangement.{Arrangement}
use Rattle.cell.specs.Cell.{IsCell, IsArrangement}
use Rattle.plane.specs.Plane.{face_side, half, three_halves, side_of, left_of, right_of, top_of, bottom_of, in_belt, in_north, in_south, in_image}
use Rattle.plane.specs.Internal.Depth.{depth_in}
use Rattle.plane.specs.Internal.DepthLaws.{left_is, right_is, top-is, bottom-is}
use Rattle.plane.specs.Internal.ImageLaws.{image-west}
use Rattle.plane.specs.Internal.SideLaws.{left-small, depth_small}

-- ---- the edges of a cell

module _ {a : Arrangement} {c : Cell} (g : IsArrangement a) (v : IsCell c) where
  pub left-within : nat_abs (left_of a c) ≤ 4 * face_side
  left-within = omega (arith, ap nat_abs (left_is a c), left-small g v)

  pub right-within : nat_abs (right_of a c) ≤ 4 * face_side
  right-within = omega (arith, ap nat_abs (right_is a c), left-small g v)

module _ {c : Cell} (v : IsCell c) where
  pub top_within : nat_abs (top_of c) ≤ 4 * face_side
  top_within = omega (arith, ap nat_abs (top-is c), sub-size three_halves (depth_in c), depth_small v)

  pub bottom-within : nat_abs (bottom_of c) ≤ 4 * face_side
  bottom-within = omega (arith, ap nat_abs (bottom-is c), sub-size three_halves (depth_in c + side_of c.resolution), depth_small v)

-- ---- a point of the image

above : (y : ℤ) (m n : ℕ) → lt_z (pos m) y ≡ true → lt_z y (pos n) ≡ true → nat_abs y ≤ n
above (pos k) m n l h = let g = ltb-true k n h in omega arith
above (negsuc k) m n l h = clash (sym l)

beneath : (y : ℤ) (m n : ℕ) → lt_z (negsuc n) y ≡ true → lt_z y (negsuc m) ≡ true → nat_abs y ≤ n
beneath (pos k) m n l h = clash (sym h)
beneath (negsuc k) m n l h = let g = ltb-true k n l in omega arith

all-four : (p q r s : Bool) → ((p && q) && (r && s)) ≡ true → (q ≡ true) × (r ≡ true) × (s ≡ true)
all-four p q r s e =
    let f = and_right (p && q) (r && s) e in
    (and_right p q (and_left (p && q) (r && s) e), and_left r s f, and_right r s f)

module _ {a : Arrangement} (g : IsArrangement a) (n : ℕ) (y : ℤ) where
  belt-within : in_belt (pos n) y ≡ true → (n ≤ 4 * face_side) × (nat_abs y ≤ 4 * face_side)
  unfolding in_belt
  belt-within e =
      let f = all-four (le_z (pos 0) (pos n)) (lt_z (pos n) (pos (4 * face_side))) (le_z (neg_ℤ (pos half)) y) (le_z y (pos half)) e in
      (omega (arith, ltb-true n (4 * face_side) f.0), omega (arith, size-between y half f.1 f.2))

  north-within : in_north a (pos n) y ≡ true → (n ≤ 4 * face_side) × (nat_abs y ≤ 4 * face_side)
  unfolding in_north
  north-within e =
      let f = all-four (lt_z (pos (a.north * face_side)) (pos n)) (lt_z (pos n) (pos ((a.north + 1) * face_side))) (lt_z (pos half) y) (lt_z y (pos three_halves)) e in
      (omega (arith, ltb-true n ((a.north + 1) * face_side) f.0, g.northern), omega (arith, above y half three_halves f.1 f.2))

  south-within : in_south a (pos n) y ≡ true → (n ≤ 4 * face_side) × (nat_abs y ≤ 4 * face_side)
  unfolding in_south
  south-within e =
      let f = all-four (lt_z (pos (a.south * face_side)) (pos n)) (lt_z (pos n) (pos ((a.south + 1) * face_side))) (lt_z (negsuc 43046720) y) (lt_z y (negsuc 14348906)) e in
      (omega (arith, ltb-true n ((a.south + 1) * face_side) f.0, g.southern), omega (arith, beneath y 14348906 43046720 f.1 f.2))

pub image-within : {a : Arrangement} → IsArrangement a → (x y : ℤ) → in_image a x y ≡ true → (nat_abs x ≤ 4 * face_side) × (nat_abs y ≤ 4 * face_side)
unfolding in_image
image-within {a} g (pos n) y e =
    ⊎_elim (λ h. ⊎_elim (belt-within g n y) (north-within g n y) (or-either (in_belt (pos n) y) (in_north a (pos n) y) h)) (south-within g n y)
    (or-either (in_belt (pos n) y || in_north a (pos n) y) (in_south a (pos n) y) e)
image-within {a} g (negsuc n) y e = clash (sym e ∙ image-west a n y)
