-- The image by depth: N down to M, O to R down to 2M, S below. Assumes nothing.
use Rattle.std.specs.Prelude.{◌≡◌, Bool, true, false, ◌&&◌, ◌||◌, not, cond, ℕ, ◌+◌, ◌-◌, ◌*◌, ◌/◌, ◌%◌, ◌≤◌, ◌<◌, ℤ, pos, negsuc, ltb}
use Rattle.std.proofs.Math.Path.{refl}
use Rattle.std.proofs.Common.{sym, ap, ap₂, ◌∙◌, lt_of_not-le, arith, le-ltb, lt-ltb, le-leb, ltb-true}
use Rattle.std.proofs.Math.Bool.{and-true, and-false, or-false, and-eq-true_iff}
use Rattle.std.proofs.Math.Decide.{dec_le}
use Rattle.std.specs.Int.Signed.{le_z}
use Rattle.std.proofs.lemmas.Bool.{lt-leb}
use Rattle.logic.specs.Refusal.{refuse, ◌otherwise◌}
use Rattle.logic.specs.Laws.Refusal.{passes}
use Rattle.cell.specs.declared.Cell.{Cell}
use Rattle.cell.specs.declared.Arrangement.{Arrangement}
use Rattle.cell.specs.Cell.{IsArrangement, found}
use Rattle.cell.proofs.Laws.Cell.{arrangement-is}
use Rattle.signed.specs.Laws.Sign.{same-lt}
use Rattle.plane.specs.Plane.{face_side, three_halves, in_belt, in_north, in_south, in_image, cell_at, point_cell, point_refusal, depth_of}
use Rattle.plane.specs.Internal.Depth.{depth_below, on_cap, found_on_cap, found_on_belt, found_at}
use Rattle.plane.specs.Internal.DepthLaws.{depth_is, belt-is, north-is, south-is}

-- nothing lies left of O
pub image-west : (a : Arrangement) (n : ℕ) (y : ℤ) → in_image a (negsuc n) y ≡ false
unfolding in_image
image-west a n y = refl

image-is : (a : Arrangement) (x y : ℤ) → in_image a x y ≡ (in_belt x y || in_north a x y || in_south a x y)
unfolding in_image
image-is a x y = refl

-- a point with a depth is below the top of N
pub deep : (y : ℤ) → 0 < depth_below y → le_z y (pos three_halves) ≡ true
deep (pos n) h = le-leb n three_halves (omega arith)
deep (negsuc n) h = refl

-- what it is to lie within a cap
module _ (left n down : ℕ) where
  pub cap-true : on_cap left n down ≡ true → (left < n) × (n < left + face_side) × (0 < down) × (down < face_side)
  cap-true e =
      let p = (and-eq-true_iff (ltb left n && ltb n (left + face_side)) (ltb 0 down && ltb down face_side)).0 e in
      let q = (and-eq-true_iff (ltb left n) (ltb n (left + face_side))).0 p.0 in
      let r = (and-eq-true_iff (ltb 0 down) (ltb down face_side)).0 p.1 in
      (ltb-true left n q.0, ltb-true n (left + face_side) q.1, ltb-true 0 down r.0, ltb-true down face_side r.1)

  pub true-cap : left < n → n < left + face_side → 0 < down → down < face_side → on_cap left n down ≡ true
  true-cap w e h l = simp (lt-ltb left n w, lt-ltb n (left + face_side) e, lt-ltb 0 down h, lt-ltb down face_side l)

module _ (a : Arrangement) (n : ℕ) (y : ℤ) where
  -- outside its depths a part holds nothing, and inside them the width decides
  belt-above : depth_below y < face_side → in_belt (pos n) y ≡ false
  belt-above h = belt-is n y ∙ simp (lt-leb face_side (depth_below y) h, and-false)

  belt-below : 2 * face_side < depth_below y → in_belt (pos n) y ≡ false
  belt-below h = belt-is n y ∙ simp (lt-leb (depth_below y) (2 * face_side) h, and-false)

  belt-on : face_side ≤ depth_below y → depth_below y ≤ 2 * face_side → in_belt (pos n) y ≡ ltb n (4 * face_side)
  belt-on h k = belt-is n y ∙ simp (le-leb (depth_below y) (2 * face_side) k, le-leb face_side (depth_below y) h, and-true)

  north-below : face_side ≤ depth_below y → in_north a (pos n) y ≡ false
  north-below h = north-is a n y ∙ simp (le-ltb (depth_below y) face_side h, and-false)

  north-on : depth_below y < face_side → in_north a (pos n) y ≡ on_cap (a.north * face_side) n (depth_below y)
  north-on h = north-is a n y ∙ simp (lt-ltb (depth_below y) face_side h, and-true)

  south-above : depth_below y ≤ 2 * face_side → in_south a (pos n) y ≡ false
  south-above h = south-is a n y ∙ simp (le-ltb (2 * face_side) (depth_below y) h, and-false)

  south-on : 2 * face_side < depth_below y → in_south a (pos n) y ≡ on_cap (a.south * face_side) n (depth_below y - 2 * face_side)
  south-on h =
      let d : ℕ = depth_below y in
      let e = same-lt d (3 * face_side) (d - 2 * face_side) face_side (λ l. omega arith) (λ l. omega arith) in
      south-is a n y ∙ simp (lt-ltb (2 * face_side) d h, lt-ltb 0 (d - 2 * face_side) (omega arith), e, and-true)

  -- ---- the image at each depth

  pub image-north : depth_below y < face_side → in_image a (pos n) y ≡ on_cap (a.north * face_side) n (depth_below y)
  image-north h =
      image-is a (pos n) y
      ∙ ap₂ (λ (t u : Bool). t || in_north a (pos n) y || u) (belt-above h) (south-above (omega arith))
      ∙ or-false _
      ∙ north-on h

  pub image-belt : face_side ≤ depth_below y → depth_below y ≤ 2 * face_side → in_image a (pos n) y ≡ ltb n (4 * face_side)
  image-belt h k =
      image-is a (pos n) y
      ∙ ap₂ (λ (t u : Bool). in_belt (pos n) y || t || u) (north-below h) (south-above k)
      ∙ or-false _
      ∙ or-false _
      ∙ belt-on h k

  pub image-south : 2 * face_side < depth_below y → in_image a (pos n) y ≡ on_cap (a.south * face_side) n (depth_below y - 2 * face_side)
  image-south h =
      image-is a (pos n) y
      ∙ ap₂ (λ (t u : Bool). t || u || in_south a (pos n) y) (belt-below h) (north-below (omega arith))
      ∙ south-on h

  -- nothing lies above the top of N
  pub image-deep : in_image a (pos n) y ≡ true → le_z y (pos three_halves) ≡ true
  image-deep e = go (dec_le face_side (depth_below y))
    where
      go : Dec (face_side ≤ depth_below y) → le_z y (pos three_halves) ≡ true
      go (yes h) = deep y (omega arith)
      go (no f) = deep y (cap-true (a.north * face_side) n (depth_below y) (sym (image-north (lt_of_not-le f)) ∙ e)).2

  -- ---- and the cell

  module _ (k : ℕ) where
    -- of O to R, else of N, else of S
    abbrev either : Bool → Bool → Cell
    either belt north =
        cond belt (cell_at (1 + n / face_side) k (n % face_side) (depth_of y - face_side))
        (cond north (cell_at 0 k (n - a.north * face_side) (depth_of y))
        (cell_at 5 k (n - a.south * face_side) (depth_of y - 2 * face_side)))

    cell-is : point_cell a k (pos n) y ≡ either (in_belt (pos n) y) (in_north a (pos n) y)
    unfolding point_cell
    cell-is = refl

    pub cell-north : depth_below y < face_side → on_cap (a.north * face_side) n (depth_below y) ≡ true → point_cell a k (pos n) y ≡ cell_at 0 k (n - a.north * face_side) (depth_below y)
    cell-north h e =
        let p = cap-true (a.north * face_side) n (depth_below y) e in
        cell-is
        ∙ ap₂ either (belt-above h) (north-on h ∙ e)
        ∙ ap (cell_at 0 k (n - a.north * face_side)) (depth_is y (deep y p.2))

    pub cell-belt : face_side ≤ depth_below y → depth_below y ≤ 2 * face_side → ltb n (4 * face_side) ≡ true → point_cell a k (pos n) y ≡ cell_at (1 + n / face_side) k (n % face_side)
        (depth_below y - face_side)
    cell-belt h l e =
        cell-is
        ∙ ap (λ (t : Bool). either t (in_north a (pos n) y)) (belt-on h l ∙ e)
        ∙ ap (λ (d : ℕ). cell_at (1 + n / face_side) k (n % face_side) (d - face_side)) (depth_is y (deep y (omega arith)))

    pub cell-south : 2 * face_side < depth_below y → point_cell a k (pos n) y ≡ cell_at 5 k (n - a.south * face_side) (depth_below y - 2 * face_side)
    cell-south h =
        cell-is
        ∙ ap₂ either (belt-below h) (north-below (omega arith))
        ∙ ap (λ (d : ℕ). cell_at 5 k (n - a.south * face_side) (d - 2 * face_side)) (depth_is y (deep y (omega arith)))

-- ---- a good arrangement and resolution leave the image to decide

pub refusal_is : {a : Arrangement} {k : ℕ} (x y : ℤ) → IsArrangement a → k ≤ 15 → point_refusal a k x y ≡ refuse (not (in_image a x y)) 7
unfolding point_refusal
refusal_is {a} {k} x y g h =
    let r : ℕ = refuse (not (in_image a x y)) 7 in
    passes (refuse (ltb 15 k) 2 otherwise r) (arrangement-is g) ∙ passes r (ap (λ (t : Bool). refuse t 2) (le-ltb 15 k h))

-- ---- so the cell of a point, or 7, is the one found by the depth

-- the cell matters only within the image
same-found : (t : Bool) (c x : Cell) → (t ≡ true → c ≡ x) → found (refuse (not t) 7) c ≡ found (refuse (not t) 7) x
unfolding found
same-found true c x e = ap (found 0) (e refl)
same-found false c x e = refl

pub found-is : (a : Arrangement) (k n : ℕ) (y : ℤ) → found (refuse (not (in_image a (pos n) y)) 7) (point_cell a k (pos n) y) ≡ found_at a k n (depth_below y)
unfolding found_at found_on_cap found_on_belt
found-is a k n y = go (dec_le face_side (depth_below y)) (dec_le (depth_below y) (2 * face_side))
  where
    -- one of the three: its test is the image's, and where it passes its cell is the point's
    part :
        (t : Bool) (x : Cell) → in_image a (pos n) y ≡ t → (t ≡ true → point_cell a k (pos n) y ≡ x) →
        found (refuse (not (in_image a (pos n) y)) 7) (point_cell a k (pos n) y) ≡ found (refuse (not t) 7) x
    part t x e f = ap (λ (u : Bool). found (refuse (not u) 7) (point_cell a k (pos n) y)) e ∙ same-found t (point_cell a k (pos n) y) x f

    go : Dec (face_side ≤ depth_below y) → Dec (depth_below y ≤ 2 * face_side) → found (refuse (not (in_image a (pos n) y)) 7) (point_cell a k (pos n) y) ≡ found_at a k n (depth_below y)
    go (no h) d =
        let l = lt_of_not-le h in
        part _ _ (image-north a n y l) (cell-north a n y k l) ∙ simp (lt-ltb (depth_below y) face_side l)
    go (yes h) (yes l) =
        part _ _ (image-belt a n y h l) (cell-belt a n y k h l) ∙ simp (le-ltb (depth_below y) face_side h, le-leb (depth_below y) (2 * face_side) l)
    go (yes h) (no f) =
        let l = lt_of_not-le f in
        part _ _ (image-south a n y l) (λ e. cell-south a n y k l) ∙ simp (le-ltb (depth_below y) face_side h, lt-leb (depth_below y) (2 * face_side) l)
