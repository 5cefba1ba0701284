-- The cell of a fix and the plane agree: the square of the cell (01 "The plane") holds the point where the fix lies. So n and s of the plane are those
-- of the fix. Assumes nothing.
use Rattle.std.specs.Prelude.{◌≡◌, true, false, T, ℤ, pos, negsuc, neg_ℤ, nat_abs, ◌+ℤ◌, ◌-ℤ◌, ◌*ℤ◌, ◌≤ℤ◌, ◌<ℤ◌}
use Rattle.std.proofs.Math.Path.{refl, ap, ap₂}
use Rattle.std.proofs.Common.{sym, ◌∙◌, subst, subst₂, mul-add, mul_assoc, mul_comm, mul_left_comm, mul-le-mul_left, div-add-mod', mod-lt, suc-mul, add-one, arith, le→leb, lt→ltb, leb-true, ltb-true}
use Prim.Native.Nat.{ℕ, suc, ◌+◌, ◌-◌, ◌*◌, ◌/◌, ◌%◌, ◌^◌, ◌≤◌, ◌<◌}
use Rattle.std.proofs.Math.Nat.{mul-lt-mul_of_pos_left}
use Rattle.std.proofs.Math.IntN.{sub_ℕ}
use Rattle.std.specs.Int.Signed.{le_z, lt_z}
use Rattle.ternary.proofs.Laws.Powers.{power_pos}
use Rattle.signed.specs.Laws.Sign.{pos-sub, negsuc-sub, sub_at, sub_same, sub-le, sub-lt, sub-sub, minus-plain}
use Rattle.signed.specs.Laws.Times.{sub-times}
use Rattle.cell.specs.declared.Cell.{Cell}
use Rattle.cell.specs.declared.Arrangement.{Arrangement}
use Rattle.cell.specs.Neighbour.{belt, turn_of}
use Rattle.plane.specs.Plane.{face_side, half, three_halves, side_of, face_left, left_of, right_of, top_of, bottom_of}
use Rattle.plane.specs.Internal.Depth.{face_depth, left_in, depth_in}
use Rattle.plane.specs.Internal.DepthLaws.{left_is, right_is, top-is, bottom-is}
use Rattle.plane.specs.Internal.SideLaws.{side-pos, whole}
use Rattle.plane.proofs.Laws.Faces.{left-belt, depth-belt}
use Rattle.root.specs.Floor.{at_most, IsFloor}
use Rattle.root.specs.Compared.{at_most_root}
use Rattle.root.specs.Laws.Floor.{at-most-scaled}
use Rattle.root.specs.Laws.Plain.{at-most-root}
use Rattle.locate.specs.Fix.{CapPoint, quarter, in_range, is_belt, east_of, offset_of, height_of, start_north, start_south, turned_north, turned_south, belt_cell, fix_cell}
use Rattle.locate.specs.Internal.RangeLaws.{longitude-low, east-small, in-belt, offset-north, offset-south}
use Rattle.locate.proofs.Laws.Fix.{fix-belt}
use Rattle.locate.proofs.Laws.Floors.{AtFloors, north-floors, south-floors}

-- ---- the belt: X = M (c + a/900,000,000), Y = 3Mz / (4 x 10^18), each inequality times its denominator

-- left ≤ X < right, bottom < Y ≤ top. 3z is never -2 x 10^18, so that no fix lies on the bottom edge that the lowest row of O to R owns
pub record HeldInBelt (a : Arrangement) (c : Cell) (L z : ℤ) : Type 0 where
  pub west : (pos quarter *ℤ left_of a c) ≤ℤ (pos face_side *ℤ (L +ℤ pos 1800000000))
  pub east : (pos face_side *ℤ (L +ℤ pos 1800000000)) <ℤ (pos quarter *ℤ right_of a c)
  pub north : (pos (3 * face_side) *ℤ z) ≤ℤ (pos (4 * 10 ^ 18) *ℤ top_of c)
  pub south : (pos (4 * 10 ^ 18) *ℤ bottom_of c) <ℤ (pos (3 * face_side) *ℤ z)

at-most : (a b c d : ℕ) → a + d ≤ c + b → sub_ℕ a b ≤ℤ sub_ℕ c d
at-most a b c d h = record { le = subst T (sym (sub-le a b c d)) (le→leb (a + d) (c + b) h) }

below : (a b c d : ℕ) → a + d < c + b → sub_ℕ a b <ℤ sub_ℕ c d
below a b c d h = record { lt = subst T (sym (sub-lt a b c d)) (lt→ltb (a + d) (c + b) h) }

deep : (d : ℕ) {v : ℤ} → v ≡ sub_ℕ three_halves d → pos (4 * 10 ^ 18) *ℤ v ≡ sub_ℕ (4 * 10 ^ 18 * three_halves) (4 * 10 ^ 18 * d)
deep d h = ap (λ (v : ℤ). pos (4 * 10 ^ 18) *ℤ v) h ∙ sub-times (4 * 10 ^ 18) three_halves d

-- by the left edge and the depth
held :
    (a : Arrangement) (c : Cell) (L z : ℤ) (E p q : ℕ) → L +ℤ pos 1800000000 ≡ pos E → z ≡ sub_ℕ p q →
    quarter * left_in a c ≤ face_side * E → face_side * E < quarter * (left_in a c + side_of c.resolution) →
    3 * face_side * p + 4 * 10 ^ 18 * depth_in c ≤ 4 * 10 ^ 18 * three_halves + 3 * face_side * q →
    4 * 10 ^ 18 * three_halves + 3 * face_side * q < 3 * face_side * p + 4 * 10 ^ 18 * (depth_in c + side_of c.resolution) → HeldInBelt a c L z
held a c L z E p q x y w e n s =
    let X = ap (λ (v : ℤ). pos face_side *ℤ v) x in
    let Y = ap (λ (v : ℤ). pos (3 * face_side) *ℤ v) y ∙ sub-times (3 * face_side) p q in
    record {
      west = subst₂ ◌≤ℤ◌ (sym (ap (λ (v : ℤ). pos quarter *ℤ v) (left_is a c))) (sym X) (record { le = le→leb _ _ w });
      east = subst₂ ◌<ℤ◌ (sym X) (sym (ap (λ (v : ℤ). pos quarter *ℤ v) (right_is a c))) (record { lt = lt→ltb _ _ e });
      north = subst₂ ◌≤ℤ◌ (sym Y) (sym (deep (depth_in c) (top-is c))) (at-most _ _ _ _ n);
      south = subst₂ ◌<ℤ◌ (sym (deep (depth_in c + side_of c.resolution) (bottom-is c))) (sym Y) (below _ _ _ _ s);
    }

-- the floor of m n / d, for m = 3^k, in units of the plane: m cells make a face's side
module _ (k n d : ℕ) (g : k ≤ 15) (p : 0 < d) where
  abbrev part : ℕ
  part = 3 ^ k * n / d

  scaled : side_of k * (3 ^ k * n) ≡ face_side * n
  scaled = sym (mul_assoc (side_of k) (3 ^ k) n) ∙ ap (λ (x : ℕ). x * n) (mul_comm (side_of k) (3 ^ k) ∙ whole g)

  part_low : d * (part * side_of k) ≤ face_side * n
  part_low =
      let e = div-add-mod' (3 ^ k * n) d in
      let h : side_of k * (part * d) ≤ side_of k * (3 ^ k * n) = mul-le-mul_left (side_of k) (omega arith) in
      let f : side_of k * (part * d) ≡ d * (part * side_of k) = simp (mul_assoc, mul_comm, mul_left_comm) in
      omega (arith, scaled)

  part-high : face_side * n < d * (part * side_of k + side_of k)
  part-high =
      let e = div-add-mod' (3 ^ k * n) d in
      let l = mod-lt (3 ^ k * n) p in
      let h : side_of k * (3 ^ k * n) < side_of k * (part * d + d) = mul-lt-mul_of_pos_left (omega arith) (side-pos k) in
      let f : side_of k * (part * d) ≡ d * (part * side_of k) = simp (mul_assoc, mul_comm, mul_left_comm) in
      let q = mul-add (side_of k) (part * d) d in
      let r = mul-add d (part * side_of k) (side_of k) in
      let s = mul_comm d (side_of k) in
      omega (arith, scaled)

-- L + 1,800,000,000 is not negative, and below a full turn
east-is : (L : ℤ) → le_z (neg_ℤ (pos 1800000000)) L ≡ true → lt_z L (pos 1800000000) ≡ true → L +ℤ pos 1800000000 ≡ pos (east_of L)
unfolding east_of
east-is (pos a) l h = let k : a < 1800000000 = ltb-true a 1800000000 h in ap pos (omega arith)
east-is (negsuc a) l h =
    let k : a ≤ 1799999999 = leb-true a 1799999999 l in
    let e = sub_at 1800000000 (suc a) (omega arith) in
    let m : 1800000000 - suc a ≡ (1800000000 - suc a) % 3600000000 = omega arith in
    e ∙ ap pos m ∙ ap (λ (x : ℤ). pos (nat_abs x % 3600000000)) (sym e)

-- z is a difference, and 2 x 10^18 - 3z is the offset
offset-is : (z : ℤ) → is_belt z ≡ true → (p : ℕ) × (q : ℕ) × (z ≡ sub_ℕ p q) × (offset_of z + 3 * p ≡ 2 * 10 ^ 18 + 3 * q)
offset-is (pos n) e = let h = in-belt (pos n) e in let o = offset-north n h in (n, 0, pos-sub n, omega arith)
offset-is (negsuc n) e = let o = offset-south (suc n) in (0, suc n, negsuc-sub n, omega arith)

module _ (a : Arrangement) (k : ℕ) (L z : ℤ) (g : k ≤ 15) where
  abbrev in_there : Cell
  in_there = belt_cell k (east_of L) (offset_of z)

  left_there : east_of L < 3600000000 → left_in a in_there ≡ east_of L / quarter * face_side + 3 ^ k * (east_of L % quarter) / quarter * side_of k
  unfolding belt_cell
  left_there l =
      ap₂ ◌+◌ (left-belt a {f = belt (east_of L / quarter)} (east_of L / quarter) (omega arith) refl)
      (ap (λ (x : ℕ). x / quarter * side_of k) (mul_comm (east_of L % quarter) (3 ^ k)))

  depth-there : east_of L < 3600000000 → depth_in in_there ≡ face_side + 3 ^ k * offset_of z / (4 * 10 ^ 18) * side_of k
  unfolding belt_cell
  depth-there l =
      ap (λ (x : ℕ). x + 3 ^ k * offset_of z / (4 * 10 ^ 18) * side_of k) (depth-belt {f = belt (east_of L / quarter)} (east_of L / quarter) (omega arith) refl)

  in-belt-there : in_range L z ≡ true → lt_z L (pos 1800000000) ≡ true → is_belt z ≡ true → HeldInBelt a in_there L z
  unfolding belt_cell
  in-belt-there r w b =
      let E : ℕ = east_of L in
      let l : E < 3600000000 = east-small L in
      let f = left_there l in
      let t = depth-there l in
      let x = east-is L (longitude-low L z r) w in
      let o = offset-is z b in
      let p : ℕ = o.0 in
      let q : ℕ = o.1 in
      let h = part_low k (E % quarter) quarter g (omega arith) in
      let i = part-high k (E % quarter) quarter g (omega arith) in
      let u = part_low k (offset_of z) (4 * 10 ^ 18) g (omega arith) in
      let v = part-high k (offset_of z) (4 * 10 ^ 18) g (omega arith) in
      held a in_there L z E p q x o.2 (omega arith) (omega arith) (omega (arith, o.3)) (omega (arith, o.3))

-- of every longitude but 1,800,000,000, whose cell is that of -1,800,000,000 (Laws/Fix, `antimeridian`)
pub held-in-belt :
    (a : Arrangement) (k : ℕ) (L z : ℤ) → k ≤ 15 → in_range L z ≡ true → lt_z L (pos 1800000000) ≡ true → is_belt z ≡ true →
    HeldInBelt a (fix_cell a k L z) L z
held-in-belt a k L z g r w b = subst (λ (c : Cell). HeldInBelt a c L z) (sym (fix-belt a k L z b)) (in-belt-there a k L z g r w b)

-- ---- the caps: with h = √t / 10^9 the end (p, q) lies M p h / 1,800,000,000 right of the middle of the cap and M q h / 1,800,000,000 above it

-- from the middle (x, y): left ≤ X < right, bottom < Y ≤ top, each times 900,000,000,000,000,000; the rows run down, so -q is compared
pub record HeldInCap (a : Arrangement) (c : Cell) (x y : ℤ) (end : CapPoint) (t : ℕ) : Type 0 where
  pub west : at_most_root (pos 900000000000000000 *ℤ (left_of a c -ℤ x)) (pos half *ℤ end.0) t ≡ true
  pub east : at_most_root (pos 900000000000000000 *ℤ (right_of a c -ℤ x)) (pos half *ℤ end.0) t ≡ false
  pub north : at_most_root (pos 900000000000000000 *ℤ (y -ℤ top_of c)) (pos half *ℤ neg_ℤ end.1) t ≡ true
  pub south : at_most_root (pos 900000000000000000 *ℤ (y -ℤ bottom_of c)) (pos half *ℤ neg_ℤ end.1) t ≡ false

-- an edge is 3^(15-k) (2w - m) from the middle, and M/2 is 3^(15-k) m: the comparison is that of the floor
edge : (k t : ℕ) (p : ℤ) (w : ℕ) {x : ℤ} → k ≤ 15 → x ≡ sub_ℕ (w * side_of k) half → at_most_root (pos 900000000000000000 *ℤ x) (pos half *ℤ p) t ≡ at_most (3 ^ k) t p w
edge k t p w {x} g e =
    let u : ℕ = 3 ^ (15 - k) in
    let f : u * 3 ^ k ≡ half = omega (arith, whole g, mul_left_comm (3 ^ k) 2 u, mul_comm (3 ^ k) u) in
    let v : w * side_of k ≡ 2 * (u * w) = simp (mul_assoc, mul_comm, mul_left_comm) in
    ap (λ (y : ℤ). at_most_root (pos 900000000000000000 *ℤ y) (pos half *ℤ p) t) (e ∙ ap₂ sub_ℕ v (sym f))
    ∙ ap (λ (y : ℕ). at_most_root (pos 900000000000000000 *ℤ sub_ℕ (2 * (u * w)) (u * 3 ^ k)) (pos y *ℤ p) t) (sym f)
    ∙ sym (at-most-root (u * 3 ^ k) t (u * w) p)
    ∙ at-most-scaled u (3 ^ k) t p w (power_pos (15 - k))

-- the middle of a cap is M/2 right of its left edge, and M/2 below its top
module _ (a : Arrangement) (c : Cell) (x up down : ℕ) (end : CapPoint) (t : ℕ) (g : c.resolution ≤ 15) where
  cap-held :
      x ≡ face_left a c.face + half → up + face_depth c.face + half ≡ down + three_halves →
      IsFloor (3 ^ c.resolution) t end.0 c.column → IsFloor (3 ^ c.resolution) t (neg_ℤ end.1) c.row →
      HeldInCap a c (pos x) (sub_ℕ up down) end t
  cap-held e f j i =
      let k : ℕ = c.resolution in
      let s : ℕ = side_of k in
      let l : (c.column + 1) * s ≡ c.column * s + s = ap (λ (v : ℕ). v * s) (add-one c.column) ∙ suc-mul c.column s in
      let d : (c.row + 1) * s ≡ c.row * s + s = ap (λ (v : ℕ). v * s) (add-one c.row) ∙ suc-mul c.row s in
      let X : (n w : ℕ) (v : ℤ) → v ≡ pos n → n + half ≡ w * s + x → v -ℤ pos x ≡ sub_ℕ (w * s) half =
      λ n w v h q. ap (λ (z : ℤ). z -ℤ pos x) h ∙ minus-plain n (pos x) refl ∙ sub_same n x (w * s) half q in
      let Y : (n w : ℕ) (v : ℤ) → v ≡ sub_ℕ three_halves n → up + n + half ≡ w * s + (down + three_halves) → sub_ℕ up down -ℤ v ≡ sub_ℕ (w * s) half =
      λ n w v h q. ap (λ (z : ℤ). sub_ℕ up down -ℤ z) h ∙ sub-sub up down three_halves n ∙ sub_same (up + n) (down + three_halves) (w * s) half q in
      record {
        west = edge k t end.0 c.column g (X (left_in a c) c.column (left_of a c) (left_is a c) (omega arith)) ∙ j.below;
        east = edge k t end.0 (c.column + 1) g (X (left_in a c + s) (c.column + 1) (right_of a c) (right_is a c) (omega arith)) ∙ j.above;
        north = edge k t (neg_ℤ end.1) c.row g (Y (depth_in c) c.row (top_of c) (top-is c) (omega arith)) ∙ i.below;
        south = edge k t (neg_ℤ end.1) (c.row + 1) g (Y (depth_in c + s) (c.row + 1) (bottom_of c) (bottom-is c) (omega arith)) ∙ i.above;
      }

-- from the floors of the end, on N or S
by-floors :
    (a : Arrangement) {face k t : ℕ} {end : CapPoint} {c : Cell} (x up down : ℕ) → k ≤ 15 → AtFloors face k t end c →
    x ≡ face_left a face + half → up + face_depth face + half ≡ down + three_halves → HeldInCap a c (pos x) (sub_ℕ up down) end t
by-floors a {face} {k} {t} {end} {c} x up down g f e d =
    let m : 3 ^ k ≡ 3 ^ c.resolution = ap (λ (v : ℕ). 3 ^ v) (sym f.fine) in
    cap-held a c x up down end t (omega (arith, f.fine))
    (e ∙ ap (λ (v : ℕ). face_left a v + half) (sym f.face-is))
    (ap (λ (v : ℕ). up + face_depth v + half) f.face-is ∙ d)
    (subst (λ (v : ℕ). IsFloor v t end.0 c.column) m f.column)
    (subst (λ (v : ℕ). IsFloor v t (neg_ℤ end.1) c.row) m f.row)

module _ (a : Arrangement) (k : ℕ) (L z : ℤ) (g : k ≤ 15) (b : is_belt z ≡ false) where
  -- "N lies above face n": its middle is (nM + M/2, M)
  pub held-in-north :
      lt_z z (pos 0) ≡ false →
      HeldInCap a (fix_cell a k L z) (pos (a.north * face_side + half)) (pos face_side)
      (turned_north (turn_of (east_of L / quarter) a.north) (start_north (east_of L % quarter))) (height_of z)
  unfolding face_left face_depth
  held-in-north s = by-floors a (a.north * face_side + half) face_side 0 g (north-floors a k L z b s) refl refl

  -- "S lies below face s": its middle is (sM + M/2, -M)
  pub held-in-south :
      lt_z z (pos 0) ≡ true →
      HeldInCap a (fix_cell a k L z) (pos (a.south * face_side + half)) (neg_ℤ (pos face_side))
      (turned_south (turn_of (east_of L / quarter) a.south) (start_south (east_of L % quarter))) (height_of z)
  unfolding face_left face_depth
  held-in-south s = by-floors a (a.south * face_side + half) 0 face_side g (south-floors a k L z b s) refl refl
