-- A face cut into 3^k rows and columns: each of its points is in the square of one row and one column, and no square leaves the face. One law for
-- all faces, over whether the face owns its left, top and bottom edge, as O to R do, or none, as N and S. Depths grow downwards. Assumes nothing.
use Rattle.std.specs.Prelude.{◌≡◌, refl, Bool, true, false, ◌&&◌, ◌||◌, not, cond, ℕ, ◌+◌, ◌-◌, ◌*◌, ◌/◌, ◌^◌, ◌≤◌, ◌<◌, eqb}
use Rattle.std.proofs.Common.{sym, ap, ◌∙◌, subst, mul-pos, suc-mul, zero-mul, div-add-mod', mod-lt, div-lt_iff_lt-mul, add-one, arith, eqb-true, eq-eqb, ne_eqb}
use Rattle.std.proofs.Math.Bool.{and-eq-true_iff}
use Rattle.std.proofs.Math.Nat.{div-eq_of_lt-le}
use Rattle.std.proofs.lemmas.Bool.{eqb-false}
use Rattle.ternary.proofs.Laws.Powers.{power_pos}
use Rattle.plane.specs.Plane.{face_side, side_of}
use Rattle.plane.specs.Internal.Depth.{row_at}
use Rattle.plane.specs.Internal.SideLaws.{side-pos, whole, within}

-- x is past the edge e, or on it where the edge is owned
abbrev pub Beyond : Bool → ℕ → ℕ → Type 0
Beyond true e x = e ≤ x
Beyond false e x = e < x

-- the point n right of O and d deep is on the face, which owns its left, top and bottom edge, or none
pub record OnFace (owned : Bool) (left top n d : ℕ) : Type 0 where
  pub west : Beyond owned left n
  pub east : n < left + face_side
  pub north : Beyond owned top d
  pub south : Beyond owned d (top + face_side)

-- it is in the square of that row and column
pub record InSquare (owned : Bool) (left top k row column n d : ℕ) : Type 0 where
  pub west : Beyond (owned || not (eqb column 0)) (left + column * side_of k) n
  pub east : n < left + column * side_of k + side_of k
  pub north : Beyond (owned || not (eqb row 0)) (top + row * side_of k) d
  pub south : Beyond (owned && eqb (row + 1) (3 ^ k)) d (top + row * side_of k + side_of k)

-- ---- edges

pub at_least : (b : Bool) {e x : ℕ} → Beyond b e x → e ≤ x
at_least true h = h
at_least false h = omega arith

pub strictly : (b : Bool) {e x : ℕ} → e < x → Beyond b e x
strictly true h = omega arith
strictly false h = h

-- the left or top edge: that of a row or column follows the face's where it is the first
module _ (s start j n : ℕ) where
  pub first-in : (b : Bool) → 0 < s → Beyond (b || not (eqb j 0)) (start + j * s) n → Beyond b start n
  first-in true p h = omega arith
  first-in false p h = go (eqb j 0) refl h
    where
      go : (t : Bool) → eqb j 0 ≡ t → Beyond (not t) (start + j * s) n → start < n
      go true e l = omega arith
      go false e l =
          let z = eqb-false j 0 e in
          let q : 0 < j = omega arith in
          let r = mul-pos q p in
          omega arith

  pub first_out : (b : Bool) → Beyond b start n → start + j * s ≤ n → Beyond (b || not (eqb j 0)) (start + j * s) n
  first_out true h l = l
  first_out false h l = go (eqb j 0) refl
    where
      go : (t : Bool) → eqb j 0 ≡ t → Beyond (not t) (start + j * s) n
      go true e = let z : j * s ≡ 0 = ap (λ (x : ℕ). x * s) (eqb-true j 0 e) ∙ zero-mul s in omega arith
      go false e = l

-- ---- one dimension: a number is in one part of length s

module _ (s start n : ℕ) (p : 0 < s) (h : start ≤ n) where
  pub part_low : start + (n - start) / s * s ≤ n
  part_low = let e = div-add-mod' (n - start) s in omega arith

  pub part-high : n < start + (n - start) / s * s + s
  part-high = let e = div-add-mod' (n - start) s in let l = mod-lt (n - start) p in omega arith

pub part-is : (s start j n : ℕ) → start + j * s ≤ n → n < start + j * s + s → (n - start) / s ≡ j
part-is s start j n h l =
    let e : (j + 1) * s ≡ j * s + s = ap (λ (x : ℕ). x * s) (add-one j) ∙ suc-mul j s in
    div-eq_of_lt-le {k = j} s {m = n - start} (omega arith) (omega arith)

-- ---- rows: the last one has the bottom edge of a face that owns it

module _ {k : ℕ} (g : k ≤ 15) (top d : ℕ) where
  row_within : (i : ℕ) → i < 3 ^ k → top + i * side_of k ≤ d → d < top + i * side_of k + side_of k → row_at k (d - top) ≡ i
  row_within i m h l =
      let w = within g m in
      ap (λ (t : Bool). cond t (3 ^ k - 1) ((d - top) / side_of k)) (ne_eqb (d - top) face_side (λ e. omega arith))
      ∙ part-is (side_of k) top i d h l

  -- the last row reaches to the face's bottom edge
  last_row : (i : ℕ) → i + 1 ≡ 3 ^ k → i * side_of k + side_of k ≡ face_side
  last_row i e = sym (suc-mul i (side_of k)) ∙ ap (λ (x : ℕ). x * side_of k) (sym (add-one i) ∙ e) ∙ whole g

  pub last-in : (b : Bool) (i : ℕ) → i < 3 ^ k → top + i * side_of k ≤ d → Beyond (b && eqb (i + 1) (3 ^ k)) d (top + i * side_of k + side_of k) → Beyond b d (top + face_side) ×
      (row_at k (d - top) ≡ i)
  last-in b i m h l = go (b && eqb (i + 1) (3 ^ k)) refl l
    where
      strict : d < top + i * side_of k + side_of k → Beyond b d (top + face_side) × (row_at k (d - top) ≡ i)
      strict q = let w = within g m in (strictly b (omega arith), row_within i m h q)

      edge : (t : Bool) → eqb (d - top) face_side ≡ t → b ≡ true → i + 1 ≡ 3 ^ k → d ≤ top + i * side_of k + side_of k → Beyond b d (top + face_side) × (row_at k (d - top) ≡ i)
      edge true e f q r =
          let z = last_row i q in
          (subst (λ (x : Bool). Beyond x d (top + face_side)) (sym f) (omega arith), ap (λ (x : Bool). cond x (3 ^ k - 1) ((d - top) / side_of k)) e ∙ omega arith)
      edge false e f q r =
          let z = last_row i q in
          let u = eqb-false (d - top) face_side e in
          strict (omega arith)

      go : (t : Bool) → (b && eqb (i + 1) (3 ^ k)) ≡ t → Beyond t d (top + i * side_of k + side_of k) → Beyond b d (top + face_side) × (row_at k (d - top) ≡ i)
      go true e q =
          let f = (and-eq-true_iff b (eqb (i + 1) (3 ^ k))).0 e in
          edge (eqb (d - top) face_side) refl f.0 (eqb-true (i + 1) (3 ^ k) f.1) q
      go false e q = strict q

  pub last_out :
      (b : Bool) → top ≤ d → Beyond b d (top + face_side) →
      (row_at k (d - top) < 3 ^ k) × (top + row_at k (d - top) * side_of k ≤ d) × Beyond (b && eqb (row_at k (d - top) + 1) (3 ^ k)) d (top + row_at k (d - top) * side_of k + side_of k)
  last_out b h l = go (eqb (d - top) face_side) refl
    where
      Stands : ℕ → Type 0
      Stands i = (i < 3 ^ k) × (top + i * side_of k ≤ d) × Beyond (b && eqb (i + 1) (3 ^ k)) d (top + i * side_of k + side_of k)

      inner : d < top + face_side → Stands ((d - top) / side_of k)
      inner q =
          let p = side-pos k in
          let w = whole g in
          let l = (div-lt_iff_lt-mul {k = side_of k} {x = d - top} {y = 3 ^ k} p).1 (omega arith) in
          (l, part_low (side_of k) top d p h, strictly (b && eqb ((d - top) / side_of k + 1) (3 ^ k)) (part-high (side_of k) top d p h))

      outer : (x : Bool) → b ≡ x → Beyond x d (top + face_side) → d - top ≡ face_side → Stands (3 ^ k - 1)
      outer true f q e =
          let p = power_pos k in
          let r : 3 ^ k - 1 + 1 ≡ 3 ^ k = omega arith in
          let z = last_row (3 ^ k - 1) r in
          let t : (b && eqb (3 ^ k - 1 + 1) (3 ^ k)) ≡ true = (and-eq-true_iff b (eqb (3 ^ k - 1 + 1) (3 ^ k))).1 (f, eq-eqb (3 ^ k - 1 + 1) (3 ^ k) r) in
          (omega arith, omega arith, subst (λ (x : Bool). Beyond x d (top + (3 ^ k - 1) * side_of k + side_of k)) (sym t) (omega arith))
      outer false f q e = absurd (omega arith)

      go : (t : Bool) → eqb (d - top) face_side ≡ t → Stands (cond t (3 ^ k - 1) ((d - top) / side_of k))
      go true e = outer b refl l (eqb-true (d - top) face_side e)
      go false e =
          let u = eqb-false (d - top) face_side e in
          let m = at_least b l in
          inner (omega arith)

-- ---- the face and its squares

module _ {owned : Bool} {left top k n d : ℕ} (g : k ≤ 15) where
  -- what is in a square is on the face, and the row and column are those of its distances
  pub square-face : {i j : ℕ} → i < 3 ^ k → j < 3 ^ k → InSquare owned left top k i j n d → OnFace owned left top n d × ((n - left) / side_of k ≡ j) × (row_at k (d - top) ≡ i)
  square-face {i} {j} r c q =
      let w = at_least (owned || not (eqb j 0)) q.west in
      let v = at_least (owned || not (eqb i 0)) q.north in
      let e = q.east in
      let l = last-in g top d owned i r v q.south in
      let m = within g c in
      let p = side-pos k in (
        record {
          west = first-in (side_of k) left j n owned p q.west;
          east = omega arith;
          north = first-in (side_of k) top i d owned p q.north;
          south = l.0;
        },
        part-is (side_of k) left j n w e,
        l.1,
      )

  -- and what is on the face is in the square of these
  pub face-square : OnFace owned left top n d → (row_at k (d - top) < 3 ^ k) × ((n - left) / side_of k < 3 ^ k) × InSquare owned left top k (row_at k (d - top)) ((n - left) / side_of k) n d
  face-square o =
      let p = side-pos k in
      let w = at_least owned o.west in
      let e = o.east in
      let l = last_out g top d owned (at_least owned o.north) o.south in
      let z = whole g in (
        l.0,
        (div-lt_iff_lt-mul {k = side_of k} {x = n - left} {y = 3 ^ k} p).1 (omega arith),
        record {
          west = first_out (side_of k) left ((n - left) / side_of k) n owned o.west (part_low (side_of k) left n p w);
          east = part-high (side_of k) left n p w;
          north = first_out (side_of k) top (row_at k (d - top)) d owned o.north l.1;
          south = l.2;
        },
      )
