-- The cells across the corners where four cells meet are those that meet a cell at a corner only: what a neighbour has on either side is one of these or
-- a neighbour, and no two neighbours have the cell ahead of them in common. Assumes nothing.
use Rattle.std.specs.Prelude.{◌≡◌, refl, ◌⊎◌, true, false, ℕ, ◌+◌, ◌-◌, ◌%◌, ◌^◌, ◌≤◌, ◌<◌}
use Rattle.std.proofs.Math.Path.{sym, ap, ap₂}
use Rattle.std.proofs.Common.{subst, ◌∙◌, eq-eqb}
use Rattle.std.proofs.Math.Logic.{inl, inr, ⊎_elim}
use Rattle.std.proofs.Math.Bool.{◌&&◌}
use native.Mathlib.Omega.{arith}
use Rattle.logic.specs.Laws.Bools.{clash}
use Rattle.logic.specs.Laws.Order.{lt-or}
use Rattle.ternary.proofs.Laws.Powers.{power_le}
use Rattle.cell.specs.declared.Cell.{Cell}
use Rattle.cell.specs.declared.Arrangement.{Arrangement}
use Rattle.cell.specs.Cell.{IsCell, IsArrangement}
use Rattle.cell.specs.Neighbour.{rows, leaves, neighbour_of, back_of, Neighbour}
use Rattle.cell.proofs.Laws.Neighbour.{neighbour-is-cell, different, not_itself}
use Rattle.cell.proofs.Laws.Towards.{towards, towards-step, towards-itself}
use Rattle.cell.proofs.Laws.Turns.{four-cases}
use Rattle.cell.specs.Line.{IsHeading, opposite, onward}
use Rattle.cell.proofs.Laws.Line.{onward-heading, entered}
use Rattle.cell.proofs.Laws.Faces.{IsWay, way}
use Rattle.cell.proofs.Laws.Crossing.{seen, left-small, behind-small}
use Rattle.corner.specs.Corner.{MeetsAtCorner}
use Rattle.corner.specs.List.{clockwise, face_corner, across_corner}
use Rattle.corner.specs.Internal.Square.{counter, to_right, to_left, heading, Opens, Kind, kind, towards-second}

-- across a corner that four cells meet at
pub record AtCorner (a : Arrangement) (c x : Cell) : Type 0 where
  pub direction : ℕ
  pub small : direction < 4
  pub wide : face_corner c direction ≡ false
  pub there : across_corner a c direction ≡ x

four-ways : {P : Type 0} (e g : ℕ) → e < 4 → g < 4 → (e ≡ g → P) → (e ≡ clockwise g → P) → (e ≡ opposite g → P) → (e ≡ counter g → P) → P
four-ways {P} e g l k p q r s =
    four-cases (λ (t : ℕ). (e + 4 - g) % 4 ≡ t → P) (λ h. p (omega arith)) (λ h. q (omega arith)) (λ h. r (omega arith)) (λ h. s (omega arith)) ((e + 4 - g) % 4) (omega arith) refl

module _ {a : Arrangement} {c : Cell} (ok : IsArrangement a) (v : IsCell c) where
  way_of : (d : ℕ) → d < 4 → IsWay (way c.face d)
  way_of d l = record { faced = v.faced; directed = l }

  heading-of : (d : ℕ) → d < 4 → IsHeading (heading c d)
  heading-of d l = record { cell = v; direction = l }

  kind-of : (d : ℕ) → d < 4 → Kind a c d
  kind-of d l =
      subst (λ (x : Cell). Kind a x d) (sym (seen v d l))
      (kind ok c.resolution v.fine (way_of d l) _ _ (left-small v d) (behind-small v d))

  -- two steps ahead, above resolution 0
  second : (d : ℕ) → d < 4 → 1 < rows c → towards a c (onward a (onward a (heading c d))).cell ≡ d
  second d l h =
      subst (λ (x : Cell). towards a x (onward a (onward a (heading x d))).cell ≡ d) (sym (seen v d l))
      (towards-second ok c.resolution v.fine (way_of d l) _ _ (left-small v d) (behind-small v d) h)

  opens : (d : ℕ) → d < 4 → face_corner c d ≡ false → Opens a c d (across_corner a c d)
  opens d l e = ⊎_elim (λ p. p.1) (λ p. clash (sym p.0 ∙ e)) (kind-of d l)

  -- ---- about the neighbour in a direction lie the cell, the one ahead, and one on either side
  beside :
      {x : Cell} (d e : ℕ) → d < 4 → e < 4 → neighbour_of a (neighbour_of a c d) e ≡ x → (x ≡ c → ⊥) → (Neighbour a c x → ⊥) →
      AtCorner a c x ⊎ ((onward a (onward a (heading c d))).cell ≡ x)
  unfolding onward
  beside {x} d e l k p n m =
      let h = onward a (heading c d) in
      let g = (onward-heading ok (heading-of d l)).direction in
      four-ways e h.direction k g
      (λ q. inr (ap (neighbour_of a h.cell) (sym q) ∙ p))
      (λ q.
      let r : to_right a h ≡ x = ap (neighbour_of a h.cell) (sym q) ∙ p in
      ⊎_elim (λ o. inl (record { direction = d; small = l; wide = o.0; there = sym o.1.right ∙ r }))
      (λ s. absurd (m (clockwise d, omega arith, sym s.1.right ∙ r)))
      (kind-of d l))
      (λ q. absurd (n (sym p ∙ ap (neighbour_of a h.cell) q ∙ (entered ok (heading-of d l)).1)))
      (λ q.
      let b : clockwise (counter d) ≡ d = omega arith in
      let r : to_left a (onward a (heading c (clockwise (counter d)))) ≡ x =
      ap (λ (y : ℕ). to_left a (onward a (heading c y))) b ∙ ap (neighbour_of a h.cell) (sym q) ∙ p in
      ⊎_elim (λ o. inl (record { direction = counter d; small = omega arith; wide = o.0; there = sym o.1.left ∙ r }))
      (λ s. absurd (m (counter d, omega arith, sym s.1.left ∙ r)))
      (kind-of (counter d) (omega arith)))

  -- ---- above resolution 0 a face has three rows at least, and at resolution 0 each corner is one of the face
  pub three-rows : 0 < c.resolution → 1 < rows c
  three-rows h = let p : 3 ^ 1 ≤ 3 ^ c.resolution = power_le {i = 1} {j = c.resolution} h in omega arith

  whole-face : c.resolution ≡ 0 → (d : ℕ) → d < 4 → leaves c d ≡ true
  unfolding leaves
  whole-face z d l =
      let e : rows c ≡ 1 = ap (λ (x : ℕ). 3 ^ x) z in
      four-cases (λ (x : ℕ). leaves c x ≡ true)
      (eq-eqb c.row 0 (omega (arith, v.rowed)))
      (eq-eqb (c.column + 1) (rows c) (omega (arith, v.columned)))
      (eq-eqb (c.row + 1) (rows c) (omega (arith, v.rowed)))
      (eq-eqb c.column 0 (omega (arith, v.columned)))
      d
      l

  pub face-corners : c.resolution ≡ 0 → (d : ℕ) → d < 4 → face_corner c d ≡ true
  unfolding face_corner
  face-corners z d l = ap₂ ◌&&◌ (whole-face z d l) (whole-face z (clockwise d) (omega arith))

  fine-open : (d : ℕ) → d < 4 → face_corner c d ≡ false → 0 < c.resolution
  fine-open d l e = ⊎_elim (λ h. h) (λ h. clash (sym (face-corners (omega arith) d l) ∙ e)) (lt-or 0 c.resolution)

  -- ---- "those that are neighbours of at least two of the cell's neighbours, and neither it nor a neighbour of it"
  pub meets-across : {x : Cell} → MeetsAtCorner a c x → AtCorner a c x
  meets-across {x} y =
      let p = y.near-one in
      let q = y.near-other in
      let r = y.one-near in
      let s = y.other-near in
      ⊎_elim (λ z. z)
      (λ f.
      ⊎_elim (λ z. z)
      (λ g.
      let t = three-rows y.above in
      let e : p.0 ≡ q.0 = sym (second p.0 p.1 t) ∙ ap (towards a c) (f ∙ sym g) ∙ second q.0 q.1 t in
      absurd (y.two (sym p.2 ∙ ap (neighbour_of a c) e ∙ q.2)))
      (beside q.0 s.0 q.1 s.1 (ap (λ (z : Cell). neighbour_of a z s.0) q.2 ∙ s.2) y.not-it y.not-near))
      (beside p.0 r.0 p.1 r.1 (ap (λ (z : Cell). neighbour_of a z r.0) p.2 ∙ r.2) y.not-it y.not-near)

  -- each that is listed is one
  module _ (d : ℕ) (l : d < 4) (e : face_corner c d ≡ false) where
    o : Opens a c d (across_corner a c d)
    o = opens d l e

    beside-one : neighbour_of a (neighbour_of a c d) (clockwise (opposite (back_of a c d))) ≡ across_corner a c d
    unfolding onward
    beside-one = o.right

    beside-other : neighbour_of a (neighbour_of a c (clockwise d)) (counter (opposite (back_of a c (clockwise d)))) ≡ across_corner a c d
    unfolding onward
    beside-other = o.left

    -- a neighbour in some direction lies in that direction
    not-a-neighbour : (f : ℕ) → f < 4 → neighbour_of a c f ≡ across_corner a c d → ⊥
    not-a-neighbour f k p =
        let t : towards a c (across_corner a c d) ≡ f = ap (towards a c) (sym p) ∙ towards-step f ok v k in
        ⊎_elim
        (λ s. let q : d ≡ f = sym s ∙ t in not_itself _ ok (neighbour-is-cell d ok v l) (omega arith) (beside-one ∙ sym p ∙ ap (neighbour_of a c) (sym q)))
        (λ s.
        let q : clockwise d ≡ f = sym s ∙ t in
        not_itself _ ok (neighbour-is-cell (clockwise d) ok v (omega arith)) (omega arith) (beside-other ∙ sym p ∙ ap (neighbour_of a c) (sym q)))
        o.seen

    not-the-cell : across_corner a c d ≡ c → ⊥
    not-the-cell p =
        let t : towards a c (across_corner a c d) ≡ 4 = ap (towards a c) p ∙ towards-itself a c in
        ⊎_elim (λ s. omega arith) (λ s. omega arith) o.seen

    pub across-meets : MeetsAtCorner a c (across_corner a c d)
    across-meets =
        record {
          above = fine-open d l e;
          one = neighbour_of a c d;
          other = neighbour_of a c (clockwise d);
          two = λ p. let q = different d (clockwise d) ok v l (omega arith) p in omega arith;
          near-one = (d, l, refl);
          near-other = (clockwise d, omega arith, refl);
          one-near = (clockwise (opposite (back_of a c d)), omega arith, beside-one);
          other-near = (counter (opposite (back_of a c (clockwise d))), omega arith, beside-other);
          not-it = not-the-cell;
          not-near = λ p. not-a-neighbour p.0 p.1 p.2;
        }

    pub across-cell : IsCell (across_corner a c d)
    across-cell = rw beside-one at (neighbour-is-cell (clockwise (opposite (back_of a c d))) ok (neighbour-is-cell d ok v l) (omega arith))

    -- two corners one after the other: the cell across the first is to the left of their neighbour, the other to its right
    next-apart : face_corner c (clockwise d) ≡ false → across_corner a c d ≡ across_corner a c (clockwise d) → ⊥
    next-apart f p =
        let h = onward-heading ok (heading-of (clockwise d) (omega arith)) in
        let q = different _ _ ok h.cell (omega arith) (omega arith) (o.left ∙ p ∙ sym (opens (clockwise d) (omega arith) f).right) in
        omega (arith, h.direction)

  -- no two corners share the cell across
  pub across-apart : (d e : ℕ) → d < 4 → e < 4 → face_corner c d ≡ false → face_corner c e ≡ false → across_corner a c d ≡ across_corner a c e → d ≡ e
  across-apart d e l k f g p =
      let t = ap (towards a c) p in
      let s = (opens d l f).seen in
      let r = (opens e k g).seen in
      ⊎_elim
      (λ x. ⊎_elim (λ y. sym x ∙ t ∙ y) (λ y. let z : d ≡ clockwise e = sym x ∙ t ∙ y in absurd (next-apart e k g (rw z at f) (sym p ∙ ap (across_corner a c) z))) r)
      (λ x. ⊎_elim (λ y. let z : e ≡ clockwise d = sym y ∙ sym t ∙ x in absurd (next-apart d l f (rw z at g) (p ∙ ap (across_corner a c) z)))
      (λ y. let z : clockwise d ≡ clockwise e = sym x ∙ t ∙ y in omega arith) r)
      s
