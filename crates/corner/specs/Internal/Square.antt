-- Round a corner of a cell, its face crossed in some direction: where four cells meet, ahead and then right is right and then ahead; where three meet, in a corner
-- of a face, the cell to the right of the one ahead is the one to the right. Assumes nothing.
use Rattle.std.specs.Prelude.{◌≡◌, ◌⊎◌, Bool, true, false, cond}
use Rattle.std.proofs.Math.Path.{refl, ap}
use Rattle.std.proofs.Common.{sym, ap₂, subst, ◌∙◌, arith}
use Rattle.std.proofs.Math.Logic.{inl, inr, ⊎_elim}
use Rattle.std.proofs.Math.Bool.{◌&&◌}
use Prim.Native.Nat.{ℕ, suc, ◌+◌, ◌-◌, ◌%◌, ◌^◌, ◌≤◌, ◌<◌}
use borrow.Author.Tests.{eq-eqb, ne_eqb, lt-ltb, le-ltb}
use Rattle.logic.specs.Laws.Order.{lt-or}
use Rattle.cell.specs.declared.Cell.{Cell}
use Rattle.cell.specs.declared.Arrangement.{Arrangement}
use Rattle.cell.specs.Cell.{IsArrangement}
use Rattle.cell.specs.Neighbour.{leaves, neighbour_of}
use Rattle.cell.proofs.Laws.Towards.{towards}
use Rattle.cell.proofs.Laws.Turns.{four-cases}
use Rattle.cell.specs.Line.{Heading, IsHeading, opposite, onward}
use Rattle.cell.proofs.Laws.Line.{entered}
use Rattle.cell.proofs.Laws.Faces.{Way, IsWay, way, next_face, face_after, rightward, next_way, others, faces-meet, facing-next}
use Rattle.cell.proofs.Laws.Crossing.{last, in_face, in-face-face, in-face-cell, in-face-right, goes_on, at_edge}
use Rattle.cell.proofs.Laws.Course.{on, on-ahead, on-across}
use Rattle.corner.specs.List.{clockwise, face_corner, across_corner}

abbrev pub counter : ℕ → ℕ
counter d = (d + 3) % 4

abbrev pub to_right : Arrangement → Heading → Cell
to_right a h = neighbour_of a h.cell (clockwise h.direction)

abbrev pub to_left : Arrangement → Heading → Cell
to_left a h = neighbour_of a h.cell (counter h.direction)

abbrev pub heading : Cell → ℕ → Heading
heading c d = record { cell = c; direction = d }

-- four cells meet at the corner between a direction and the next one: the fourth is z
pub record Opens (a : Arrangement) (c : Cell) (d : ℕ) (z : Cell) : Type 0 where
  pub right : to_right a (onward a (heading c d)) ≡ z
  pub left : to_left a (onward a (heading c (clockwise d))) ≡ z
  pub route : across_corner a c d ≡ z
  pub seen : (towards a c z ≡ d) ⊎ (towards a c z ≡ clockwise d)

-- three cells meet there
pub record Shuts (a : Arrangement) (c : Cell) (d : ℕ) : Type 0 where
  pub right : to_right a (onward a (heading c d)) ≡ neighbour_of a c (clockwise d)
  pub left : to_left a (onward a (heading c (clockwise d))) ≡ neighbour_of a c d

opened : {a : Arrangement} {c : Cell} {d : ℕ} {z : Cell} → Opens a c d z → Opens a c d (across_corner a c d)
opened {a} {c} {d} o = subst (Opens a c d) (sym o.route) o

abbrev pub Kind : Arrangement → Cell → ℕ → Type 0
Kind a c d = ((face_corner c d ≡ false) × Opens a c d (across_corner a c d)) ⊎ ((face_corner c d ≡ true) × Shuts a c d)

-- first ahead, or first to the right
pub route-ahead : (a : Arrangement) (c : Cell) (d : ℕ) → leaves c d ≡ false → across_corner a c d ≡ neighbour_of a (neighbour_of a c d) (clockwise d)
unfolding across_corner
route-ahead a c d h = ap (λ (t : Bool). cond t (neighbour_of a (neighbour_of a c (clockwise d)) d) (neighbour_of a (neighbour_of a c d) (clockwise d))) h

pub route-right : (a : Arrangement) (c : Cell) (d : ℕ) → leaves c d ≡ true → across_corner a c d ≡ neighbour_of a (neighbour_of a c (clockwise d)) d
unfolding across_corner
route-right a c d h = ap (λ (t : Bool). cond t (neighbour_of a (neighbour_of a c (clockwise d)) d) (neighbour_of a (neighbour_of a c d) (clockwise d))) h

rightward-way : {w : Way} → IsWay w → IsWay (rightward w)
rightward-way v = record { faced = v.faced; directed = omega arith }

module _ {a : Arrangement} (ok : IsArrangement a) (k : ℕ) (fine : k ≤ 15) where
  -- the cell of the next heading
  onward-cell : (h : Heading) {g : Heading} → onward a h ≡ g → neighbour_of a h.cell h.direction ≡ g.cell
  unfolding onward
  onward-cell h e = ap (λ (x : Heading). x.cell) e

  right-inside : {w : Way} → IsWay w → (l b : ℕ) → suc l < 3 ^ k → b < 3 ^ k → to_right a (on k w l b) ≡ in_face k w (suc l) b
  right-inside {w} v l b hl hb =
      ap (λ (c : Cell). neighbour_of a c (clockwise w.direction)) (in-face-right k w v l b (omega arith) hb)
      ∙ onward-cell _ (on-ahead ok k (last k - b) (omega arith) (rightward-way v) l hl)
      ∙ sym (in-face-right k w v (suc l) b hl hb)

  right-edge : {w : Way} → IsWay w → (l b : ℕ) → suc l ≡ 3 ^ k → b < 3 ^ k → to_right a (on k w l b) ≡ in_face k (next_face a (rightward w)) (last k - b) 0
  right-edge {w} v l b hl hb =
      ap (λ (c : Cell). neighbour_of a c (clockwise w.direction)) (in-face-right k w v l b (omega arith) hb)
      ∙ onward-cell _ (on-across ok k (last k - b) (omega arith) (rightward-way v) l hl)

  -- from the cell to the right, the left one is the cell
  left_back : {h g : Heading} {e : ℕ} → IsHeading h → onward a h ≡ g → e < 4 → g.direction ≡ clockwise e → neighbour_of a g.cell (counter e) ≡ h.cell
  left_back {h} {g} {e} v p l q =
      let s : opposite g.direction ≡ counter e = ap opposite q ∙ omega arith in
      let t : neighbour_of a g.cell (opposite g.direction) ≡ h.cell =
      ap₂ (neighbour_of a) (sym (onward-cell h p)) (ap (λ (x : Heading). opposite x.direction) (sym p)) ∙ (entered ok v).1 in
      rw s at t

  on-heading : {w : Way} → IsWay w → (l b : ℕ) → l < 3 ^ k → b < 3 ^ k → IsHeading (on k w l b)
  on-heading {w} v l b hl hb = record { cell = in-face-cell k w v l b hl hb fine; direction = v.directed }

  left-inside : {w : Way} → IsWay w → (l b : ℕ) → suc l < 3 ^ k → b < 3 ^ k → to_left a (on k w (suc l) b) ≡ in_face k w l b
  left-inside {w} v l b hl hb =
      let r = on-heading (rightward-way v) (last k - b) l (omega arith) (omega arith) in
      ap (λ (c : Cell). neighbour_of a c (counter w.direction)) (in-face-right k w v (suc l) b hl hb)
      ∙ left_back r (on-ahead ok k (last k - b) (omega arith) (rightward-way v) l hl) v.directed refl
      ∙ sym (in-face-right k w v l b (omega arith) hb)

  -- ---- the directions in which cells lie
  -- in the next face
  pub towards-next : {w : Way} → IsWay w → (c z : Cell) → c.face ≡ w.face → z.face ≡ (next_face a w).face → towards a c z ≡ w.direction
  unfolding towards face_after
  towards-next {w} v c z p q = rw (q, p, ne_eqb (next_face a w).face w.face (others ok v 0 (omega arith))) (facing-next ok v)

  -- in the same face: further ahead, and perhaps further to the right
  pub towards-ahead : {w : Way} → IsWay w → (l b b' : ℕ) → l < 3 ^ k → b < b' → b' < 3 ^ k → towards a (in_face k w l b) (in_face k w l b') ≡ w.direction
  unfolding towards in_face
  towards-ahead {w} v l b b' hl hb hm =
      let f = w.face in
      let t = last k in
      let z = eq-eqb f f refl in
      four-cases (λ (e : ℕ). towards a (in_face k (way f e) l b) (in_face k (way f e) l b') ≡ e)
      (rw (z, lt-ltb (t - b') (t - b) (omega arith)))
      (rw (z, le-ltb l l (omega arith), lt-ltb b b' hb))
      (rw (z, le-ltb b' b (omega arith), le-ltb (t - l) (t - l) (omega arith), lt-ltb b b' hb))
      (rw (z, le-ltb (t - l) (t - l) (omega arith), le-ltb (t - b) (t - b') (omega arith), lt-ltb (t - b') (t - b) (omega arith)))
      w.direction
      v.directed

  towards-both :
      {w : Way} → IsWay w → (l b : ℕ) → suc l < 3 ^ k → suc b < 3 ^ k →
      (towards a (in_face k w l b) (in_face k w (suc l) (suc b)) ≡ w.direction) ⊎ (towards a (in_face k w l b) (in_face k w (suc l) (suc b)) ≡ clockwise w.direction)
  unfolding towards in_face
  towards-both {w} v l b hl hb =
      let f = w.face in
      let t = last k in
      let z = eq-eqb f f refl in
      four-cases
      (λ (e : ℕ). (towards a (in_face k (way f e) l b) (in_face k (way f e) (suc l) (suc b)) ≡ e) ⊎ (towards a (in_face k (way f e) l b) (in_face k (way f e) (suc l) (suc b)) ≡ clockwise e))
      (inl (rw (z, lt-ltb (t - suc b) (t - b) (omega arith))))
      (inl (rw (z, le-ltb (suc l) l (omega arith), lt-ltb b (suc b) (omega arith))))
      (inl (rw (z, le-ltb (suc b) b (omega arith), le-ltb (t - l) (t - suc l) (omega arith), lt-ltb b (suc b) (omega arith))))
      (inr (rw (z, lt-ltb (t - suc l) (t - l) (omega arith))))
      w.direction
      v.directed

  -- ---- the four ways in which a corner lies
  module _ {w : Way} (v : IsWay w) (l b : ℕ) (hl : l < 3 ^ k) (hb : b < 3 ^ k) where
    turn : heading (in_face k w l b) (clockwise w.direction) ≡ on k (rightward w) (last k - b) l
    turn = λ i. record { cell = in-face-right k w v l b hl hb i; direction = clockwise w.direction }

    -- the heading to the right, and the cell on its left
    left-of : {g : Heading} {z : Cell} → onward a (on k (rightward w) (last k - b) l) ≡ g → to_left a g ≡ z → to_left a (onward a (heading (in_face k w l b) (clockwise w.direction))) ≡ z
    left-of p q = ap (λ (h : Heading). to_left a (onward a h)) turn ∙ ap (to_left a) p ∙ q

    ahead-first : {z : Cell} → suc b < 3 ^ k → to_right a (on k w l (suc b)) ≡ z → across_corner a (in_face k w l b) w.direction ≡ z
    ahead-first g p =
        route-ahead a (in_face k w l b) w.direction (goes_on k w v l b hl hb (omega arith))
        ∙ ap (λ (x : Cell). neighbour_of a x (clockwise w.direction)) (onward-cell _ (on-ahead ok k l hl v b g))
        ∙ p

    -- inside the face
    pub opens-inside : suc l < 3 ^ k → suc b < 3 ^ k → Opens a (in_face k w l b) w.direction (in_face k w (suc l) (suc b))
    opens-inside h g =
        let e : last k - b ≡ suc (last k - suc b) = omega arith in
        let r = rightward-way v in
        record {
          right = ap (to_right a) (on-ahead ok k l hl v b g) ∙ right-inside v l (suc b) h g;
          left =
              left-of (on-ahead ok k (last k - b) (omega arith) r l h ∙ ap (λ (x : ℕ). on k (rightward w) x (suc l)) e)
              (left-inside r (last k - suc b) (suc l) (omega arith) h ∙ sym (in-face-right k w v (suc l) (suc b) h g));
          route = ahead-first g (right-inside v l (suc b) h g);
          seen = towards-both v l b h g;
        }

    -- ahead lies the next face
    pub opens-ahead : suc l < 3 ^ k → suc b ≡ 3 ^ k → Opens a (in_face k w l b) w.direction (in_face k (next_face a w) (suc l) 0)
    opens-ahead h g =
        let n = next_way ok v in
        let d : counter (clockwise w.direction) ≡ w.direction = omega (arith, v.directed) in
        record {
          right = ap (to_right a) (on-across ok k l hl v b g) ∙ right-inside n l 0 h (omega arith);
          left =
              left-of (on-ahead ok k (last k - b) (omega arith) (rightward-way v) l h)
              (ap (λ (c : Cell). neighbour_of a c (counter (clockwise w.direction))) (sym (in-face-right k w v (suc l) b h hb))
              ∙ ap (neighbour_of a (in_face k w (suc l) b)) d
              ∙ onward-cell _ (on-across ok k (suc l) h v b g));
          route =
              route-right a (in_face k w l b) w.direction (at_edge k w v l b hl hb (omega arith))
              ∙ ap (λ (x : Cell). neighbour_of a x w.direction) (right-inside v l b h hb)
              ∙ onward-cell _ (on-across ok k (suc l) h v b g);
          seen = inl (towards-next v _ _ (in-face-face k w l b) (in-face-face k (next_face a w) (suc l) 0));
        }

    -- to the right lies the next face
    pub opens-right : suc l ≡ 3 ^ k → suc b < 3 ^ k → Opens a (in_face k w l b) w.direction (in_face k (next_face a (rightward w)) (last k - suc b) 0)
    opens-right h g =
        let e : last k - b ≡ suc (last k - suc b) = omega arith in
        let r = rightward-way v in
        let n = next_way ok r in
        record {
          right = ap (to_right a) (on-ahead ok k l hl v b g) ∙ right-edge v l (suc b) h g;
          left =
              left-of (on-across ok k (last k - b) (omega arith) r l h ∙ ap (λ (x : ℕ). on k (next_face a (rightward w)) x 0) e)
              (left-inside n (last k - suc b) 0 (omega arith) (omega arith));
          route = ahead-first g (right-edge v l (suc b) h g);
          seen = inr (towards-next r _ _ (in-face-face k w l b) (in-face-face k (next_face a (rightward w)) (last k - suc b) 0));
        }

    -- a corner of the face
    pub shuts : suc l ≡ 3 ^ k → suc b ≡ 3 ^ k → Shuts a (in_face k w l b) w.direction
    shuts h g =
        let e : last k - b ≡ 0 = omega arith in
        let r = rightward-way v in
        let n = next_way ok v in
        let q = next_way ok r in
        let x : onward a (heading (in_face k w l b) (clockwise w.direction)) ≡ on k (next_face a (rightward w)) 0 0 =
        ap (onward a) turn ∙ on-across ok k (last k - b) (omega arith) r l h ∙ ap (λ (y : ℕ). on k (next_face a (rightward w)) y 0) e in
        let y = in-face-right k (next_face a (rightward w)) q 0 0 (omega arith) (omega arith) in
        let z = on-across ok k (last k - 0) (omega arith) (rightward-way n) l h ∙ ap (λ (u : Way). on k u (last k - 0) 0) (faces-meet ok v) in
        record {
          right =
              ap (to_right a) (on-across ok k l hl v b g) ∙ right-edge n l 0 h (omega arith) ∙ ap (λ (u : Way). in_face k u (last k - 0) 0) (faces-meet ok v)
              ∙ sym y ∙ sym (onward-cell _ x);
          left =
              ap (to_left a) x ∙ ap (λ (c : Cell). neighbour_of a c (counter (next_face a (rightward w)).direction)) y
              ∙ left_back (on-heading (rightward-way n) (last k - 0) l (omega arith) hl) z q.directed refl
              ∙ sym (in-face-right k (next_face a w) n l 0 hl (omega arith)) ∙ sym (onward-cell _ (on-across ok k l hl v b g));
        }

    -- each corner is of one of the two kinds
    leaves-right : leaves (in_face k w l b) (clockwise w.direction) ≡ leaves (in_face k (rightward w) (last k - b) l) (clockwise w.direction)
    leaves-right = ap (λ (x : Cell). leaves x (clockwise w.direction)) (in-face-right k w v l b hl hb)

    pub kind : Kind a (in_face k w l b) w.direction
    unfolding face_corner
    kind =
        let r = rightward-way v in
        ⊎_elim
        (λ g.
        let e = goes_on k w v l b hl hb (omega arith) in
        inl (
          ap (λ (t : Bool). t && leaves (in_face k w l b) (clockwise w.direction)) e,
          ⊎_elim (λ h. opened (opens-inside h g)) (λ h. opened (opens-right (omega arith) g)) (lt-or (suc l) (3 ^ k)),
        ))
        (λ g.
        let e = at_edge k w v l b hl hb (omega arith) in
        ⊎_elim (λ h. inl (ap₂ ◌&&◌ e (leaves-right ∙ goes_on k (rightward w) r (last k - b) l (omega arith) hl (omega arith)), opened (opens-ahead h (omega arith))))
        (λ h. inr (ap₂ ◌&&◌ e (leaves-right ∙ at_edge k (rightward w) r (last k - b) l (omega arith) hl (omega arith)), shuts (omega arith) (omega arith)))
        (lt-or (suc l) (3 ^ k)))
        (lt-or (suc b) (3 ^ k))

    -- two steps ahead
    pub towards-second : 1 < 3 ^ k → towards a (in_face k w l b) (onward a (onward a (on k w l b))).cell ≡ w.direction
    towards-second h =
        ⊎_elim
        (λ g.
        ap (towards a (in_face k w l b)) (ap (λ (x : Heading). (onward a x).cell) (on-ahead ok k l hl v b g))
        ∙ ⊎_elim
        (λ f. ap (λ (x : Heading). towards a (in_face k w l b) x.cell) (on-ahead ok k l hl v (suc b) f) ∙ towards-ahead v l b (suc (suc b)) hl (omega arith) f)
        (λ f. ap (λ (x : Heading). towards a (in_face k w l b) x.cell) (on-across ok k l hl v (suc b) (omega arith)) ∙ across 0 (omega arith))
        (lt-or (suc (suc b)) (3 ^ k)))
        (λ g.
        ap (λ (x : Heading). towards a (in_face k w l b) (onward a x).cell) (on-across ok k l hl v b (omega arith))
        ∙ ap (λ (x : Heading). towards a (in_face k w l b) x.cell) (on-ahead ok k l hl (next_way ok v) 0 h)
        ∙ across 1 h)
        (lt-or (suc b) (3 ^ k))
      where
        across : (x : ℕ) → x < 3 ^ k → towards a (in_face k w l b) (in_face k (next_face a w) l x) ≡ w.direction
        across x q = towards-next v _ _ (in-face-face k w l b) (in-face-face k (next_face a w) l x)
