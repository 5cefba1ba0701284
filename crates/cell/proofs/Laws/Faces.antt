-- The faces that a straight line crosses, one after the other. Which they are, and in which direction each is crossed, does not depend on the
-- resolution, so it is computed for each arrangement, face and direction. Assumes nothing.
use Rattle.std.specs.Prelude.{◌≡◌, Bool, true, ◌&&◌, ℕ, zero, suc, ◌+◌, ◌%◌, ◌<◌, ◌≤◌, eqb}
use Rattle.std.proofs.Math.Path.{refl}
use Rattle.std.proofs.Common.{⊎_elim, arith}
use Rattle.std.proofs.Math.Bool.{not}
use Rattle.std.proofs.Math.Dec.{ltb}
use borrow.Author.Tests.{ltb-true, eqb-true, eqb-false, not-true}
use Rattle.logic.specs.Choice.{four}
use Rattle.logic.specs.Laws.Bools.{and_left, and_right}
use Rattle.logic.specs.Laws.Order.{lt-or}
use Rattle.cell.specs.declared.Arrangement.{Arrangement}
use Rattle.cell.specs.Cell.{IsArrangement}
use Rattle.cell.specs.Neighbour.{belt, by_face, turn_of, turn_north, turn_south}
use Rattle.cell.specs.Line.{opposite}
use Rattle.cell.proofs.Laws.Towards.{facing}

-- a face, and the direction in which it is crossed
pub record Way : Type 0 where
  pub face : ℕ
  pub direction : ℕ

pub record IsWay (w : Way) : Type 0 where
  pub faced : w.face ≤ 5
  pub directed : w.direction < 4

abbrev pub way : ℕ → ℕ → Way
way f d = record { face = f; direction = d }

-- the face across the edge, and the direction in which it is crossed: from face b of O to R, and from any face
abbrev pub belt_next : Arrangement → (b d : ℕ) → Way
belt_next a b d =
    four d
    (way 0 (opposite (turn_north (turn_of b a.north))))
    (way (belt ((b + 1) % 4)) 1)
    (way 5 (opposite (turn_south (turn_of b a.south))))
    (way (belt ((b + 3) % 4)) 3)

unfoldable pub next_face : Arrangement → Way → Way
next_face a w =
    let d = w.direction in
    by_face w.face (way (belt ((a.north + turn_north d) % 4)) 2) (λ b. belt_next a b d) (way (belt ((a.south + turn_south d) % 4)) 0)

-- after so many edges
unfoldable pub face_after : Arrangement → ℕ → Way → Way
unfolding next_face
face_after a zero w = w
face_after a (suc n) w = next_face a (face_after a n w)

-- the same face, crossed to the right
abbrev pub rightward : Way → Way
rightward w = way w.face ((w.direction + 1) % 4)

-- ---- a rule that is computed for every number below a bound, and for every arrangement, face and direction
every : ℕ → (ℕ → Bool) → Bool
every zero p = true
every (suc n) p = p n && every n p

each : (n : ℕ) (p : ℕ → Bool) → every n p ≡ true → (i : ℕ) → i < n → p i ≡ true
unfolding every
each zero p e i h = absurd (omega arith)
each (suc n) p e i h =
    ⊎_elim (λ k. each n p (and_right (p n) _ e) i k)
    (λ k. let q : n ≡ i = omega arith in rw q at (and_left (p n) (every n p) e))
    (lt-or i n)

abbrev tested : (Arrangement → Way → Bool) → ℕ → ℕ → ℕ → ℕ → Bool
tested p n s f d = p (record { north = n; south = s }) (way f d)

everywhere : (Arrangement → Way → Bool) → Bool
unfolding every
everywhere p = every 4 (λ n. every 4 (λ s. every 6 (λ f. every 4 (tested p n s f))))

module _ {a : Arrangement} {w : Way} (ok : IsArrangement a) (v : IsWay w) where
  passes : (p : Arrangement → Way → Bool) → everywhere p ≡ true → p a w ≡ true
  unfolding everywhere
  passes p e =
      let n = a.north in
      let s = a.south in
      let x = each 4 (λ z. every 4 (λ y. every 6 (λ x. every 4 (tested p z y x)))) e n (omega (arith, ok.northern)) in
      let y = each 4 (λ y. every 6 (λ x. every 4 (tested p n y x))) x s (omega (arith, ok.southern)) in
      let z = each 6 (λ x. every 4 (tested p n s x)) y w.face (omega (arith, v.faced)) in
      each 4 (tested p n s w.face) z w.direction v.directed

  pub next_way : IsWay (next_face a w)
  unfolding everywhere next_face
  next_way =
      record {
        faced = let h = ltb-true (next_face a w).face 6 (passes (λ b x. ltb (next_face b x).face 6) refl) in omega arith;
        directed = ltb-true (next_face a w).direction 4 (passes (λ b x. ltb (next_face b x).direction 4) refl);
      }

  equal : (f g : Arrangement → Way → ℕ) → everywhere (λ b x. eqb (f b x) (g b x)) ≡ true → f a w ≡ g a w
  equal f g e = eqb-true (f a w) (g a w) (passes (λ b x. eqb (f b x) (g b x)) e)

  -- the fourth edge leads back to the first face, in the same direction
  pub fourth : face_after a 4 w ≡ w
  unfolding everywhere face_after
  fourth =
      let p = equal (λ b x. (face_after b 4 x).face) (λ b x. x.face) refl in
      let q = equal (λ b x. (face_after b 4 x).direction) (λ b x. x.direction) refl in
      λ i. record { face = p i; direction = q i }

  -- and the three before lead to others
  pub others : (n : ℕ) → n < 3 → (face_after a (suc n) w).face ≡ w.face → ⊥
  unfolding everywhere face_after
  others n h =
      let p = passes (λ b x. every 3 (λ m. not (eqb (face_after b (suc m) x).face x.face))) refl in
      eqb-false (face_after a (suc n) w).face w.face (not-true _ (each 3 (λ m. not (eqb (face_after a (suc m) w).face w.face)) p n h))

  -- three faces meet at a corner: ahead and then right is right and then ahead
  pub faces-meet : next_face a (rightward (next_face a w)) ≡ rightward (next_face a (rightward w))
  unfolding everywhere next_face
  faces-meet =
      let p = equal (λ b x. (next_face b (rightward (next_face b x))).face) (λ b x. (next_face b (rightward x)).face) refl in
      let q = equal (λ b x. (next_face b (rightward (next_face b x))).direction) (λ b x. (rightward (next_face b (rightward x))).direction) refl in
      λ i. record { face = p i; direction = q i }

  -- the next face lies in the direction in which this one is crossed
  pub facing-next : facing a w.face (next_face a w).face ≡ w.direction
  unfolding everywhere next_face facing
  facing-next = equal (λ b x. facing b x.face (next_face b x).face) (λ b x. x.direction) refl

pub way-after : {a : Arrangement} {w : Way} → IsArrangement a → IsWay w → (n : ℕ) → IsWay (face_after a n w)
unfolding face_after
way-after ok v zero = v
way-after ok v (suc n) = next_way ok (way-after ok v n)
