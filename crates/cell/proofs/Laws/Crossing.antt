-- A cell by the direction in which its face is crossed: so many cells of the face to the left, so many behind. A step ahead leaves the number to the
-- left as it is, inside a face and across an edge, whatever the turn. Assumes nothing.
use Rattle.std.specs.Prelude.{◌≡◌, false}
use Rattle.std.proofs.Math.Path.{refl}
use Rattle.std.proofs.Math.Bool.{true}
use Prim.Native.Nat.{ℕ, zero, suc, ◌+◌, ◌-◌, ◌^◌, ◌≤◌, ◌<◌}
use native.Mathlib.Omega.{arith}
use Rattle.std.proofs.Common.{eq-eqb, ne_eqb, le-ltb, lt-ltb}
use Rattle.logic.specs.Choice.{four}
use Rattle.cell.specs.declared.Cell.{Cell}
use Rattle.cell.specs.declared.Arrangement.{Arrangement}
use Rattle.cell.specs.Cell.{IsCell}
use Rattle.cell.specs.Neighbour.{rows, belt, turn_of, turn_north, turn_south, leaves, within_face, into_north, into_south, out_of_belt, out_of_north, out_of_south}
use Rattle.cell.proofs.Laws.Turns.{four-cases, four-all, face-cases, north-small, south-small}
use Rattle.cell.proofs.Internal.Seams.{Leads, ends, leads-inside, leads-north, leads-south, leads-belt}
use Rattle.cell.specs.Line.{opposite}
use Rattle.cell.proofs.Laws.Faces.{Way, IsWay, way, belt_next, next_face, rightward}

abbrev pub place : (k f i j : ℕ) → Cell
place k f i j = record { face = f; resolution = k; row = i; column = j }

placed : (k f : ℕ) {i j x y : ℕ} → i ≡ x → j ≡ y → place k f i j ≡ place k f x y
placed k f p q = λ i. record { face = f; resolution = k; row = p i; column = q i }

-- the last row and column
abbrev pub last : ℕ → ℕ
last k = 3 ^ k - 1

-- the cell with `left` cells of its face to the left and `behind` behind
unfoldable pub in_face : (k : ℕ) → Way → (left behind : ℕ) → Cell
in_face k w left behind =
    let f = w.face in
    four w.direction
    (place k f (last k - behind) left)
    (place k f left behind)
    (place k f behind (last k - left))
    (place k f (last k - left) (last k - behind))

-- read off a cell
abbrev pub left_of : Cell → ℕ → ℕ
left_of c d = four d c.column c.row (rows c - 1 - c.column) (rows c - 1 - c.row)

abbrev pub behind_of : Cell → ℕ → ℕ
behind_of c d = four d (rows c - 1 - c.row) c.column c.row (rows c - 1 - c.column)

module _ {c : Cell} (v : IsCell c) where
  pub left-small : (d : ℕ) → left_of c d < rows c
  left-small d = four-all (λ (x : ℕ). x < rows c) d v.columned v.rowed (omega arith) (omega arith)

  pub behind-small : (d : ℕ) → behind_of c d < rows c
  behind-small d = four-all (λ (x : ℕ). x < rows c) d (omega arith) v.columned v.rowed (omega arith)

  pub seen : (d : ℕ) → d < 4 → c ≡ in_face c.resolution (way c.face d) (left_of c d) (behind_of c d)
  unfolding in_face
  seen d l =
      four-cases (λ (e : ℕ). c ≡ in_face c.resolution (way c.face e) (left_of c e) (behind_of c e))
      (placed _ _ (omega arith) refl)
      refl
      (placed _ _ refl (omega arith))
      (placed _ _ (omega arith) (omega arith))
      d
      l

pub opposite-twice : (e : ℕ) → e < 4 → opposite (opposite e) ≡ e
opposite-twice e h = omega arith

pub in-face-face : (k : ℕ) (w : Way) (l b : ℕ) → (in_face k w l b).face ≡ w.face
unfolding in_face
in-face-face k w l b = four-all (λ (x : Cell). x.face ≡ w.face) w.direction refl refl refl refl

module _ (k : ℕ) (w : Way) (v : IsWay w) (l b : ℕ) (hl : l < 3 ^ k) (hb : b < 3 ^ k) where
  pub in-face-behind : behind_of (in_face k w l b) w.direction ≡ b
  unfolding in_face
  in-face-behind =
      four-cases (λ (e : ℕ). behind_of (in_face k (way w.face e) l b) e ≡ b) (omega arith) refl refl (omega arith) w.direction v.directed

  pub in-face-cell : k ≤ 15 → IsCell (in_face k w l b)
  unfolding in_face
  in-face-cell h =
      four-all (λ (x : Cell). IsCell x) w.direction
      (record { fine = h; faced = v.faced; rowed = omega arith; columned = omega arith })
      (record { fine = h; faced = v.faced; rowed = omega arith; columned = omega arith })
      (record { fine = h; faced = v.faced; rowed = omega arith; columned = omega arith })
      (record { fine = h; faced = v.faced; rowed = omega arith; columned = omega arith })

  -- the same cell, its face crossed to the right
  pub in-face-right : in_face k w l b ≡ in_face k (rightward w) (last k - b) l
  unfolding in_face
  in-face-right =
      four-cases (λ (e : ℕ). in_face k (way w.face e) l b ≡ in_face k (rightward (way w.face e)) (last k - b) l)
      refl
      (placed k _ refl (omega arith))
      (placed k _ (omega arith) refl)
      refl
      w.direction
      v.directed

  -- with a cell of the face ahead, and with none
  pub goes_on : b + 1 < 3 ^ k → leaves (in_face k w l b) w.direction ≡ false
  unfolding in_face leaves
  goes_on h =
      let f = w.face in
      four-cases (λ (e : ℕ). leaves (in_face k (way f e) l b) e ≡ false)
      (ne_eqb (last k - b) 0 (omega arith))
      (ne_eqb (b + 1) (3 ^ k) (omega arith))
      (ne_eqb (b + 1) (3 ^ k) (omega arith))
      (ne_eqb (last k - b) 0 (omega arith))
      w.direction
      v.directed

  pub at_edge : b + 1 ≡ 3 ^ k → leaves (in_face k w l b) w.direction ≡ true
  unfolding in_face leaves
  at_edge h =
      let f = w.face in
      four-cases (λ (e : ℕ). leaves (in_face k (way f e) l b) e ≡ true)
      (eq-eqb (last k - b) 0 (omega arith))
      (eq-eqb (b + 1) (3 ^ k) h)
      (eq-eqb (b + 1) (3 ^ k) h)
      (eq-eqb (last k - b) 0 (omega arith))
      w.direction
      v.directed

  -- a step inside the face
  pub ahead : (a : Arrangement) → b + 1 < 3 ^ k → Leads a (in_face k w l b) w.direction (in_face k w l (b + 1)) (opposite w.direction)
  unfolding in_face within_face
  ahead a h =
      let f = w.face in
      let e : within_face (in_face k w l b) w.direction ≡ in_face k w l (b + 1) =
      four-cases (λ (e : ℕ). within_face (in_face k (way f e) l b) e ≡ in_face k (way f e) l (b + 1))
      (placed k f (omega arith) refl)
      refl
      refl
      (placed k f refl (omega arith))
      w.direction
      v.directed in
      ends e (leads-inside a (in_face k w l b) w.direction (goes_on h))

-- ---- a step across the edge
abbrev pub Crosses : Arrangement → ℕ → ℕ → ℕ → Way → Type 0
Crosses a k l b w = Leads a (in_face k w l b) w.direction (in_face k (next_face a w) l 0) (opposite (next_face a w).direction)

belt-next : (a : Arrangement) (b d : ℕ) → b < 4 → next_face a (way (belt b) d) ≡ belt_next a b d
unfolding next_face
belt-next a b d h =
    let r : belt b - 1 ≡ b = omega arith in
    rw (le-ltb (belt b) 1 (omega arith), lt-ltb (belt b) 5 (omega arith), r)

into-north : (k f i l t : ℕ) → into_north (place k f i l) t ≡ in_face k (way 0 (opposite (turn_north t))) l 0
unfolding into_north in_face
into-north k f i l zero = placed k _ (omega arith) refl
into-north k f i l (suc zero) = placed k _ refl (omega arith)
into-north k f i l (suc (suc zero)) = refl
into-north k f i l (suc (suc (suc t))) = refl

into-south : (k f i l t : ℕ) → l < 3 ^ k → into_south (place k f i (last k - l)) t ≡ in_face k (way 5 (opposite (turn_south t))) l 0
unfolding into_south in_face
into-south k f i l zero h = refl
into-south k f i l (suc zero) h = placed k _ refl (omega arith)
into-south k f i l (suc (suc zero)) h = placed k _ (omega arith) (omega arith)
into-south k f i l (suc (suc (suc t))) h = placed k _ (omega arith) refl

module _ (a : Arrangement) (k l b : ℕ) (hl : l < 3 ^ k) (h : b + 1 ≡ 3 ^ k) where
  edge : (f d : ℕ) → f ≤ 5 → d < 4 → leaves (in_face k (way f d) l b) d ≡ true
  edge f d hf hd = at_edge k (way f d) (record { faced = hf; directed = hd }) l b hl (omega arith) h

  north : (d : ℕ) → d < 4 → Crosses a k l b (way 0 d)
  unfolding in_face next_face out_of_north
  north d hd =
      four-cases (λ (e : ℕ). leaves (in_face k (way 0 e) l b) e ≡ true → Crosses a k l b (way 0 e))
      (λ x. leads-north a _ 0 refl x)
      (λ x. leads-north a _ 1 refl x)
      (λ x. leads-north a _ 2 refl x)
      (λ x. leads-north a _ 3 refl x)
      d hd (edge 0 d (omega arith) hd)

  south : (d : ℕ) → d < 4 → Crosses a k l b (way 5 d)
  unfolding in_face next_face out_of_south
  south d hd =
      four-cases (λ (e : ℕ). leaves (in_face k (way 5 e) l b) e ≡ true → Crosses a k l b (way 5 e))
      (λ x. ends (placed k _ (omega arith) refl) (leads-south a _ 0 refl x))
      (λ x. ends (placed k _ (omega arith) refl) (leads-south a _ 1 refl x))
      (λ x. ends (placed k _ (omega arith) (omega arith)) (leads-south a _ 2 refl x))
      (λ x. ends (placed k _ (omega arith) (omega arith)) (leads-south a _ 3 refl x))
      d hd (edge 5 d (omega arith) hd)

  around : (f d : ℕ) → f < 4 → d < 4 → Crosses a k l b (way (belt f) d)
  unfolding in_face out_of_belt
  around f d hf hd =
      rw (belt-next a f d hf)
      (four-cases
      (λ (e : ℕ). leaves (in_face k (way (belt f) e) l b) e ≡ true → Leads a (in_face k (way (belt f) e) l b) e (in_face k (belt_next a f e) l 0) (opposite (belt_next a f e).direction))
      (λ x. rw (opposite-twice (turn_north t) (north-small t)) (ends (into-north k (belt f) (last k - b) l t) (leads-belt a _ 0 f hf refl x)))
      (λ x. leads-belt a _ 1 f hf refl x)
      (λ x. rw (opposite-twice (turn_south s) (south-small s)) (ends (into-south k (belt f) b l s hl) (leads-belt a _ 2 f hf refl x)))
      (λ x. ends (placed k _ refl (omega arith)) (leads-belt a _ 3 f hf refl x))
      d hd (edge (belt f) d (omega arith) hd))
    where
      t : ℕ
      t = turn_of f a.north

      s : ℕ
      s = turn_of f a.south

  pub crosses : (w : Way) → IsWay w → Crosses a k l b w
  crosses w v =
      face-cases w.face v.faced
      (λ z. rw z (north w.direction v.directed))
      (λ f x z. rw z (around f w.direction x v.directed))
      (λ z. rw z (south w.direction v.directed))
