-- Each step to a neighbour (01 "Neighbours and shapes") and the step back, as one fact, a seam: inside a face, round O to R, and into N and S.
-- Assumes nothing.
use Rattle.std.specs.Prelude.{◌≡◌, refl, Bool, true, false, cond, ℕ, ◌+◌, ◌-◌, ◌%◌, ◌<◌}
use Rattle.std.proofs.Common.{sym, ap, ◌∙◌, arith, lt-ltb, le-ltb, eq-eqb, ne_eqb, eqb-true}
use Rattle.std.proofs.lemmas.Bool.{eqb-false}
use Rattle.logic.specs.Choice.{four}
use Rattle.cell.specs.declared.Cell.{Cell}
use Rattle.cell.specs.declared.Arrangement.{Arrangement}
use Rattle.cell.specs.Cell.{IsCell, IsArrangement}
use Rattle.cell.specs.Neighbour.{at, rows, belt, turn_of, turn_north, turn_south, leaves, within_face, into_north, into_south}
use Rattle.cell.specs.Neighbour.{out_of_belt, out_of_north, out_of_south, across_edge, neighbour_of, back_of}
use Rattle.cell.proofs.Laws.Turns.{four-cases, face-cases, four-all, turn-of-face, face-of-turn, north-small, south-small, north-twice, south-twice}
use Rattle.cell.proofs.Laws.Turns.{at-cell, at_same, lands-north, lands-south, out-into-north, out-into-south, into-out-north, into-out-south}

-- ---- the two ways of a step
pub step-across : (a : Arrangement) (c : Cell) (d : ℕ) → leaves c d ≡ true → neighbour_of a c d ≡ across_edge a c d
unfolding neighbour_of
step-across a c d h = ap (λ (b : Bool). cond b (across_edge a c d) (within_face c d)) h

pub step-within : (a : Arrangement) (c : Cell) (d : ℕ) → leaves c d ≡ false → neighbour_of a c d ≡ within_face c d
unfolding neighbour_of
step-within a c d h = ap (λ (b : Bool). cond b (across_edge a c d) (within_face c d)) h

-- ---- the step from c in direction d leads to x, and direction e is the one back
pub record Leads (a : Arrangement) (c : Cell) (d : ℕ) (x : Cell) (e : ℕ) : Type 0 where
  pub there : neighbour_of a c d ≡ x
  pub back : back_of a c d ≡ e

pub leads-inside : (a : Arrangement) (c : Cell) (d : ℕ) → leaves c d ≡ false → Leads a c d (within_face c d) ((d + 2) % 4)
unfolding back_of
leads-inside a c d h = record { there = step-within a c d h; back = rw h }

pub leads-north : (a : Arrangement) (c : Cell) (d : ℕ) → c.face ≡ 0 → leaves c d ≡ true → Leads a c d (out_of_north a c (turn_north d)) 0
unfolding across_edge back_of
leads-north a c d z h = record { there = step-across a c d h ∙ rw z; back = rw (h, z) }

pub leads-south : (a : Arrangement) (c : Cell) (d : ℕ) → c.face ≡ 5 → leaves c d ≡ true → Leads a c d (out_of_south a c (turn_south d)) 2
unfolding across_edge back_of
leads-south a c d z h = record { there = step-across a c d h ∙ rw z; back = rw (h, z) }

-- from face b of O to R
abbrev pub back_belt : Arrangement → ℕ → ℕ → ℕ
back_belt a d b = four d (turn_north (turn_of b a.north)) 3 (turn_south (turn_of b a.south)) 1

pub leads-belt :
    (a : Arrangement) (c : Cell) (d b : ℕ) → b < 4 → c.face ≡ belt b → leaves c d ≡ true →
    Leads a c d (out_of_belt a c d b) (back_belt a d b)
unfolding across_edge back_of
leads-belt a c d b l z h =
    let p = le-ltb (belt b) 1 (omega arith) in
    let q = lt-ltb (belt b) 5 (omega arith) in
    let r : belt b - 1 ≡ b = omega arith in
    record { there = step-across a c d h ∙ rw (z, p, q, r); back = rw (h, z, p, q, r) }

pub ends : {a : Arrangement} {c x y : Cell} {d e : ℕ} → x ≡ y → Leads a c d x e → Leads a c d y e
ends p l = record { there = l.there ∙ p; back = l.back }

-- ---- a step to a cell, and the step home
pub record Seam (a : Arrangement) (c : Cell) (d : ℕ) (x : Cell) (e : ℕ) : Type 0 where
  pub out : Leads a c d x e
  pub home : Leads a x e c d
  pub cell : IsCell x
  pub small : e < 4

-- seen from the other side
turned : {a : Arrangement} {c x : Cell} {d e : ℕ} → IsCell c → d < 4 → Seam a c d x e → Seam a x e c d
turned v l s = record { out = s.home; home = s.out; cell = v; small = l }

seam-to : {a : Arrangement} {c x y : Cell} {d e f : ℕ} → x ≡ y → e ≡ f → Seam a c d x e → Seam a c d y f
seam-to p q s = rw p at (rw q at s)

-- ---- inside a face
seam-down : (a : Arrangement) {c : Cell} → IsCell c → c.row + 1 < rows c → Seam a c 2 (at c c.face (c.row + 1) c.column) 0
unfolding leaves within_face
seam-down a {c} v h =
    let x = at c c.face (c.row + 1) c.column in
    record {
      out = leads-inside a c 2 (ne_eqb (c.row + 1) (rows c) (omega arith));
      home = ends (at_same c refl (omega arith) refl) (leads-inside a x 0 (ne_eqb (c.row + 1) 0 (omega arith)));
      cell = at-cell v c.face (c.row + 1) c.column v.faced h v.columned;
      small = omega arith;
    }

seam-up : (a : Arrangement) {c : Cell} → IsCell c → 0 < c.row → Seam a c 0 (at c c.face (c.row - 1) c.column) 2
seam-up a {c} v h =
    let x = at-cell v c.face (c.row - 1) c.column v.faced (omega arith) v.columned in
    turned x (omega arith) (seam-to (at_same c refl (omega arith) refl) refl (seam-down a x (omega arith)))

seam-right : (a : Arrangement) {c : Cell} → IsCell c → c.column + 1 < rows c → Seam a c 1 (at c c.face c.row (c.column + 1)) 3
unfolding leaves within_face
seam-right a {c} v h =
    let x = at c c.face c.row (c.column + 1) in
    record {
      out = leads-inside a c 1 (ne_eqb (c.column + 1) (rows c) (omega arith));
      home = ends (at_same c refl refl (omega arith)) (leads-inside a x 3 (ne_eqb (c.column + 1) 0 (omega arith)));
      cell = at-cell v c.face c.row (c.column + 1) v.faced v.rowed h;
      small = omega arith;
    }

seam-left : (a : Arrangement) {c : Cell} → IsCell c → 0 < c.column → Seam a c 3 (at c c.face c.row (c.column - 1)) 1
seam-left a {c} v h =
    let x = at-cell v c.face c.row (c.column - 1) v.faced v.rowed (omega arith) in
    turned x (omega arith) (seam-to (at_same c refl refl (omega arith)) refl (seam-right a x (omega arith)))

-- ---- "Right and left go round O, P, Q, R in the same row."
seam-east :
    (a : Arrangement) {c : Cell} (b : ℕ) → IsCell c → b < 4 → c.face ≡ belt b → c.column + 1 ≡ rows c →
    Seam a c 1 (at c (belt ((b + 1) % 4)) c.row 0) 3
unfolding leaves out_of_belt
seam-east a {c} b v l z h =
    let x = at c (belt ((b + 1) % 4)) c.row 0 in
    record {
      out = leads-belt a c 1 b l z (eq-eqb (c.column + 1) (rows c) h);
      home = ends (at_same c (omega arith) refl (omega arith)) (leads-belt a x 3 ((b + 1) % 4) (omega arith) refl refl);
      cell = at-cell v (belt ((b + 1) % 4)) c.row 0 (omega arith) v.rowed (omega arith);
      small = omega arith;
    }

seam-west :
    (a : Arrangement) {c : Cell} (b : ℕ) → IsCell c → b < 4 → c.face ≡ belt b → c.column ≡ 0 →
    Seam a c 3 (at c (belt ((b + 3) % 4)) c.row (rows c - 1)) 1
seam-west a {c} b v l z h =
    let x = at-cell v (belt ((b + 3) % 4)) c.row (rows c - 1) (omega arith) v.rowed (omega arith) in
    let s = seam-east a ((b + 3) % 4) x (omega arith) refl (omega arith) in
    turned x (omega arith) (seam-to (at_same c (omega arith) refl (sym h)) refl s)

-- ---- into N and S, by the table
seam-north :
    {a : Arrangement} {c : Cell} (b : ℕ) → IsArrangement a → IsCell c → b < 4 → c.face ≡ belt b → c.row ≡ 0 →
    Seam a c 0 (into_north c (turn_of b a.north)) (turn_north (turn_of b a.north))
unfolding leaves out_of_belt
seam-north {a} {c} b w v l z h =
    let t = turn_of b a.north in
    let s = lands-north {c = c} t v in
    let r = out-into-north a t v (ap belt (face-of-turn a.north b w.northern l) ∙ sym z) h in
    let e = ap (λ (u : ℕ). out_of_north a (into_north c t) u) (north-twice t (omega arith)) ∙ r in
    record {
      out = leads-belt a c 0 b l z (eq-eqb c.row 0 h);
      home = ends e (leads-north a (into_north c t) (turn_north t) s.face s.edge);
      cell = s.cell;
      small = north-small t;
    }

seam-south :
    {a : Arrangement} {c : Cell} (b : ℕ) → IsArrangement a → IsCell c → b < 4 → c.face ≡ belt b → c.row + 1 ≡ rows c →
    Seam a c 2 (into_south c (turn_of b a.south)) (turn_south (turn_of b a.south))
unfolding leaves out_of_belt
seam-south {a} {c} b w v l z h =
    let t = turn_of b a.south in
    let s = lands-south {c = c} t v in
    let r = out-into-south a t v (ap belt (face-of-turn a.south b w.southern l) ∙ sym z) h in
    let e = ap (λ (u : ℕ). out_of_south a (into_south c t) u) (south-twice t (omega arith)) ∙ r in
    record {
      out = leads-belt a c 2 b l z (eq-eqb (c.row + 1) (rows c) h);
      home = ends e (leads-south a (into_south c t) (turn_south t) s.face s.edge);
      cell = s.cell;
      small = south-small t;
    }

-- ---- out of N and S: the same seams from the other side
from-north :
    {a : Arrangement} {c : Cell} (d : ℕ) → IsArrangement a → IsCell c → d < 4 → c.face ≡ 0 → leaves c d ≡ true →
    Seam a c d (out_of_north a c (turn_north d)) 0
unfolding out_of_north
from-north {a} {c} d w v l z h =
    let t = turn_north d in
    let b = (a.north + t) % 4 in
    let j : four t c.column (rows c - 1 - c.row) (rows c - 1 - c.column) c.row < rows c =
    four-all (λ (x : ℕ). x < rows c) t v.columned (omega arith) (omega arith) v.rowed in
    let x : IsCell (out_of_north a c t) = at-cell v (belt b) 0 _ (omega arith) (omega arith) j in
    let s = rw (turn-of-face a.north t w.northern (north-small d)) at (seam-north b w x (omega arith) refl refl) in
    turned x (omega arith) (seam-to (into-out-north a d v z h) (north-twice d l) s)

from-south :
    {a : Arrangement} {c : Cell} (d : ℕ) → IsArrangement a → IsCell c → d < 4 → c.face ≡ 5 → leaves c d ≡ true →
    Seam a c d (out_of_south a c (turn_south d)) 2
unfolding out_of_south
from-south {a} {c} d w v l z h =
    let t = turn_south d in
    let b = (a.south + t) % 4 in
    let j : four t c.column c.row (rows c - 1 - c.column) (rows c - 1 - c.row) < rows c =
    four-all (λ (x : ℕ). x < rows c) t v.columned v.rowed (omega arith) (omega arith) in
    let x : IsCell (out_of_south a c t) = at-cell v (belt b) (rows c - 1) _ (omega arith) (omega arith) j in
    let s = rw (turn-of-face a.south t w.southern (south-small d)) at (seam-south b w x (omega arith) refl (omega arith)) in
    turned x (omega arith) (seam-to (into-out-south a d v z h) (south-twice d l) s)

-- ---- every step has its way home
abbrev pub Closed : Arrangement → Cell → ℕ → Type 0
Closed a c d = Seam a c d (neighbour_of a c d) (back_of a c d)

closed : {a : Arrangement} {c x : Cell} {d e : ℕ} → Seam a c d x e → Closed a c d
closed s = seam-to (sym s.out.there) (sym s.out.back) s

inside : (a : Arrangement) {c : Cell} (d : ℕ) → IsCell c → d < 4 → leaves c d ≡ false → Closed a c d
unfolding leaves
inside a {c} d v l =
    four-cases (λ (e : ℕ). leaves c e ≡ false → Closed a c e)
    (λ h. let q = eqb-false c.row 0 h in closed (seam-up a v (omega arith)))
    (λ h. let q = eqb-false (c.column + 1) (rows c) h in closed (seam-right a v (omega arith)))
    (λ h. let q = eqb-false (c.row + 1) (rows c) h in closed (seam-down a v (omega arith)))
    (λ h. let q = eqb-false c.column 0 h in closed (seam-left a v (omega arith)))
    d
    l

from-belt :
    {a : Arrangement} {c : Cell} (d b : ℕ) → IsArrangement a → IsCell c → d < 4 → b < 4 → c.face ≡ belt b → leaves c d ≡ true →
    Closed a c d
unfolding leaves
from-belt {a} {c} d b w v l k z =
    four-cases (λ (e : ℕ). leaves c e ≡ true → Closed a c e)
    (λ h. closed (seam-north b w v k z (eqb-true c.row 0 h)))
    (λ h. closed (seam-east a b v k z (eqb-true (c.column + 1) (rows c) h)))
    (λ h. closed (seam-south b w v k z (eqb-true (c.row + 1) (rows c) h)))
    (λ h. closed (seam-west a b v k z (eqb-true c.column 0 h)))
    d
    l

pub seam : {a : Arrangement} {c : Cell} (d : ℕ) → IsArrangement a → IsCell c → d < 4 → Closed a c d
seam {a} {c} d w v l = go (leaves c d) refl
  where
    go : (t : Bool) → leaves c d ≡ t → Closed a c d
    go false h = inside a d v l h
    go true h =
        face-cases c.face v.faced
        (λ z. closed (from-north d w v l z h))
        (λ b k z. from-belt d b w v l k z h)
        (λ z. closed (from-south d w v l z h))
