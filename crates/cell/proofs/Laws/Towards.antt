-- The direction of a neighbour (01 "Neighbours and shapes") is read off the two cells, so that no two directions lead to one. Assumes nothing.
use Rattle.std.specs.Prelude.{◌≡◌, refl, Bool, true, false, cond, ℕ, ◌+◌, ◌-◌, ◌%◌, ◌<◌, ◌≤◌, eqb, ltb}
use Rattle.std.proofs.Common.{ap, ◌∙◌, arith, lt-ltb, le-ltb, eq-eqb, ne_eqb}
use Rattle.std.proofs.lemmas.Bool.{eqb-false}
use Rattle.logic.specs.Choice.{four}
use Rattle.cell.specs.declared.Cell.{Cell}
use Rattle.cell.specs.declared.Arrangement.{Arrangement}
use Rattle.cell.specs.Cell.{IsCell, IsArrangement}
use Rattle.cell.specs.Neighbour.{belt, by_face, turn_of, turn_north, turn_south, leaves, within_face, out_of_belt, out_of_north, out_of_south, neighbour_of}
use Rattle.cell.proofs.Laws.Turns.{four-cases, face-cases, four-all, north-small, south-small, north-twice, south-twice, lands-north, lands-south}
use Rattle.cell.proofs.Internal.Seams.{step-within, leads-north, leads-south, leads-belt}

-- in the same face; 4 for the cell itself
unfoldable pub side : Cell → Cell → ℕ
side c x =
    cond (ltb x.row c.row) 0
    (cond (ltb c.column x.column) 1
    (cond (ltb c.row x.row) 2 (cond (ltb x.column c.column) 3 4)))

-- in face g, from face f
unfoldable pub facing : Arrangement → ℕ → ℕ → ℕ
facing a f g =
    by_face f (turn_north (turn_of (g - 1) a.north))
    (λ b. by_face g 0 (λ e. turn_of e b) 2)
    (turn_south (turn_of (g - 1) a.south))

unfoldable pub towards : Arrangement → Cell → Cell → ℕ
unfolding side facing
towards a c x = cond (eqb x.face c.face) (side c x) (facing a c.face x.face)

pub towards-itself : (a : Arrangement) (c : Cell) → towards a c c ≡ 4
unfolding towards
towards-itself a c = rw (eq-eqb c.face c.face refl, le-ltb c.row c.row (omega arith), le-ltb c.column c.column (omega arith))

side-within : (c : Cell) (d : ℕ) → d < 4 → leaves c d ≡ false → side c (within_face c d) ≡ d
unfolding side leaves within_face
side-within c d l =
    let i = c.row in
    let j = c.column in
    four-cases (λ (e : ℕ). leaves c e ≡ false → side c (within_face c e) ≡ e)
    (λ h. let q = eqb-false i 0 h in rw (lt-ltb (i - 1) i (omega arith)))
    (λ h. rw (le-ltb i i (omega arith), lt-ltb j (j + 1) (omega arith)))
    (λ h. rw (le-ltb (i + 1) i (omega arith), le-ltb j j (omega arith), lt-ltb i (i + 1) (omega arith)))
    (λ h. let q = eqb-false j 0 h in rw (le-ltb i i (omega arith), le-ltb j (j - 1) (omega arith), lt-ltb (j - 1) j (omega arith)))
    d
    l

-- from N or S, whose number is n
turn-of-belt : (n t : ℕ) → n ≤ 3 → t < 4 → turn_of (belt ((n + t) % 4) - 1) n ≡ t
turn-of-belt n t h l = omega arith

-- the faces about face b of O to R
abbrev about : ℕ → ℕ → ℕ
about b d = four d 0 (belt ((b + 1) % 4)) 5 (belt ((b + 3) % 4))

facing-belt : (a : Arrangement) (b d : ℕ) → b < 4 → d < 4 → facing a (belt b) (about b d) ≡ d
unfolding facing
facing-belt a b d l =
    let p = le-ltb (belt b) 1 (omega arith) in
    let q = lt-ltb (belt b) 5 (omega arith) in
    let other : (e : ℕ) → e < 4 → facing a (belt b) (belt e) ≡ turn_of e b =
    λ e k.
    let r : belt b - 1 ≡ b = omega arith in
    let s : belt e - 1 ≡ e = omega arith in
    rw (p, q, le-ltb (belt e) 1 (omega arith), lt-ltb (belt e) 5 (omega arith), r, s)
    in
    four-cases (λ (e : ℕ). facing a (belt b) (about b e) ≡ e)
    (rw (p, q))
    (other ((b + 1) % 4) (omega arith) ∙ omega arith)
    (rw (p, q))
    (other ((b + 3) % 4) (omega arith) ∙ omega arith)
    d

belt-face : (a : Arrangement) {c : Cell} (b d : ℕ) → IsCell c → d < 4 → (out_of_belt a c d b).face ≡ about b d
unfolding out_of_belt
belt-face a {c} b d v l =
    four-cases (λ (e : ℕ). (out_of_belt a c e b).face ≡ about b e)
    (lands-north (turn_of b a.north) v).face
    refl
    (lands-south (turn_of b a.south) v).face
    refl
    d
    l

-- a step from face f to another face g
across :
    (a : Arrangement) (c : Cell) (d : ℕ) {f g : ℕ} {x : Cell} → c.face ≡ f → neighbour_of a c d ≡ x → x.face ≡ g → (g ≡ f → ⊥) → facing a f g ≡ d →
    towards a c (neighbour_of a c d) ≡ d
unfolding towards
across a c d {f} {g} p s q h e = rw (s, q, p, ne_eqb g f h) e

pub towards-step : {a : Arrangement} {c : Cell} (d : ℕ) → IsArrangement a → IsCell c → d < 4 → towards a c (neighbour_of a c d) ≡ d
unfolding towards within_face out_of_north out_of_south
towards-step {a} {c} d w v l = go (leaves c d) refl
  where
    go : (t : Bool) → leaves c d ≡ t → towards a c (neighbour_of a c d) ≡ d
    go false h =
        let e : (within_face c d).face ≡ c.face = four-all (λ (x : Cell). x.face ≡ c.face) d refl refl refl refl in
        rw (step-within a c d h, eq-eqb (within_face c d).face c.face e) (side-within c d l h)
    go true h =
        face-cases c.face v.faced
        (λ z.
        let e = turn-of-belt a.north (turn_north d) w.northern (north-small d) in
        across a c d z (leads-north a c d z h).there refl (omega arith) (ap (λ (t : ℕ). turn_north t) e ∙ north-twice d l))
        (λ b k z.
        let n = four-all (λ (g : ℕ). g ≡ belt b → ⊥) d (omega arith) (omega arith) (omega arith) (omega arith) in
        across a c d z (leads-belt a c d b k z h).there (belt-face a b d v l) n (facing-belt a b d k l))
        (λ z.
        let e = turn-of-belt a.south (turn_south d) w.southern (south-small d) in
        across a c d z (leads-south a c d z h).there refl (omega arith) (ap (λ (t : ℕ). turn_south t) e ∙ south-twice d l))
