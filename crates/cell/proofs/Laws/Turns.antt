-- Laws of the table of 01 "Neighbours and shapes": where a turn leads from O to R into N or S, and back by the inverse. Assumes nothing.
use Rattle.std.specs.Prelude.{◌≡◌, refl, Bool, true, false, cond, ℕ, zero, suc, ◌+◌, ◌-◌, ◌%◌, ◌<◌, ◌≤◌, ltb}
use Rattle.std.proofs.Common.{sym, arith, ltb-true, ltb-false, eq-eqb, eqb-true}
use Rattle.logic.specs.Choice.{four}
use Rattle.cell.specs.declared.Cell.{Cell}
use Rattle.cell.specs.declared.Arrangement.{Arrangement}
use Rattle.cell.specs.Cell.{IsCell}
use Rattle.cell.specs.Neighbour.{at, rows, belt, turn_of, turn_north, turn_south, leaves, into_north, into_south, out_of_north, out_of_south}

-- ---- choices
-- what holds of 0 to 3 holds of a direction or a turn
pub four-cases : (P : ℕ → Type 0) → P 0 → P 1 → P 2 → P 3 → (d : ℕ) → d < 4 → P d
four-cases P p q r s zero h = p
four-cases P p q r s (suc zero) h = q
four-cases P p q r s (suc (suc zero)) h = r
four-cases P p q r s (suc (suc (suc zero))) h = s
four-cases P p q r s (suc (suc (suc (suc d)))) h = absurd (omega arith)

-- N, face b of O to R, or S
pub face-cases : {P : Type 0} (f : ℕ) → f ≤ 5 → (f ≡ 0 → P) → ((b : ℕ) → b < 4 → f ≡ belt b → P) → (f ≡ 5 → P) → P
face-cases zero h p q r = p refl
face-cases {P} (suc b) h p q r = go (ltb b 4) refl
  where
    go : (t : Bool) → ltb b 4 ≡ t → P
    go true e = q b (ltb-true b 4 e) (omega arith)
    go false e = let k = ltb-false b 4 e in r (omega arith)

-- what holds of each choice holds of the one that is picked
pub cond-all {ℓ} : {A : Type ℓ} (P : A → Type 0) (t : Bool) {x y : A} → P x → P y → P (cond t x y)
cond-all P true hx hy = hx
cond-all P false hx hy = hy

pub four-all {ℓ} : {A : Type ℓ} (P : A → Type 0) (t : ℕ) {p q r s : A} → P p → P q → P r → P s → P (four t p q r s)
four-all P zero hp hq hr hs = hp
four-all P (suc zero) hp hq hr hs = hq
four-all P (suc (suc zero)) hp hq hr hs = hr
four-all P (suc (suc (suc t))) hp hq hr hs = hs

-- ---- turns
pub turn-of-face : (n t : ℕ) → n ≤ 3 → t < 4 → turn_of ((n + t) % 4) n ≡ t
turn-of-face n t h l = omega arith

pub face-of-turn : (n b : ℕ) → n ≤ 3 → b < 4 → (n + turn_of b n) % 4 ≡ b
face-of-turn n b h l = omega arith

pub north-small : (d : ℕ) → turn_north d < 4
north-small d = four-all (λ (x : ℕ). x < 4) d (omega arith) (omega arith) (omega arith) (omega arith)

pub south-small : (d : ℕ) → turn_south d < 4
south-small d = four-all (λ (x : ℕ). x < 4) d (omega arith) (omega arith) (omega arith) (omega arith)

-- the edge of a turn is the turn of an edge
pub north-twice : (t : ℕ) → t < 4 → turn_north (turn_north t) ≡ t
north-twice t h = four-cases (λ (x : ℕ). turn_north (turn_north x) ≡ x) refl refl refl refl t h

pub south-twice : (t : ℕ) → t < 4 → turn_south (turn_south t) ≡ t
south-twice t h = four-cases (λ (x : ℕ). turn_south (turn_south x) ≡ x) refl refl refl refl t h

-- ---- cells of one resolution
pub at-cell : {c : Cell} → IsCell c → (f i j : ℕ) → f ≤ 5 → i < rows c → j < rows c → IsCell (at c f i j)
at-cell v f i j hf hi hj = record { fine = v.fine; faced = hf; rowed = hi; columned = hj }

pub at_same : (c : Cell) {f i j : ℕ} → f ≡ c.face → i ≡ c.row → j ≡ c.column → at c f i j ≡ c
at_same c p q r = λ x. record { face = p x; resolution = c.resolution; row = q x; column = r x }

-- ---- into N and S: a cell of that face, at the edge that meets the turn
pub record Lands (x : Cell) (f e : ℕ) : Type 0 where
  pub cell : IsCell x
  pub face : x.face ≡ f
  pub edge : leaves x e ≡ true

lands : {c : Cell} {f : ℕ} (i j e : ℕ) → IsCell c → f ≤ 5 → i < rows c → j < rows c → leaves (at c f i j) e ≡ true → Lands (at c f i j) f e
lands {c} {f} i j e v hf hi hj h = record { cell = at-cell v f i j hf hi hj; face = refl; edge = h }

pub lands-north : {c : Cell} (t : ℕ) → IsCell c → Lands (into_north c t) 0 (turn_north t)
unfolding into_north leaves
lands-north {c} zero v =
    let last = eq-eqb (rows c - 1 + 1) (rows c) (omega arith) in
    lands (rows c - 1) c.column 2 v (omega arith) (omega arith) v.columned last
lands-north {c} (suc zero) v =
    let last = eq-eqb (rows c - 1 + 1) (rows c) (omega arith) in
    lands (rows c - 1 - c.column) (rows c - 1) 1 v (omega arith) (omega arith) (omega arith) last
lands-north {c} (suc (suc zero)) v = lands 0 (rows c - 1 - c.column) 0 v (omega arith) (omega arith) (omega arith) refl
lands-north {c} (suc (suc (suc t))) v = lands c.column 0 3 v (omega arith) v.columned (omega arith) refl

pub lands-south : {c : Cell} (t : ℕ) → IsCell c → Lands (into_south c t) 5 (turn_south t)
unfolding into_south leaves
lands-south {c} zero v = lands 0 c.column 0 v (omega arith) (omega arith) v.columned refl
lands-south {c} (suc zero) v =
    let last = eq-eqb (rows c - 1 + 1) (rows c) (omega arith) in
    lands c.column (rows c - 1) 1 v (omega arith) v.columned (omega arith) last
lands-south {c} (suc (suc zero)) v =
    let last = eq-eqb (rows c - 1 + 1) (rows c) (omega arith) in
    lands (rows c - 1) (rows c - 1 - c.column) 2 v (omega arith) (omega arith) (omega arith) last
lands-south {c} (suc (suc (suc t))) v = lands (rows c - 1 - c.column) 0 3 v (omega arith) (omega arith) (omega arith) refl

-- ---- the inverse, from either side
pub out-into-north :
    (a : Arrangement) {c : Cell} (t : ℕ) → IsCell c → belt ((a.north + t) % 4) ≡ c.face → c.row ≡ 0 →
    out_of_north a (into_north c t) t ≡ c
unfolding into_north out_of_north
out-into-north a {c} zero v z h = at_same c z (sym h) refl
out-into-north a {c} (suc zero) v z h = at_same c z (sym h) (omega arith)
out-into-north a {c} (suc (suc zero)) v z h = at_same c z (sym h) (omega arith)
out-into-north a {c} (suc (suc (suc t))) v z h = at_same c z (sym h) refl

pub out-into-south :
    (a : Arrangement) {c : Cell} (t : ℕ) → IsCell c → belt ((a.south + t) % 4) ≡ c.face → c.row + 1 ≡ rows c →
    out_of_south a (into_south c t) t ≡ c
unfolding into_south out_of_south
out-into-south a {c} zero v z h = at_same c z (omega arith) refl
out-into-south a {c} (suc zero) v z h = at_same c z (omega arith) refl
out-into-south a {c} (suc (suc zero)) v z h = at_same c z (omega arith) (omega arith)
out-into-south a {c} (suc (suc (suc t))) v z h = at_same c z (omega arith) (omega arith)

pub into-out-north :
    (a : Arrangement) {c : Cell} (d : ℕ) → IsCell c → c.face ≡ 0 → leaves c d ≡ true →
    into_north (out_of_north a c (turn_north d)) (turn_north d) ≡ c
unfolding into_north out_of_north leaves
into-out-north a {c} zero v z h = at_same c (sym z) (sym (eqb-true c.row 0 h)) (omega arith)
into-out-north a {c} (suc zero) v z h =
    let q = eqb-true (c.column + 1) (rows c) h in
    at_same c (sym z) (omega arith) (omega arith)
into-out-north a {c} (suc (suc zero)) v z h =
    let q = eqb-true (c.row + 1) (rows c) h in
    at_same c (sym z) (omega arith) refl
into-out-north a {c} (suc (suc (suc d))) v z h = at_same c (sym z) refl (sym (eqb-true c.column 0 h))

pub into-out-south :
    (a : Arrangement) {c : Cell} (d : ℕ) → IsCell c → c.face ≡ 5 → leaves c d ≡ true →
    into_south (out_of_south a c (turn_south d)) (turn_south d) ≡ c
unfolding into_south out_of_south leaves
into-out-south a {c} zero v z h = at_same c (sym z) (sym (eqb-true c.row 0 h)) refl
into-out-south a {c} (suc zero) v z h =
    let q = eqb-true (c.column + 1) (rows c) h in
    at_same c (sym z) refl (omega arith)
into-out-south a {c} (suc (suc zero)) v z h =
    let q = eqb-true (c.row + 1) (rows c) h in
    at_same c (sym z) (omega arith) (omega arith)
into-out-south a {c} (suc (suc (suc d))) v z h = at_same c (sym z) (omega arith) (sym (eqb-true c.column 0 h))
