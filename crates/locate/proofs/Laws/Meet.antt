-- The table of neighbours (01 "Neighbours and shapes") and the turns of the caps (01 "From a fix to a cell") agree. Laid over face c of O to R, a cap
-- has a cell right across the edge from each cell of that face's border; its middle, turned as a fix of face c is turned, is the middle of the cell
-- that the table leads to. So it is on the way out of a cap too. Assumes nothing.
use Rattle.std.specs.Prelude.{◌≡◌, refl, true, ℤ, pos, neg_ℤ}
use Rattle.std.proofs.Common.{sym, ◌∙◌, mul_assoc, mul_comm, mul_left_comm, arith, eq-eqb, le-leb}
use Rattle.std.proofs.Math.Path.{ap, subst}
use Prim.Native.Nat.{ℕ, zero, suc, ◌+◌, ◌-◌, ◌*◌, ◌/◌, ◌%◌, ◌^◌, ◌≤◌, ◌<◌}
use Rattle.std.proofs.Math.IntN.{sub_ℕ, neg_ℤ-neg_ℤ}
use Rattle.std.proofs.lemmas.Bool.{lt-leb}
use Rattle.signed.specs.Laws.Sign.{pos-sub, neg-sub, sub_same, sub-neg}
use Rattle.cell.specs.declared.Cell.{Cell}
use Rattle.cell.specs.declared.Arrangement.{Arrangement}
use Rattle.cell.specs.Cell.{IsCell, IsArrangement}
use Rattle.cell.specs.Neighbour.{rows, belt, turn_of, turn_north, turn_south, leaves, into_north, into_south, out_of_belt, out_of_north, out_of_south, neighbour_of}
use Rattle.cell.proofs.Laws.Turns.{lands-north, lands-south}
use Rattle.cell.proofs.Internal.Seams.{leads-belt, leads-north, leads-south}
use Rattle.cell.proofs.Laws.Neighbour.{neighbour-is-cell, back-returns}
use Rattle.root.specs.Floor.{IsFloor}
use Rattle.root.specs.Laws.Plain.{at-most-plain}
use Rattle.locate.specs.Fix.{CapPoint, quarter, start_north, start_south, turned_north, turned_south}

-- the middle of a cell, from the middle of its face and in units of 1/2m of the face's side: column m (1/2 + p) is j + 1/2, row m (1/2 - q) is i + 1/2
unfoldable pub middle_in : Cell → CapPoint
middle_in c = (sub_ℕ (2 * c.column + 1) (rows c), sub_ℕ (rows c) (2 * c.row + 1))

-- in the same units, half a cell from where h = 1, the middle of the cell across the upper edge, "(t h, -h/2)", and across the lower, "(t h, +h/2)"
unfoldable pub over_edge : Cell → CapPoint
over_edge c = (sub_ℕ (2 * c.column + 1) (rows c), sub_ℕ 1 (rows c))

unfoldable pub under_edge : Cell → CapPoint
under_edge c = (sub_ℕ (2 * c.column + 1) (rows c), sub_ℕ (rows c) 1)

-- ---- at the cap's edge, where h = 1, a start that is not turned is in the belt's own column, on the edge: N's rows end there, and S's begin

edge-floor :
    (m x y w : ℕ) → 900000000000000000 * (2 * w) + 1000000000 * (m * y) ≤ 1000000000 * (m * x) + 900000000000000000 * m →
    1000000000 * (m * x) + 900000000000000000 * m < 900000000000000000 * (2 * (w + 1)) + 1000000000 * (m * y) → IsFloor m (10 ^ 18) (sub_ℕ x y) w
edge-floor m x y w h l =
    record { below = at-most-plain m 1000000000 w x y ∙ le-leb _ _ h; above = at-most-plain m 1000000000 (w + 1) x y ∙ lt-leb _ _ l }

edge-column : (m a : ℕ) → IsFloor m (10 ^ 18) (sub_ℕ (2 * a) quarter) (a * m / quarter)
edge-column m a =
    let e : m * (2 * a) ≡ 2 * (a * m) = simp (mul_assoc, mul_comm, mul_left_comm) in
    edge-floor m (2 * a) quarter (a * m / quarter) (omega arith) (omega arith)

module _ (m a : ℕ) where
  pub edge-north : IsFloor m (10 ^ 18) (start_north a).0 (a * m / quarter) × IsFloor m (10 ^ 18) (neg_ℤ (start_north a).1) m
  unfolding start_north
  edge-north =
      (edge-column m a, subst (λ (p : ℤ). IsFloor m (10 ^ 18) p m) (sym (neg_ℤ-neg_ℤ (pos quarter) ∙ pos-sub quarter)) (edge-floor m quarter 0 m (omega arith) (omega arith)))

  pub edge-south : IsFloor m (10 ^ 18) (start_south a).0 (a * m / quarter) × IsFloor m (10 ^ 18) (neg_ℤ (start_south a).1) 0
  unfolding start_south
  edge-south = (edge-column m a, subst (λ (p : ℤ). IsFloor m (10 ^ 18) p 0) (sym (neg-sub quarter)) (edge-floor m 0 quarter 0 (omega arith) (omega arith)))

-- ---- the table's lines

pair : {a b c d : ℤ} → a ≡ c → b ≡ d → ◌≡◌ {A = CapPoint} (a, b) (c, d)
pair p q = λ i. (p i, q i)

turned-north : {c : Cell} (t : ℕ) → t < 4 → IsCell c → turned_north t (over_edge c) ≡ middle_in (into_north c t)
unfolding turned_north into_north middle_in over_edge
turned-north {c} zero l v = let h = v.columned in pair refl (sub_same 1 (rows c) (rows c) (2 * (rows c - 1) + 1) (omega arith))
turned-north {c} (suc zero) l v =
    let h = v.columned in
    pair (sub-neg 1 (rows c) ∙ sub_same (rows c) 1 (2 * (rows c - 1) + 1) (rows c) (omega arith))
    (sub_same (2 * c.column + 1) (rows c) (rows c) (2 * (rows c - 1 - c.column) + 1) (omega arith))
turned-north {c} (suc (suc zero)) l v =
    let h = v.columned in
    pair (sub-neg (2 * c.column + 1) (rows c) ∙ sub_same (rows c) (2 * c.column + 1) (2 * (rows c - 1 - c.column) + 1) (rows c) (omega arith))
    (sub-neg 1 (rows c))
turned-north {c} (suc (suc (suc zero))) l v =
    pair (ap neg_ℤ (sub-neg 1 (rows c)) ∙ sub-neg (rows c) 1) (sub-neg (2 * c.column + 1) (rows c))
turned-north {c} (suc (suc (suc (suc t)))) l v = absurd (omega arith)

turned-south : {c : Cell} (t : ℕ) → t < 4 → IsCell c → turned_south t (under_edge c) ≡ middle_in (into_south c t)
unfolding turned_south into_south middle_in under_edge
turned-south {c} zero l v = refl
turned-south {c} (suc zero) l v =
    let h = v.columned in
    pair (sub_same (rows c) 1 (2 * (rows c - 1) + 1) (rows c) (omega arith)) (sub-neg (2 * c.column + 1) (rows c))
turned-south {c} (suc (suc zero)) l v =
    let h = v.columned in
    pair (sub-neg (2 * c.column + 1) (rows c) ∙ sub_same (rows c) (2 * c.column + 1) (2 * (rows c - 1 - c.column) + 1) (rows c) (omega arith))
    (sub-neg (rows c) 1 ∙ sub_same 1 (rows c) (rows c) (2 * (rows c - 1) + 1) (omega arith))
turned-south {c} (suc (suc (suc zero))) l v =
    let h = v.columned in
    pair (sub-neg (rows c) 1)
    (ap neg_ℤ (sub-neg (2 * c.column + 1) (rows c))
    ∙ sub-neg (rows c) (2 * c.column + 1)
    ∙ sub_same (2 * c.column + 1) (rows c) (rows c) (2 * (rows c - 1 - c.column) + 1) (omega arith))
turned-south {c} (suc (suc (suc (suc t)))) l v = absurd (omega arith)

-- ---- out of face b of O to R: up into N, turn (b - n) mod 4, and down into S, turn (b - s) mod 4

module _ (a : Arrangement) {c : Cell} (b : ℕ) (v : IsCell c) (k : b < 4) (f : c.face ≡ belt b) where
  pub meets-north :
      c.row ≡ 0 → ((neighbour_of a c 0).face ≡ 0) × (turned_north (turn_of b a.north) (over_edge c) ≡ middle_in (neighbour_of a c 0))
  unfolding out_of_belt leaves
  meets-north h =
      let e : neighbour_of a c 0 ≡ into_north c (turn_of b a.north) = (leads-belt a c 0 b k f (eq-eqb c.row 0 h)).there in
      (ap (λ (x : Cell). x.face) e ∙ (lands-north (turn_of b a.north) v).face, turned-north (turn_of b a.north) (omega arith) v ∙ ap middle_in (sym e))

  pub meets-south :
      c.row + 1 ≡ rows c → ((neighbour_of a c 2).face ≡ 5) × (turned_south (turn_of b a.south) (under_edge c) ≡ middle_in (neighbour_of a c 2))
  unfolding out_of_belt leaves
  meets-south h =
      let e : neighbour_of a c 2 ≡ into_south c (turn_of b a.south) = (leads-belt a c 2 b k f (eq-eqb (c.row + 1) (rows c) h)).there in
      (ap (λ (x : Cell). x.face) e ∙ (lands-south (turn_of b a.south) v).face, turned-south (turn_of b a.south) (omega arith) v ∙ ap middle_in (sym e))

-- ---- back, over each edge of N and of S: to the border of a face b of O to R, whose cell across the edge, turned, is the cell that was left

-- x is on the upper or lower border of face b
pub record OnBorder (b row : ℕ) (x : Cell) : Type 0 where
  pub few : b < 4
  pub face : x.face ≡ belt b
  pub border : x.row ≡ row

module _ {a : Arrangement} {c : Cell} (d : ℕ) (w : IsArrangement a) (v : IsCell c) (l : d < 4) (h : leaves c d ≡ true) where
  pub out-of-north :
      c.face ≡ 0 →
      (b : ℕ) × OnBorder b 0 (neighbour_of a c d) × (turned_north (turn_of b a.north) (over_edge (neighbour_of a c d)) ≡ middle_in c)
  unfolding out_of_north
  out-of-north f =
      let s = leads-north a c d f h in
      let b : ℕ = (a.north + turn_north d) % 4 in
      let x : Cell = neighbour_of a c d in
      let o : OnBorder b 0 x = record { few = omega arith; face = ap (λ (y : Cell). y.face) s.there; border = ap (λ (y : Cell). y.row) s.there } in
      let r : neighbour_of a x 0 ≡ c = subst (λ (y : ℕ). neighbour_of a x y ≡ c) s.back (back-returns d w v l) in
      (b, o, (meets-north a b (neighbour-is-cell d w v l) o.few o.face o.border).1 ∙ ap middle_in r)

  pub out-of-south :
      c.face ≡ 5 →
      (b : ℕ) × OnBorder b (rows c - 1) (neighbour_of a c d) × (turned_south (turn_of b a.south) (under_edge (neighbour_of a c d)) ≡ middle_in c)
  unfolding out_of_south
  out-of-south f =
      let s = leads-south a c d f h in
      let b : ℕ = (a.south + turn_south d) % 4 in
      let x : Cell = neighbour_of a c d in
      let o : OnBorder b (rows c - 1) x = record { few = omega arith; face = ap (λ (y : Cell). y.face) s.there; border = ap (λ (y : Cell). y.row) s.there } in
      let k : rows x ≡ rows c = ap (λ (y : Cell). rows y) s.there in
      let r : neighbour_of a x 2 ≡ c = subst (λ (y : ℕ). neighbour_of a x y ≡ c) s.back (back-returns d w v l) in
      (b, o, (meets-south a b (neighbour-is-cell d w v l) o.few o.face (omega (arith, o.border, v.rowed))).1 ∙ ap middle_in r)
