-- "On a seam of two triangles the point counts as the western edge (t = -1/2) of the eastern one" (01 "From a fix to a cell"): the ground nucleus of a
-- cell whose middle lies on a diagonal of its cap has the longitude where the eastern triangle's face of O to R begins. Assumes nothing.
use Rattle.std.specs.Prelude.{◌≡◌, Bool, true, false, cond, ◌⊎◌, ℕ, ◌+◌, ◌-◌, ◌*◌, ◌/◌, ◌%◌, ◌<◌, pos, ◌+ℤ◌}
use Rattle.std.proofs.Common.{ap, ◌∙◌, subst, ⊎_elim, arith}
use Rattle.std.proofs.Math.Nat.{zero-div}
use Rattle.std.proofs.Math.IntN.{sub_ℕ}
use Rattle.logic.specs.Choice.{four}
use Rattle.logic.specs.Laws.Order.{lt-or}
use Rattle.signed.specs.Laws.Sign.{sub_at, sub_more}
use Rattle.cell.specs.declared.Cell.{Cell}
use Rattle.cell.specs.declared.Arrangement.{Arrangement}
use Rattle.cell.specs.Cell.{IsCell}
use Rattle.cell.specs.Neighbour.{rows}
use Rattle.cell.proofs.Laws.Turns.{four-cases}
use Rattle.locate.specs.Fix.{quarter}
use Rattle.nucleus.specs.declared.Fix.{Fix}
use Rattle.nucleus.specs.Nucleus.{cap_longitude, ground_nucleus}
use Rattle.nucleus.specs.Internal.Caps.{cap_face, first_in, row_seen}
use Rattle.nucleus.specs.Internal.TriangleLaws.{start-0, start-1, start-2, start-3}
use Rattle.nucleus.specs.Internal.Triangle.{IsStart}
use Rattle.nucleus.specs.Internal.StartLaws.{cap-is}
use Rattle.nucleus.specs.Internal.PlaceLaws.{on-cap}

-- the half diagonals of a face, from its centre to a corner: row and column are equal, or add up to m - 1
abbrev pub ToTopLeft : Cell → Type 0
ToTopLeft c = (c.row ≡ c.column) × (2 * c.column + 1 < rows c)

abbrev pub ToTopRight : Cell → Type 0
ToTopRight c = (c.row + c.column + 1 ≡ rows c) × (c.row < c.column)

abbrev pub ToBottomRight : Cell → Type 0
ToBottomRight c = (c.row ≡ c.column) × (rows c < 2 * c.column + 1)

abbrev pub ToBottomLeft : Cell → Type 0
ToBottomLeft c = (c.row + c.column + 1 ≡ rows c) × (c.column < c.row)

-- "The down, right, up and left edges of N meet turns 0 to 3; for S it is the up, right, down and left edges": the diagonal at which the triangle of
-- a turn begins in the west
abbrev pub SeamNorth : Cell → ℕ → Type 0
SeamNorth c turn = four turn (ToBottomLeft c) (ToBottomRight c) (ToTopRight c) (ToTopLeft c)

abbrev pub SeamSouth : Cell → ℕ → Type 0
SeamSouth c turn = four turn (ToTopLeft c) (ToTopRight c) (ToBottomRight c) (ToBottomLeft c)

-- every cell on a diagonal but the middle one is on one of these
pub on-diagonal :
    (c : Cell) → (c.row ≡ c.column) ⊎ (c.row + c.column + 1 ≡ rows c) → ((2 * c.row + 1 ≡ rows c) × (2 * c.column + 1 ≡ rows c) → ⊥) →
    ((r : ℕ) × (r < 4) × SeamNorth c r) × ((r : ℕ) × (r < 4) × SeamSouth c r)
on-diagonal c d n =
    ⊎_elim
    (λ e.
    ⊎_elim (λ l. ((3, omega arith, (e, l)), (0, omega arith, (e, l))))
    (λ l.
    ⊎_elim (λ k. ((1, omega arith, (e, k)), (2, omega arith, (e, k)))) (λ k. absurd (n (omega arith, omega arith)))
    (lt-or (rows c) (2 * c.column + 1)))
    (lt-or (2 * c.column + 1) (rows c)))
    (λ e.
    ⊎_elim (λ l. ((2, omega arith, (e, l)), (1, omega arith, (e, l))))
    (λ l.
    ⊎_elim (λ k. ((0, omega arith, (e, k)), (3, omega arith, (e, k)))) (λ k. absurd (n (omega arith, omega arith)))
    (lt-or c.column c.row))
    (lt-or c.row c.column))
    d

-- ---- the start of such a middle is at t = -1/2

-- the same diagonal by a = 2j + 1 and b = 2i + 1
abbrev Western : (m a b turn : ℕ) → Type 0
Western m a b turn = four turn ((a + b ≡ 2 * m) × (a < b)) ((a ≡ b) × (2 * m < a + b)) ((a + b ≡ 2 * m) × (b < a)) ((a ≡ b) × (a + b < 2 * m))

module _ (m a b : ℕ) (ha : 0 < a) (la : a < 2 * m) (hb : 0 < b) (lb : b < 2 * m) where
  along : {r h e : ℕ} → IsStart m a b r h e → e ≡ 0 → (h : ℕ) × IsStart m a b r h 0
  along {r} {h} s z = (h, subst (IsStart m a b r h) z s)

  west : (r : ℕ) → r < 4 → Western m a b r → (h : ℕ) × IsStart m a b r h 0
  west r l =
      four-cases (λ (x : ℕ). Western m a b x → (h : ℕ) × IsStart m a b x h 0)
      (λ d. along (start-0 m a b ha la hb lb (omega (arith, d.0)) d.1) (omega (arith, d.0)))
      (λ d. along (start-1 m a b ha la hb lb d.1 (omega (arith, d.0))) (omega (arith, d.0)))
      (λ d. along (start-2 m a b ha la hb lb (omega (arith, d.0)) d.1) (omega (arith, d.0)))
      (λ d. along (start-3 m a b ha la hb lb d.1 (omega (arith, d.0))) (omega (arith, d.0)))
      r
      l

module _ {c : Cell} (v : IsCell c) (r : ℕ) (l : r < 4) where
  abbrev a : ℕ
  a = 2 * c.column + 1

  abbrev b : Bool → ℕ
  b south = row_seen south (rows c) (2 * c.row + 1)

  west-of : (south : Bool) → cond south (SeamSouth c r) (SeamNorth c r) → (h : ℕ) × IsStart (rows c) a (b south) r h 0
  west-of true d =
      let y = v.rowed in
      let x = v.columned in
      west (rows c) a (b true) (omega arith) (omega arith) (omega arith) (omega arith) r l
      (four-cases (λ (t : ℕ). SeamSouth c t → Western (rows c) a (b true) t) (λ d. omega (arith, d)) (λ d. omega (arith, d)) (λ d. omega (arith, d)) (λ d. omega (arith, d)) r l d)
  west-of false d =
      let y = v.rowed in
      let x = v.columned in
      west (rows c) a (b false) (omega arith) (omega arith) (omega arith) (omega arith) r l
      (four-cases (λ (t : ℕ). SeamNorth c t → Western (rows c) a (b false) t) (λ d. omega (arith, d)) (λ d. omega (arith, d)) (λ d. omega (arith, d)) (λ d. omega (arith, d)) r l d)

-- ---- L + 1,800,000,000 is a multiple of 900,000,000, so that a is 0, and c is the face of the eastern triangle

-- at t = -1/2 the longitude is that of the face's western border
western : (n r h : ℕ) → cap_longitude n r h 0 +ℤ pos 1800000000 ≡ pos ((n + r) % 4 * quarter)
unfolding cap_longitude
western n r h =
    let e : 450000000 * 0 / h ≡ 0 = zero-div h in
    let x : ℕ = (n + r) % 4 * quarter in
    ap (λ (y : ℕ). sub_ℕ (x + y) 1800000000 +ℤ pos 1800000000) e
    ∙ sub_more (x + 0) 1800000000 1800000000
    ∙ sub_at (x + 0 + 1800000000) 1800000000 (omega arith)
    ∙ ap pos (omega arith)

module _ (a : Arrangement) {c : Cell} (r : ℕ) (v : IsCell c) (l : r < 4) where
  seam :
      (south : Bool) → c.face ≡ cap_face south → cond south (SeamSouth c r) (SeamNorth c r) →
      (ground_nucleus a c).longitude +ℤ pos 1800000000 ≡ pos ((first_in south a + r) % 4 * quarter)
  seam south f d =
      let s = west-of v r l south d in
      let k = v.rowed in
      let n : ℕ = first_in south a in
      ap (λ (x : Fix). x.longitude +ℤ pos 1800000000)
      (on-cap a c south f ∙ cap-is south n (rows c) (2 * c.column + 1) (2 * c.row + 1) r s.0 0 (omega arith) s.1)
      ∙ western n r s.0

  pub seam-north : c.face ≡ 0 → SeamNorth c r → (ground_nucleus a c).longitude +ℤ pos 1800000000 ≡ pos ((a.north + r) % 4 * quarter)
  seam-north f d = seam false f d

  pub seam-south : c.face ≡ 5 → SeamSouth c r → (ground_nucleus a c).longitude +ℤ pos 1800000000 ≡ pos ((a.south + r) % 4 * quarter)
  seam-south f d = seam true f d
