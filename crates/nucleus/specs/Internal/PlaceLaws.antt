-- The ground nucleus by the cell: of the belt, of a cap, or at a pole. Assumes nothing.
use Rattle.std.specs.Prelude.{◌≡◌, refl, Bool, true, false, cond, ℕ, ◌+◌, ◌-◌, ◌*◌, ◌≤◌, ◌<◌, ltb}
use Rattle.std.proofs.Common.{sym, ◌∙◌, subst, ⊎_elim, arith, lt-ltb, le-ltb}
use Rattle.std.proofs.Math.Path.{ap}
use Rattle.cell.specs.declared.Cell.{Cell}
use Rattle.cell.specs.declared.Arrangement.{Arrangement}
use Rattle.cell.specs.Cell.{IsCell, IsArrangement}
use Rattle.cell.specs.Neighbour.{by_face, belt, rows}
use Rattle.cell.proofs.Laws.Turns.{face-cases}
use Rattle.nucleus.specs.declared.Fix.{Fix}
use Rattle.nucleus.specs.Nucleus.{fix, cap_longitude, belt_longitude, belt_z, ground_nucleus}
use Rattle.nucleus.specs.Internal.Caps.{cap_face, first_in, cap_z, cap_nucleus, row_seen, pole_of}
use Rattle.nucleus.specs.Internal.TriangleLaws.{start, centre-or}
use Rattle.nucleus.specs.Internal.Triangle.{middle, OffCentre, IsStart}
use Rattle.nucleus.specs.Internal.StartLaws.{centred-yes, cap-is, pole-is}

-- one of three by a face of O to R
pub by-belt {ℓ} : {A : Type ℓ} (f b : ℕ) (x : A) (y : ℕ → A) (z : A) → b < 4 → f ≡ belt b → by_face f x y z ≡ y b
by-belt f b x y z h e =
    ap (λ (t : Bool). cond t x (cond (ltb f 5) (y (f - 1)) z)) (le-ltb f 1 (omega arith))
    ∙ ap (λ (t : Bool). cond t (y (f - 1)) z) (lt-ltb f 5 (omega arith))
    ∙ ap y (omega arith)

pub first_small : {a : Arrangement} → IsArrangement a → (south : Bool) → first_in south a ≤ 3
first_small w true = w.southern
first_small w false = w.northern

start-of-seen :
    (south : Bool) (m a b : ℕ) → 0 < a → a < 2 * m → 0 < b → b < 2 * m → OffCentre m a b →
    (r : ℕ) × (h : ℕ) × (e : ℕ) × IsStart m a (row_seen south m b) r h e
start-of-seen true m a b ha la hb lb n = start m a (2 * m - b) ha la (omega arith) (omega arith) (λ x y. n x (omega arith))
start-of-seen false m a b ha la hb lb n = start m a b ha la hb lb n

module _ (a : Arrangement) (c : Cell) where
  -- 2i + 1 and 2j + 1
  abbrev row_in : ℕ
  row_in = 2 * c.row + 1

  abbrev column_in : ℕ
  column_in = 2 * c.column + 1

  abbrev in_cap : Bool → Fix
  in_cap south = cap_nucleus south (first_in south a) (rows c) (middle (rows c) column_in row_in)

  abbrev in_belt : ℕ → Fix
  in_belt b = fix (belt_longitude (rows c) b c.column) (belt_z (rows c) c.row)

  at-face : (f : ℕ) → c.face ≡ f → ground_nucleus a c ≡ by_face f (in_cap false) in_belt (in_cap true)
  unfolding ground_nucleus
  at-face f e = ap (λ (x : ℕ). by_face x (in_cap false) in_belt (in_cap true)) e

  pub on-cap : (south : Bool) → c.face ≡ cap_face south → ground_nucleus a c ≡ in_cap south
  on-cap true e = at-face 5 e
  on-cap false e = at-face 0 e

  pub on-belt : (b : ℕ) → b < 4 → c.face ≡ belt b → ground_nucleus a c ≡ in_belt b
  on-belt b h e = at-face c.face refl ∙ by-belt c.face b (in_cap false) in_belt (in_cap true) h e

  pub on-pole : (south : Bool) → c.face ≡ cap_face south → column_in ≡ rows c → row_in ≡ rows c → ground_nucleus a c ≡ pole_of south
  on-pole south f p q =
      on-cap south f ∙ pole-is south (first_in south a) (rows c) (middle (rows c) column_in row_in) (centred-yes (rows c) column_in row_in p q)

  -- what holds of the belt's, of a pole's and of each other cell's of a cap holds of the ground nucleus
  pub by_place :
      (P : Fix → Type 0) → IsCell c →
      ((b : ℕ) → b < 4 → c.face ≡ belt b → P (in_belt b)) →
      ((south : Bool) → c.face ≡ cap_face south → column_in ≡ rows c → row_in ≡ rows c → P (pole_of south)) →
      ((south : Bool) → c.face ≡ cap_face south → (r h e : ℕ) → IsStart (rows c) column_in (row_seen south (rows c) row_in) r h e →
      P (fix (cap_longitude (first_in south a) r h e) (cap_z south (rows c) h))) →
      P (ground_nucleus a c)
  by_place P v of_belt of_pole of_cap =
      face-cases c.face v.faced (on_cap false) (λ b h f. subst P (sym (on-belt b h f)) (of_belt b h f)) (on_cap true)
    where
      on_cap : (south : Bool) → c.face ≡ cap_face south → P (ground_nucleus a c)
      on_cap south f =
          let m : ℕ = rows c in
          let k = v.rowed in
          let l = v.columned in
          ⊎_elim (λ p. subst P (sym (on-pole south f p.0 p.1)) (of_pole south f p.0 p.1))
          (λ p.
          let s = start-of-seen south m column_in row_in (omega arith) (omega arith) (omega arith) (omega arith) p in
          subst P (sym (on-cap south f ∙ cap-is south (first_in south a) m column_in row_in s.0 s.1 s.2 (omega arith) s.3))
          (of_cap south f s.0 s.1 s.2 s.3))
          (centre-or m column_in row_in)
