-- What W-204 says of the list, for every arrangement, cell and resolution: the codes of the cells that meet a cell at a corner and no others, rising,
-- and as many as the rule says. Assumes nothing.
use Rattle.std.specs.Prelude.{◌≡◌, ◌↔◌, true, ◌&&◌, eqb, length}
use Rattle.std.proofs.Math.Path.{sym, subst}
use Rattle.std.proofs.Common.{ap, ◌∙◌}
use Rattle.std.proofs.Math.Logic.{⊎_elim}
use Rattle.std.proofs.Math.Bool.{Bool, cond}
use Prim.Native.Nat.{ℕ, ◌+◌}
use native.Mathlib.Omega.{arith}
use borrow.Author.Tests.{eqb-true, eq-eqb, ne_eqb}
use Rattle.logic.specs.Laws.Order.{lt-or}
use Rattle.logic.specs.Lists.{Mem}
use Rattle.logic.specs.Rise.{Rise}
use Rattle.cell.specs.declared.Cell.{Cell}
use Rattle.cell.specs.declared.Arrangement.{Arrangement}
use Rattle.cell.specs.Cell.{IsCell, IsArrangement}
use Rattle.cell.specs.Neighbour.{rows, leaves}
use Rattle.code.specs.Code.{code_of, cell_of, arrangement_of, is_code}
use Rattle.code.proofs.Laws.Code.{code_one, code-cell, code-is-cell, code-arranged, cell-code, arrangement-code, cell-has-code}
use Rattle.corner.specs.Corner.{MeetsAtCorner, first_or_last, corner_number}
use Rattle.corner.specs.List.{face_corner, across_corner, first_corners, corner_codes, codes_at}
use Rattle.corner.proofs.Laws.Corner.{meets-mutual}
use Rattle.corner.proofs.Internal.Across.{meets-across, across-meets, across-cell, three-rows}
use Rattle.corner.proofs.Internal.Codes.{tally, first-rise, held_first, first-held, total, none}

-- "in rising code order"
pub corners-rise : (a : Arrangement) (c : Cell) → Rise (corner_codes a c)
unfolding corner_codes
corners-rise a c = first-rise a c 4

module _ {a : Arrangement} {c : Cell} (ok : IsArrangement a) (v : IsCell c) where
  -- each number in the list is the code, in this arrangement, of a cell that meets the cell at a corner
  pub listed-meets : (y : ℕ) → Mem y (corner_codes a c) → (x : Cell) × IsCell x × (code_of a x ≡ y) × MeetsAtCorner a c x
  unfolding corner_codes
  listed-meets y o =
      let r = first-held a c 4 y o in
      (across_corner a c r.0, across-cell ok v r.0 r.1 r.2, r.3, across-meets ok v r.0 r.1 r.2)

  meets-listed : {x : Cell} → MeetsAtCorner a c x → Mem (code_of a x) (corner_codes a c)
  unfolding corner_codes
  meets-listed m =
      let r = meets-across ok v m in
      subst (λ (z : Cell). Mem (code_of a z) (first_corners a c 4)) r.there (held_first a c 4 r.direction r.small r.wide)

  -- a cell is in the list exactly when it meets the cell at a corner
  pub listed-exactly : (x : Cell) → IsCell x → Mem (code_of a x) (corner_codes a c) ↔ MeetsAtCorner a c x
  listed-exactly x u = (
    (λ o. let r = listed-meets (code_of a x) o in subst (MeetsAtCorner a c) (code_one r.0 x ok ok r.1 u r.2).1 r.3),
    meets-listed,
  )

  -- "At resolution 0 the number is 0. Above that it is 3 for a cell in a corner of its face .., and 4 for every other cell, whatever its shape."
  pub corners-count : length (corner_codes a c) ≡ corner_number c
  unfolding corner_number face_corner leaves
  corners-count =
      let rule : Bool → ℕ = λ x. cond x 0 (cond (first_or_last (rows c) c.row && first_or_last (rows c) c.column) 3 4) in
      ⊎_elim
      (λ h.
      let t = three-rows ok v h in
      total a c ok v ∙ tally (eqb c.row 0) (eqb (c.column + 1) (rows c)) (eqb (c.row + 1) (rows c)) (eqb c.column 0)
      (λ x y. let p = eqb-true c.row 0 x in let q = eqb-true (c.row + 1) (rows c) y in omega arith)
      (λ x y. let p = eqb-true (c.column + 1) (rows c) x in let q = eqb-true c.column 0 y in omega arith)
      ∙ sym (ap rule (ne_eqb c.resolution 0 (omega arith))))
      (λ h. let z : c.resolution ≡ 0 = omega arith in none a c ok v z ∙ sym (ap rule (eq-eqb c.resolution 0 z)))
      (lt-or 0 c.resolution)

-- ---- the same of codes

module _ (code : ℕ) (i : is_code code ≡ true) where
  -- a number is listed exactly when it is the code, of the same arrangement, of a cell that meets the code's cell at a corner
  pub code-listed :
      (y : ℕ) →
      Mem y (codes_at code) ↔ ((is_code y ≡ true) × (arrangement_of y ≡ arrangement_of code) × MeetsAtCorner (arrangement_of code) (cell_of code) (cell_of y))
  code-listed y = (
    (λ o.
        let r = listed-meets ok v y o in
        let e = r.2 in (
          subst (λ (z : ℕ). is_code z ≡ true) e (cell-has-code ok r.0 r.1),
          ap arrangement_of (sym e) ∙ arrangement-code ok r.0 r.1,
          subst (MeetsAtCorner a (cell_of code)) (sym (cell-code ok r.0 r.1) ∙ ap cell_of e) r.3,
        )),
    (λ h.
        let e : code_of a (cell_of y) ≡ y = ap (λ (b : Arrangement). code_of b (cell_of y)) (sym h.1) ∙ code-cell y h.0 in
        subst (λ (z : ℕ). Mem z (codes_at code)) e (meets-listed ok v h.2)),
  )
    where
      a : Arrangement
      a = arrangement_of code

      ok : IsArrangement (arrangement_of code)
      ok = code-arranged code

      v : IsCell (cell_of code)
      v = code-is-cell code i

-- so the listing is mutual
pub listed-mutual : (code y : ℕ) → is_code code ≡ true → Mem y (codes_at code) → Mem code (codes_at y)
listed-mutual code y i o =
    let h = (code-listed code i y).0 o in
    let m = meets-mutual (code-arranged code) (code-is-cell code i) h.2 in
    (code-listed y h.0 code).1 (i, sym h.1, subst (λ (b : Arrangement). MeetsAtCorner b (cell_of y) (cell_of code)) (sym h.1) m)
