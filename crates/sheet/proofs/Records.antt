-- The record of a code: its cell was found, and its neighbours are cells. Assumes nothing.
use Rattle.std.specs.Prelude.{Err, Ok, Result}
use mathlib.Core.Path.{◌≡◌, sym, ◌∙◌, subst}
use mathlib.Core.Bool.{true}
use Prim.Native.Nat.{ℕ}
use Rattle.cell.specs.declared.Cell.{Cell}
use Rattle.cell.specs.Cell.{IsCell, found}
use Rattle.cell.proofs.Laws.Found.{found_at, found-refused}
use Rattle.cell.specs.Neighbour.{neighbour_of}
use Rattle.code.specs.Code.{code_of, is_code, cell_of, arrangement_of, code_refusal}
use Rattle.code.proofs.Laws.Code.{code-passes, code-is-cell, code-cell}
use Rattle.cell.specs.declared.Arrangement.{Arrangement}
use Rattle.sheet.specs.declared.Record.{Record}
use Rattle.sheet.specs.Sheet.{record_of}

module _ (code : ℕ) (v : is_code code ≡ true) where
  pub of_code : {f : Result Cell ℕ} {x : Cell} → f ≡ found (code_refusal code) (cell_of code) → f ≡ Ok x → x ≡ cell_of code
  of_code {x = x} e h = (found_at (code_refusal code) (cell_of code) x (sym h ∙ e)).1

  pub is-of-code : {f : Result Cell ℕ} {x : Cell} → f ≡ found (code_refusal code) (cell_of code) → f ≡ Ok x → IsCell x
  is-of-code e h = subst IsCell (sym (of_code e h)) (code-is-cell code v)

  pub not-no-code : {f : Result Cell ℕ} {q : ℕ} → f ≡ found (code_refusal code) (cell_of code) → f ≡ Err q → ⊥
  not-no-code {q = q} e h = (found-refused (code_refusal code) (cell_of code) q (sym h ∙ e)).1 (code-passes code v)

  -- the record that is made of a code and its cell's neighbours
  pub made :
      {a : Arrangement} {x : Cell} {u r d l : ℕ} → a ≡ arrangement_of code → x ≡ cell_of code →
      u ≡ code_of a (neighbour_of a x 0) → r ≡ code_of a (neighbour_of a x 1) → d ≡ code_of a (neighbour_of a x 2) → l ≡ code_of a (neighbour_of a x 3) →
      ◌≡◌ {A = Record} (record { code = code; up = u; right = r; down = d; left = l }) (record_of (arrangement_of code) (cell_of code))
  unfolding record_of
  made {a} {x} o e p q f g =
      let n : (j : ℕ) → code_of a (neighbour_of a x j) ≡ code_of (arrangement_of code) (neighbour_of (arrangement_of code) (cell_of code) j) =
      λ j. λ i. code_of (o i) (neighbour_of (o i) (e i) j) in
      λ i.
      record {
        code = sym (code-cell code v) i;
        up = (p ∙ n 0) i;
        right = (q ∙ n 1) i;
        down = (f ∙ n 2) i;
        left = (g ∙ n 3) i;
      }
