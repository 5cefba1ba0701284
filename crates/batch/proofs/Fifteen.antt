-- Fifteen digits, of which the first are zeros; the code of a cell whose path was woven. Assumes nothing.
use mathlib.Core.Path.{◌≡◌, sym, ap, ◌∙◌}
use mathlib.Core.Bool.{true}
use Prim.Native.Nat.{ℕ, ◌+◌, ◌-◌, ◌/◌, ◌%◌, ◌^◌, ◌≤◌, ◌<◌}
use native.Mathlib.Omega.{arith}
use Rattle.ternary.proofs.Laws.Powers.{nine-le}
use Rattle.ternary.specs.Weave.{weave, row_in, column_in}
use Rattle.ternary.proofs.Laws.Weave.{weave_more, row_more, column-more}
use Rattle.cell.specs.declared.Cell.{Cell}
use Rattle.cell.specs.declared.Arrangement.{Arrangement}
use Rattle.cell.specs.Cell.{IsCell}
use Rattle.code.specs.Code.{is_cell_code, is_code, code_refusal, path_of, path_in, cell_code, code_at, code_of}
use Rattle.code.proofs.Laws.Code.{a-code, path-weave, path-in-small}

fifteen : (k : ℕ) → k ≤ 15 → 15 ≡ k + (15 - k)
fifteen k h = omega arith

module _ (c : Cell) (v : IsCell c) where
  pub path-fifteen : weave 15 c.row c.column ≡ path_of c
  path-fifteen =
      ap (λ (x : ℕ). weave x c.row c.column) (fifteen c.resolution v.fine)
      ∙ weave_more c.resolution (15 - c.resolution) c.row c.column v.rowed v.columned ∙ sym (path-weave c)

  pub woven-code : (a : Arrangement) {path : ℕ} → path ≡ weave 15 c.row c.column → code_at a c.face c.resolution path ≡ code_of a c
  unfolding code_at code_of cell_code
  woven-code a e = ap (code_at a c.face c.resolution) (e ∙ path-fifteen)

module _ (code : ℕ) (e : code_refusal code ≡ 0) where
  is-cell : is_cell_code (code / 16) ≡ true
  unfolding is_code
  is-cell = a-code code e

  sum : 15 ≡ 15 - code / 16 % 16 + code / 16 % 16
  sum = omega arith

  pub path-below : path_in (code / 16) < 205891132094649
  path-below =
      let p : 9 ^ (code / 16 % 16) ≤ 205891132094649 = nine-le {i = code / 16 % 16} {j = 15} (omega arith) in
      omega (arith, path-in-small (code / 16) is-cell)

  pub row-fifteen : row_in 15 (path_in (code / 16)) ≡ row_in (code / 16 % 16) (path_in (code / 16))
  row-fifteen =
      ap (λ (x : ℕ). row_in x (path_in (code / 16))) sum
      ∙ row_more (code / 16 % 16) (15 - code / 16 % 16) (path_in (code / 16)) (path-in-small (code / 16) is-cell)

  pub column-fifteen : column_in 15 (path_in (code / 16)) ≡ column_in (code / 16 % 16) (path_in (code / 16))
  column-fifteen =
      ap (λ (x : ℕ). column_in x (path_in (code / 16))) sum
      ∙ column-more (code / 16 % 16) (15 - code / 16 % 16) (path_in (code / 16)) (path-in-small (code / 16) is-cell)
