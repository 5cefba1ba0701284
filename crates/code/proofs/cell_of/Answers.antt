-- `code::cell_of` meets its contract. Assumes nothing.
use Rattle.std.specs.Prelude.{Ok, Err}
use mathlib.Core.Path.{◌≡◌, sym, ap, ◌∙◌}
use mathlib.Core.Bool.{true}
use Prim.Native.Nat.{ℕ, ◌/◌}
use Rattle.logic.specs.Laws.Answer.{handed-on}
use Rattle.ternary.specs.Weave.{row_in, column_in}
use Rattle.cell.specs.Cell.{found}
use Rattle.code.specs.Code.{cell_coded, is_cell_code, is_code, cell_of, code_refusal}
use Rattle.code.proofs.Laws.Code.{a-code}
use Rattle.code.proofs.Laws.Decoded.{parted, unparted, refused-four}
use Rattle.code.proofs.Laws.{path-below, row-sixteen, column-sixteen}
use Rattle.code.proofs.cell_of.Goals as goal

-- the cell's part of a code is one
is-cell : (code : ℕ) → code_refusal code ≡ 0 → is_cell_code (code / 16) ≡ true
unfolding is_code
is-cell code e = a-code code e

pub returns-in_err-parts : goal.returns-in_err-parts
unfolding found
returns-in_err-parts c =
    let a = c.args.code in
    let q = refused-four a c.parts_of.ensures c.in_err-parts.was in
    let r = unparted a c.parts_of.ensures c.in_err-parts.was in
    handed-on _ c.from_residual.ensures.1 ∙ ap Err q ∙ sym (ap (λ (x : ℕ). found x (cell_of a)) r)

pub unwoven-place-requires : goal.unwoven-place-requires
unwoven-place-requires c =
    let n = c in
    let p = parted n.args.code n.parts_of.ensures c.in_ok-parts.was in
    rw p.path (path-below (n.args.code / 16) (is-cell n.args.code p.allowed))

pub returns : goal.returns
unfolding cell_of cell_coded found
returns c =
    let n = c in
    let a = n.args.code in
    let p = parted a n.parts_of.ensures c.in_ok-parts.was in
    let t = is-cell a p.allowed in
    ap Ok
    (λ i. record {
      face = p.face i;
      resolution = p.resolution i;
      row = (c.unwoven-place.ensures.0 ∙ ap (row_in 16) p.path ∙ row-sixteen (a / 16) t) i;
      column = (c.unwoven-place.ensures.1 ∙ ap (column_in 16) p.path ∙ column-sixteen (a / 16) t) i;
    })
    ∙ sym (ap (λ (x : ℕ). found x (cell_of a)) p.allowed)
