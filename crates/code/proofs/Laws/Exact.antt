-- 4 is given exactly to the numbers that are no cell's code (01 "Refusal numbers"). Assumes nothing.
use Rattle.std.specs.Prelude.{◌≡◌, refl, ◌↔◌, Bool, true, false, ℕ}
use Rattle.std.proofs.Common.{sym, ap, ◌∙◌, arith}
use Rattle.logic.specs.Laws.Bools.{clash}
use Rattle.cell.specs.declared.Cell.{Cell}
use Rattle.cell.specs.declared.Arrangement.{Arrangement}
use Rattle.cell.specs.Cell.{IsCell, IsArrangement}
use Rattle.code.specs.Code.{code_of, cell_of, arrangement_of, is_code, code_refusal}
use Rattle.code.proofs.Laws.Code.{cell-has-code, code-is-cell, code-cell, code-arranged, code-passes, code-stops}

-- "a code is no cell's", in no arrangement
abbrev pub NoCell : ℕ → Type 0
NoCell code = (a : Arrangement) (c : Cell) → IsArrangement a → IsCell c → code_of a c ≡ code → ⊥

-- the test by which it is found out
pub no_cell : (code : ℕ) → is_code code ≡ false → NoCell code
no_cell code e a c g v h = clash (sym (ap is_code (sym h) ∙ cell-has-code g c v) ∙ e)

pub some-cell : (code : ℕ) → is_code code ≡ true → NoCell code → ⊥
some-cell code e h = h (arrangement_of code) (cell_of code) (code-arranged code) (code-is-cell code e) (code-cell code e)

pub four-exactly : (code : ℕ) → (code_refusal code ≡ 4) ↔ NoCell code
four-exactly code = (λ e. go (is_code code) refl e, λ h. back (is_code code) refl h)
  where
    go : (t : Bool) → is_code code ≡ t → code_refusal code ≡ 4 → NoCell code
    go true e f = absurd (let z = code-passes code e in omega arith)
    go false e f = no_cell code e

    back : (t : Bool) → is_code code ≡ t → NoCell code → code_refusal code ≡ 4
    back true e h = absurd (some-cell code e h)
    back false e h = code-stops code e
