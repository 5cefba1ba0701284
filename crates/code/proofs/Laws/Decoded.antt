-- What reading a code says: its parts or the cell, or that it is no cell's. Assumes nothing.
use Rattle.std.specs.Prelude.{◌≡◌, refl, ℕ, zero, suc, ◌/◌, Err, Ok, Result}
use Rattle.std.proofs.Common.{sym, ◌∙◌, subst, arith, ap}
use Rattle.logic.specs.Laws.Answer.{ok-is, err-is}
use Rattle.code.specs.declared.Parts.{Parts}
use Rattle.cell.specs.declared.Cell.{Cell}
use Rattle.cell.specs.Cell.{IsCell, found}
use Rattle.cell.proofs.Laws.Found.{found_at, found-refused}
use Rattle.code.specs.Code.{cell_coded, cell_of, path_in, code_refusal, cell_split, split}
use Rattle.code.proofs.Laws.Code.{a-code, four-refused, code-is-cell}

pub record Decoded (code : ℕ) (x : Cell) : Type 0 where
  pub allowed : code_refusal code ≡ 0
  pub is : x ≡ cell_of code
  pub cell : IsCell x

pub decoded : (code : ℕ) {f : Result Cell ℕ} {x : Cell} → f ≡ found (code_refusal code) (cell_of code) → f ≡ Ok x → Decoded code x
decoded code {x = x} e h =
    let p = found_at (code_refusal code) (cell_of code) x (sym h ∙ e) in
    record { allowed = p.0; is = p.1; cell = subst IsCell (sym p.1) (code-is-cell code (a-code code p.0)) }

pub undecoded : (code : ℕ) {f : Result Cell ℕ} {q : ℕ} → f ≡ found (code_refusal code) (cell_of code) → f ≡ Err q → code_refusal code ≡ 4
undecoded code {q = q} e h = four-refused code (found-refused (code_refusal code) (cell_of code) q (sym h ∙ e)).1

pub record Parted (code f k p : ℕ) : Type 0 where
  pub allowed : code_refusal code ≡ 0
  pub face : f ≡ (cell_of code).face
  pub resolution : k ≡ (cell_of code).resolution
  pub path : p ≡ path_in (code / 16)
  pub cell : IsCell (cell_of code)

pub parted : (code : ℕ) {s : Result Parts ℕ} {f k p : ℕ} → s ≡ split (code_refusal code) code → s ≡ Ok (record { face = f; resolution = k; path = p }) → Parted code f k p
unfolding cell_split cell_of cell_coded
parted code {f = f} {k = k} {p = p} e h = go (code_refusal code) refl (sym h ∙ e)
  where
    go : (r : ℕ) → code_refusal code ≡ r → Ok (record { face = f; resolution = k; path = p }) ≡ split r code → Parted code f k p
    go zero z g = record { allowed = z; face = ap (λ (x : Parts). x.face) (ok-is g); resolution = ap (λ (x : Parts). x.resolution) (ok-is g); path = ap (λ (x : Parts). x.path) (ok-is g); cell = code-is-cell code (a-code code z) }
    go (suc r) z g = let n : ◌≡◌ {A = ℕ} 0 1 = cc in absurd (omega arith)

pub unparted : (code : ℕ) {s : Result Parts ℕ} {q : ℕ} → s ≡ split (code_refusal code) code → s ≡ Err q → code_refusal code ≡ 4
unfolding cell_split
unparted code {q = q} e h = four-refused code (λ z. go (code_refusal code) z (sym h ∙ e))
  where
    go : (r : ℕ) → r ≡ 0 → Err q ≡ split r code → ⊥
    go zero z g = let n : ◌≡◌ {A = ℕ} 0 1 = cc in omega arith
    go (suc r) z g = omega arith

-- so 4 is what is handed on
pub refused-four : (code : ℕ) {s : Result Parts ℕ} {q : ℕ} → s ≡ split (code_refusal code) code → s ≡ Err q → q ≡ 4
unfolding cell_split
refused-four code e h = err-is (sym h ∙ e ∙ ap (λ (r : ℕ). cell_split r (code / 16)) (unparted code e h))
