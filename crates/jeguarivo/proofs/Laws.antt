-- How the entries' answers follow from those of the crates below. Assumes nothing.
use Rattle.std.specs.Prelude.{Err, Ok, Result}
use mathlib.Core.Path.{◌≡◌, refl, sym, ap, ap₂, ◌∙◌, subst}
use Prim.Native.Nat.{ℕ, zero, suc}
use native.Mathlib.Omega.{arith}
use Rattle.logic.specs.Refusal.{◌otherwise◌, given}
use Rattle.logic.specs.Laws.Refusal.{passes, given-value, given-none}
use Rattle.cell.specs.declared.Cell.{Cell}
use Rattle.cell.specs.declared.Arrangement.{Arrangement}
use Rattle.cell.specs.Cell.{IsCell, IsArrangement, cell_refusal, found}
use Rattle.cell.proofs.Laws.Cell.{cell-is}
use Rattle.cell.proofs.Laws.Found.{found-refused}
use Rattle.code.specs.Code.{code_of, cell_of, arrangement_of, code_refusal, coded, found_code}
use Rattle.code.proofs.Laws.Code.{code-arranged, found-coded}
use Rattle.code.proofs.Laws.Decoded.{Decoded, decoded}
use Rattle.entries.specs.Entries.{code_answer, coded_answer, placed_answer}

-- ---- codes as answers

-- a refusal, and zero beside it
pub code-refused : {r q : ℕ} (code : ℕ) → r ≡ q → (r ≡ 0 → ⊥) → record { refusal = r; code = 0 } ≡ code_answer q code
unfolding code_answer coded
code-refused {r = zero} code e h = absurd (h refl)
code-refused {r = suc r} code e h = ap (λ (x : ℕ). code_answer x code) e

-- a code, and zero before it
pub code-given : {r x code : ℕ} → r ≡ 0 → x ≡ code → record { refusal = 0; code = x } ≡ code_answer r code
unfolding code_answer coded
code-given e h = ap₂ code_answer (sym e) h

-- the code of a found cell
pub found-code : (a : Arrangement) (r : ℕ) (c : Cell) → coded_answer (found_code a (found r c)) ≡ code_answer r (code_of a c)
unfolding code_answer
found-code a r c = ap coded_answer (found-coded a r c)

-- 4, whatever would come next
pub four-first : {r : ℕ} (q : ℕ) → r ≡ 4 → 4 ≡ r otherwise q
unfolding ◌otherwise◌
four-first q e = sym (ap (λ (x : ℕ). x otherwise q) e)

-- a test that refuses nothing leaves the answer as it is
pub next-code : {r : ℕ} (q code : ℕ) → r ≡ 0 → code_answer q code ≡ code_answer (r otherwise q) code
next-code q code e = ap (λ (x : ℕ). code_answer x code) (sym (passes q e))

-- a value beside no refusal, and a zero beside 4
pub value-given {ℓ} : {A : Type ℓ} {r : ℕ} {x y : A} (none : A) → r ≡ 0 → x ≡ y → x ≡ given r y none
value-given {y = y} none e h = h ∙ sym (given-value y none e)

pub zero-given {ℓ} : {A : Type ℓ} {r : ℕ} (y none : A) → r ≡ 4 → none ≡ given r y none
zero-given {r = r} y none e = sym (given-none r y none (λ z. omega arith))

-- the cell of a code is one, so what comes next decides
pub cell-next : {code : ℕ} {x : Cell} → Decoded code x → (q : ℕ) → code_refusal code otherwise cell_refusal (cell_of code) otherwise q ≡ q
cell-next d q = passes _ d.allowed ∙ passes q (cell-is (subst IsCell d.is d.cell))

-- ---- what is told of a code's cell: 4, or the value

module _ (code : ℕ) {f : Result Cell ℕ} (e : f ≡ found (code_refusal code) (cell_of code)) where
  module _ {x : Cell} {a : Arrangement} (h : f ≡ Ok x) (g : a ≡ arrangement_of code) where
    pub placed-stands : IsArrangement a × IsCell x
    placed-stands = (subst IsArrangement (sym g) (code-arranged code), (decoded code e h).cell)

    pub placed-value {ℓ} : {A : Type ℓ} (value : Arrangement → Cell → A) (none : ℕ → A) {y : A} → y ≡ value a x → y ≡ placed_answer code value none
    unfolding placed_answer
    placed-value of none v = let d = decoded code e h in value-given (none (code_refusal code)) d.allowed (v ∙ ap₂ of g d.is)

  pub placed-none {ℓ} : {A : Type ℓ} (value : Arrangement → Cell → A) (none : ℕ → A) {q : ℕ} → f ≡ Err q → none q ≡ placed_answer code value none
  unfolding placed_answer
  placed-none of none {q} h =
      let r = code_refusal code in
      let p = found-refused r (cell_of code) q (sym h ∙ e) in
      ap none p.0 ∙ sym (given-none r (of (arrangement_of code) (cell_of code)) (none r) p.1)
