-- A text answers yes for a cell exactly when every finest cell inside the cell is covered (01 "The coverage text": asking). Assumes nothing.
use Rattle.std.specs.Prelude.{◌≡◌, refl, ◌↔◌, Bool, true, false, ◌||◌, not, List, [], ◌∷◌, ℕ, ◌≤◌, ltb, length}
use Rattle.std.proofs.Common.{sym, ap, ◌∙◌, inl, inr, ⊎_elim, arith}
use Rattle.logic.specs.Laws.Bools.{or-either, clash}
use Rattle.logic.specs.Refusal.{refuse}
use Rattle.logic.specs.Laws.Refusal.{passes, either, other}
use Rattle.cell.specs.declared.Cell.{Cell}
use Rattle.cell.specs.declared.Arrangement.{Arrangement}
use Rattle.cell.specs.Cell.{IsCell}
use Rattle.code.specs.Code.{arrangement_of, is_code, is_of, code_refusal}
use Rattle.code.proofs.Laws.Code.{a-code, code-passes, four-refused, of-arrangement, arrangement-of}
use Rattle.code.specs.Inside.{lies_within}
use Rattle.code.proofs.Laws.Inside.{lies-inside, inside-lies}
use Rattle.reading.specs.declared.Level.{Level}
use Rattle.reading.specs.Reading.{Nodes, OfFaces}
use Rattle.reading.specs.Ground.{whole_cells, Covers, Cells}
use Rattle.reading.specs.Text.{Reads}
use Rattle.reading.specs.TextReading.{nodes_of, text_arrangement, is_text}
use Rattle.reading.proofs.Laws.TextReading.{reads-body}
use Rattle.reading.proofs.Laws.Demand.{whole_cells_lem, one_cell, all-covered}
use Rattle.reader.specs.Check.{text_refusal, other_version}
use Rattle.asking.specs.Ask.{AllCovered, any_within, ask_refusal}

-- ---- one whole cell has the cell inside

any-covers : (qs : List Cell) (x : Cell) → Cells qs → IsCell x → any_within qs x ≡ true → Covers qs x
unfolding any_within
any-covers [] x c w e = clash (sym e)
any-covers (q ∷ qs) x c w e =
    ⊎_elim (λ f. inl (lies-inside q x c.0 w f)) (λ f. inr (any-covers qs x c.1 w f)) (or-either (lies_within q x) (any_within qs x) e)

or-true : (a b : Bool) → b ≡ true → (a || b) ≡ true
or-true true b e = refl
or-true false b e = e

covers-any : (qs : List Cell) (x : Cell) → Cells qs → IsCell x → Covers qs x → any_within qs x ≡ true
unfolding any_within
covers-any [] x c w h = absurd h
covers-any (q ∷ qs) x c w (inl h) = ap (λ (b : Bool). b || any_within qs x) (inside-lies q x c.0 w h)
covers-any (q ∷ qs) x c w (inr h) = or-true (lies_within q x) (any_within qs x) (covers-any qs x c.1 w h)

-- ---- "whether all of one cell's finest cells are covered"

module _ {h : List ℕ} {l : Level} {d : ℕ} {t : List ℕ} {ns : Nodes} (f : OfFaces l) (m : d ≤ 15) (r : Reads h l d t ns) where
  -- yes exactly then
  pub asked-exactly : (x : Cell) → IsCell x → (any_within (whole_cells ns) x ≡ true → AllCovered (whole_cells ns) x) × (AllCovered (whole_cells ns) x → any_within (whole_cells ns) x ≡ true)
  asked-exactly x v =
      let cells = (whole_cells_lem f m r).0 in (
        (λ e. all-covered f m r x (any-covers (whole_cells ns) x cells v e)),
        (λ k. covers-any (whole_cells ns) x cells v (one_cell f m r x v k)),
      )

  -- a no leaves a finest cell out: not every one is covered
  pub partly-no : (x : Cell) → IsCell x → (AllCovered (whole_cells ns) x → ⊥) → any_within (whole_cells ns) x ≡ false
  partly-no x v k = go (any_within (whole_cells ns) x) refl
    where
      go : (b : Bool) → any_within (whole_cells ns) x ≡ b → b ≡ false
      go true e = absurd (k ((asked-exactly x v).0 e))
      go false e = refl

-- of a text
pub text-asked :
    (t : List ℕ) → is_text t ≡ true → (x : Cell) → IsCell x →
    (any_within (whole_cells (nodes_of t)) x ≡ true → AllCovered (whole_cells (nodes_of t)) x) × (AllCovered (whole_cells (nodes_of t)) x → any_within (whole_cells (nodes_of t)) x ≡ true)
text-asked t e x v = asked-exactly tt (omega arith) (reads-body t e) x v

-- ---- "14 also for .. a question of another arrangement" (02, W-210)

text-other : (t : List ℕ) → text_refusal t ≡ 14 → ⊥
unfolding text_refusal
text-other t e =
    ⊎_elim (other (ltb 65536 (length t)) 13 13 (λ z. omega arith))
    (λ k. ⊎_elim (other (other_version t) 10 13 (λ z. omega arith)) (λ m. other (not (is_text t)) 9 13 (λ z. omega arith) m.1) (either (refuse (other_version t) 10) _ k.1))
    (either (refuse (ltb 65536 (length t)) 13) _ e)

pub another-exactly : (t : List ℕ) (code : ℕ) → (ask_refusal t code ≡ 14) ↔ ((is_code code ≡ true) × (text_refusal t ≡ 0) × (arrangement_of code ≡ text_arrangement t → ⊥))
unfolding ask_refusal
another-exactly t code = (to, λ h. passes _ (code-passes code h.0) ∙ passes _ h.1 ∙ differs (is_of (text_arrangement t) code) refl h.2)
  where
    a : Arrangement
    a = text_arrangement t

    differs : (b : Bool) → is_of a code ≡ b → (arrangement_of code ≡ a → ⊥) → refuse (not b) 14 ≡ 14
    differs true e n = absurd (n (of-arrangement a code e))
    differs false e n = refl

    refused : (b : Bool) → is_of a code ≡ b → refuse (not b) 14 ≡ 14 → arrangement_of code ≡ a → ⊥
    refused true e h g = omega arith
    refused false e h g = clash (sym (arrangement-of a code g) ∙ e)

    to : ask_refusal t code ≡ 14 → (is_code code ≡ true) × (text_refusal t ≡ 0) × (arrangement_of code ≡ a → ⊥)
    to e =
        ⊎_elim (λ h. absurd (let f = four-refused code (λ z. omega arith) in omega arith))
        (λ k.
        ⊎_elim (λ h. absurd (text-other t h)) (λ m. (a-code code k.0, m.0, refused (is_of a code) refl m.1)) (either (text_refusal t) _ k.1))
        (either (code_refusal code) _ e)
