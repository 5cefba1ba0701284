-- Asking by name: the code of a name is of the arrangement that it is read in, and what `coverage summary FILE NAME` prints of a cell of resolution 0 to 2 is
-- what `coverage ask FILE NAME` prints. Assumes nothing.
use Rattle.std.specs.Prelude.{◌≡◌, Bool, true, false, not, cond, List, [], ◌∷◌, length, Err, Ok, Result}
use Rattle.std.proofs.Math.Path.{refl}
use Rattle.std.proofs.Common.{sym, ap, ◌∙◌, arith, le-ltb, cond}
use Rattle.reading.specs.declared.Refused.{Refused}
use Rattle.asking.specs.declared.Asked.{Asked}
use Prim.Native.Nat.{ℕ, zero, suc, ◌+◌, ◌≤◌}
use Rattle.logic.specs.Refusal.{refuse, ◌otherwise◌}
use Rattle.logic.specs.Laws.Refusal.{passes, stops}
use Rattle.cell.specs.declared.Arrangement.{Arrangement}
use Rattle.cell.specs.Cell.{IsArrangement}
use Rattle.cell.proofs.Laws.Cell.{arrangement-is}
use Rattle.code.specs.Code.{is_code, is_of, cell_of, arrangement_of, code_refusal}
use Rattle.code.proofs.Laws.Code.{arrangement-of, arrangement-code, code-is-cell, code-passes}
use Rattle.name.specs.Name.{name_refusal, name_code}
use Rattle.name.specs.Laws.Name.{accepted, length-name, name-code, name-code-is, code-name}
use Rattle.reading.specs.Ground.{whole_cells}
use Rattle.reading.specs.TextReading.{nodes_of, text_arrangement}
use Rattle.reading.proofs.Laws.TextReading.{text-arranged}
use Rattle.reader.specs.Check.{text_refusal}
use Rattle.reader.specs.Laws.Answer.{text-read}
use Rattle.asking.specs.Ask.{asked, ask_refusal}
use Rattle.report.specs.Lines.{asked_line}
use Rattle.summary.specs.Summary.{counters_of, question_refusal, questioned}
use Rattle.summary.proofs.Laws.Summary.{as_question, question-agrees}
use Rattle.districts.specs.Question.{name_question_refusal, questioned_name, question_line}
use Rattle.coverage.specs.Printed.{asked_name}

module _ (a : Arrangement) (g : IsArrangement a) (name : List ℕ) (e : name_refusal name ≡ 0) where
  pub named-code : is_code (name_code a name) ≡ true
  named-code = name-code-is name g (accepted name e)

  -- the code of a name is of the arrangement that the name was read in
  pub named_in : is_of a (name_code a name) ≡ true
  named_in =
      arrangement-of a (name_code a name) (
      ap arrangement_of (ap (name_code a) (sym (code-name name g (accepted name e))) ∙ name-code a (cell_of (name_code a name)))
      ∙ arrangement-code g (cell_of (name_code a name)) (code-is-cell (name_code a name) named-code)
      )

  -- the cell's resolution is the number of digits
  pub named-fine : length name ≡ (cell_of (name_code a name)).resolution + 1
  named-fine = sym (ap length (code-name name g (accepted name e))) ∙ length-name (cell_of (name_code a name))

-- the same words for the same answers
same-words : (x : Result Asked Refused) → question_line (as_question x) ≡ asked_line x
unfolding question_line asked_line
same-words (Ok x) = of x.covered
  where
    of : (b : Bool) → question_line (Ok b) ≡ cond b (121 ∷ 101 ∷ 115 ∷ 10 ∷ []) (110 ∷ 111 ∷ 10 ∷ [])
    of true = refl
    of false = refl
same-words (Err e) = refl

module _ (t name : List ℕ) where
  abbrev code : ℕ
  code = name_code (text_arrangement t) name

  -- a name of at most two digits, and a text that is accepted: no refusal is left
  module _ (short : length name ≤ 3) (e : name_refusal name ≡ 0) (ok : text_refusal t ≡ 0) where
    g : IsArrangement (text_arrangement t)
    g = text-arranged t (text-read t ok)

    own : refuse (not (is_of (text_arrangement t) code)) 14 ≡ 0
    own = ap (λ (b : Bool). refuse (not b) 14) (named_in (text_arrangement t) g name e)

    passed : code_refusal code ≡ 0
    passed = code-passes code (named-code (text_arrangement t) g name e)

    none-asked : ask_refusal t code ≡ 0
    unfolding ask_refusal
    none-asked = passes _ passed ∙ passes _ ok ∙ own

    none-questioned : question_refusal (text_arrangement t) code ≡ 0
    unfolding question_refusal
    none-questioned =
        passes _ (arrangement-is g) ∙ passes _ passed
        ∙ passes _ (ap (λ (b : Bool). refuse b 2) (le-ltb 2 (cell_of code).resolution (omega (arith, named-fine (text_arrangement t) g name e))))
        ∙ own

    same_answer : questioned 0 (counters_of (whole_cells (nodes_of t))) code ≡ as_question (asked 0 t code)
    same_answer =
        ap (λ (q : ℕ). questioned q (counters_of (whole_cells (nodes_of t))) code) (sym none-questioned)
        ∙ question-agrees t ok code (λ z. let y : ◌≡◌ {A = ℕ} 0 2 = sym none-questioned ∙ z in omega arith)
        ∙ ap (λ (q : ℕ). as_question (asked q t code)) none-asked

  -- "and agree with asking the text": the two commands print the same line
  pub summary-as-ask : length name ≤ 3 → question_line (questioned_name t name) ≡ asked_line (asked_name t name)
  unfolding questioned_name name_question_refusal questioned asked_name asked question_line asked_line ◌otherwise◌
  summary-as-ask short = by_name (name_refusal name) refl
    where
      q : ℕ
      q = question_refusal (text_arrangement t) code

      line : ℕ → List ℕ
      line r = question_line (questioned r (counters_of (whole_cells (nodes_of t))) code)

      by-text : (r : ℕ) → text_refusal t ≡ r → name_refusal name ≡ 0 → line (r otherwise q) ≡ asked_line (asked r t code)
      by-text zero ok e = ap line (none-questioned short e ok) ∙ ap question_line (same_answer short e ok) ∙ same-words (asked 0 t code)
      by-text (suc r) ok e = refl

      by_name :
          (r : ℕ) → name_refusal name ≡ r →
          line (name_refusal name otherwise text_refusal t otherwise q) ≡ asked_line (asked (name_refusal name otherwise text_refusal t) t code)
      by_name zero e =
          ap line (passes _ e) ∙ by-text (text_refusal t) refl e ∙ sym (ap (λ (r : ℕ). asked_line (asked r t code)) (passes _ e))
      by_name (suc r) e =
          let n : name_refusal name ≡ 0 → ⊥ = λ z. let y : ◌≡◌ {A = ℕ} 0 (suc r) = sym z ∙ e in omega arith in
          ap line (stops (name_refusal name) _ n ∙ e) ∙ sym (ap (λ (x : ℕ). asked_line (asked x t code)) (stops (name_refusal name) _ n ∙ e))
