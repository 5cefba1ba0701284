-- A text's summary: its counters' sum is the text's size sum, and it answers questions as the text does (02, W-207). Assumes nothing.
use Rattle.std.specs.Prelude.{◌≡◌, Bool, not, List, ltb, Err, Ok, Result}
use Rattle.std.proofs.Math.Path.{refl, sym, ap}
use Rattle.std.proofs.Common.{◌∙◌, ltb-false}
use Rattle.std.proofs.Math.Bool.{true, false}
use Prim.Native.Nat.{ℕ, zero, suc, ◌+◌, ◌-◌, ◌*◌, ◌/◌, ◌^◌, ◌≤◌, ◌<◌}
use native.Mathlib.Omega.{arith}
use Rattle.std.proofs.Math.ListN.{get_or}
use Rattle.reading.specs.declared.Refused.{Refused}
use Rattle.asking.specs.declared.Asked.{Asked}
use Rattle.logic.specs.Laws.Bools.{same_truth, refuted}
use Rattle.logic.specs.Refusal.{refuse, ◌otherwise◌}
use Rattle.logic.specs.Laws.Refusal.{passes, stops, both}
use Rattle.counting.specs.Count.{sum_of}
use Rattle.counting.specs.Laws.Count.{count-all, all-counted}
use Rattle.cell.specs.declared.Cell.{Cell}
use Rattle.cell.specs.Cell.{IsCell, arrangement_refusal}
use Rattle.cell.proofs.Laws.Cell.{arrangement-is}
use Rattle.code.specs.Code.{size_of, cell_of, code_refusal, is_code, is_of}
use Rattle.code.proofs.Laws.Code.{a-code, code-passes, code-stops, code-is-cell}
use Rattle.code.specs.Inside.{start_of, end_of}
use Rattle.code.proofs.Laws.Inside.{end-small}
use Rattle.reading.specs.Ground.{whole_cells, Cells, size_sum}
use Rattle.reading.specs.TextReading.{nodes_of, text_arrangement, is_text}
use Rattle.reading.proofs.Laws.TextReading.{reads-body, text-arranged}
use Rattle.reading.proofs.Laws.Demand.{whole_cells_lem}
use Rattle.reader.specs.Check.{text_refusal}
use Rattle.reader.specs.Laws.Answer.{text-read}
use Rattle.asking.specs.Ask.{AllCovered, any_within, ask_refusal, asked}
use Rattle.asking.proofs.Laws.Ask.{text-asked}
use Rattle.summary.specs.Summary.{covered_at, counter_of, counters_of, is_full, question_refusal, questioned}
use Rattle.summary.proofs.Laws.Counters.{covered-range, range-covered, counter_at, counters-sum}
use Rattle.summary.proofs.Laws.District.{start-aligned, size-aligned, full-each, each-full}

-- ---- the counters inside a cell of resolution 0 to 2 are full exactly when all of its finest cells are covered

module _ (qs : List Cell) (c : Cell) (v : IsCell c) (h : c.resolution ≤ 2) where
  within : start_of c / 9 ^ 13 + size_of c / 9 ^ 13 ≤ 486
  unfolding end_of
  within = omega (arith, end-small c v, v.faced)

  full-range : is_full (counters_of qs) c ≡ true → (y : ℕ) → start_of c ≤ y → y < end_of c → covered_at qs y ≡ true
  unfolding is_full counter_of end_of
  full-range e y a b =
      let first : ℕ = start_of c / 9 ^ 13 in
      let n : ℕ = size_of c / 9 ^ 13 in
      let s : start_of c ≡ first * 9 ^ 13 = start-aligned c v h in
      let z : size_of c ≡ n * 9 ^ 13 = size-aligned c v h in
      let x : ℕ = y / 9 ^ 13 in
      let i : ℕ = x - first in
      let l : first ≤ x = omega arith in
      let m : x < first + n = omega arith in
      let j : first + i ≡ x = omega arith in
      let g : get_or (counters_of qs) (first + i) 0 ≡ 9 ^ 13 = full-each (counters_of qs) first n e i (omega arith) in
      let f : counter_of qs x ≡ 9 ^ 13 = sym (counter_at qs x (omega (arith, within))) ∙ sym (ap (λ (w : ℕ). get_or (counters_of qs) w 0) j) ∙ g in
      let r : x * 9 ^ 13 + (y - x * 9 ^ 13) ≡ y = omega arith in
      sym (ap (covered_at qs) r) ∙ all-counted (9 ^ 13) (x * 9 ^ 13) (covered_at qs) f (y - x * 9 ^ 13) (omega arith)

  range-full : ((y : ℕ) → start_of c ≤ y → y < end_of c → covered_at qs y ≡ true) → is_full (counters_of qs) c ≡ true
  unfolding is_full counter_of end_of
  range-full all =
      let first : ℕ = start_of c / 9 ^ 13 in
      let n : ℕ = size_of c / 9 ^ 13 in
      let s : start_of c ≡ first * 9 ^ 13 = start-aligned c v h in
      let z : size_of c ≡ n * 9 ^ 13 = size-aligned c v h in
      each-full (counters_of qs) first n
      (λ i l.
      counter_at qs (first + i) (omega (arith, within))
      ∙ count-all (9 ^ 13) ((first + i) * 9 ^ 13) (covered_at qs) (λ y a b. all y (omega arith) (omega arith)))

  pub full-exactly : Cells qs → (is_full (counters_of qs) c ≡ true → AllCovered qs c) × (AllCovered qs c → is_full (counters_of qs) c ≡ true)
  full-exactly cs = ((λ e. range-covered qs cs c v (full-range e)), (λ all. range-full (covered-range qs cs c v all)))

-- ---- of a text

module _ (t : List ℕ) (e : is_text t ≡ true) where
  -- "The counters' sum is the text's size sum."
  pub summary-sum : sum_of (counters_of (whole_cells (nodes_of t))) ≡ size_sum (whole_cells (nodes_of t))
  summary-sum = let k = whole_cells_lem tt (omega arith) (reads-body t e) in counters-sum (whole_cells (nodes_of t)) k.0 k.2

  -- "and agree with asking the text"
  pub text-agrees : (c : Cell) → IsCell c → c.resolution ≤ 2 → is_full (counters_of (whole_cells (nodes_of t))) c ≡ any_within (whole_cells (nodes_of t)) c
  text-agrees c v h =
      let qs : List Cell = whole_cells (nodes_of t) in
      let full = full-exactly qs c v h (whole_cells_lem tt (omega arith) (reads-body t e)).0 in
      let ask = text-asked t e c v in
      same_truth (is_full (counters_of qs) c) (any_within qs c) (λ k. ask.1 (full.0 k)) (λ k. full.1 (ask.0 k))

-- what asking the text answers, without the place and what settles it
abbrev pub as_question : Result Asked Refused → Result Bool ℕ
as_question (Ok x) = Ok x.covered
as_question (Err e) = Err e.refusal

module _ (t : List ℕ) (ok : text_refusal t ≡ 0) (code : ℕ) where
  kept-good : arrangement_refusal (text_arrangement t) ≡ 0
  kept-good = arrangement-is (text-arranged t (text-read t ok))

  module _ (not-two : question_refusal (text_arrangement t) code ≡ 2 → ⊥) where
    coarse : is_code code ≡ true → ltb 2 (cell_of code).resolution ≡ false
    unfolding question_refusal ◌otherwise◌
    coarse c = refuted (ltb 2 (cell_of code).resolution) (λ k. not-two (passes _ kept-good ∙ passes _ (code-passes code c) ∙ rw k))

    -- the refusals are those of asking
    same-refusal : question_refusal (text_arrangement t) code ≡ ask_refusal t code
    unfolding question_refusal ask_refusal
    same-refusal = passes _ kept-good ∙ go (is_code code) refl
      where
        go :
            (b : Bool) → is_code code ≡ b →
            code_refusal code otherwise refuse (ltb 2 (cell_of code).resolution) 2 otherwise refuse (not (is_of (text_arrangement t) code)) 14
            ≡ code_refusal code otherwise text_refusal t otherwise refuse (not (is_of (text_arrangement t) code)) 14
        go true c =
            passes _ (code-passes code c) ∙ passes _ (ap (λ (b : Bool). refuse b 2) (coarse c)) ∙ sym (passes _ (code-passes code c) ∙ passes _ ok)
        go false c =
            let k : code_refusal code ≡ 0 → ⊥ = λ z. let f = code-stops code c in omega arith in
            stops (code_refusal code) _ k ∙ sym (stops (code_refusal code) _ k)

    same_answer :
        (r : ℕ) → ask_refusal t code ≡ r →
        questioned r (counters_of (whole_cells (nodes_of t))) code ≡ as_question (asked r t code)
    unfolding questioned asked ask_refusal
    same_answer zero e =
        let c = a-code code (both _ _ e).0 in
        ap Ok (text-agrees t (text-read t ok) (cell_of code) (code-is-cell code c) (ltb-false 2 (cell_of code).resolution (coarse c)))
    same_answer (suc r) e = refl

    -- "Questions about cells of resolution 0 to 2 are answered from the counters, .. and agree with asking the text": any question that is not refused
    -- with 2, refusals and all
    pub question-agrees :
        questioned (question_refusal (text_arrangement t) code) (counters_of (whole_cells (nodes_of t))) code ≡ as_question (asked (ask_refusal t code) t code)
    question-agrees =
        ap (λ (q : ℕ). questioned q (counters_of (whole_cells (nodes_of t))) code) same-refusal ∙ same_answer (ask_refusal t code) refl
