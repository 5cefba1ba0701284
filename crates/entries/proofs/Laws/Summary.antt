-- The summary's entries (02, W-207) over what they answer: the refusals in their order, what the counters are and add up to, that questions agree with
-- `jgv_coverage_ask`, and what changes when a text gains a cell. Assumes nothing.
use Rattle.std.specs.Prelude.{◌≡◌, ◌↔◌, ◌⊎◌, Bool, true, false, not, cond, List, length, get_or, Err, Ok, Result}
use Rattle.std.proofs.Math.Path.{refl, ap, subst}
use Rattle.std.proofs.Common.{sym, ap₂, ◌∙◌, arith}
use Prim.Native.Nat.{ℕ, zero, suc, ◌*◌, ◌^◌, ◌<◌}
use Rattle.std.proofs.lemmas.List.{length-replicate}
use Rattle.reading.specs.declared.Refused.{Refused}
use Rattle.asking.specs.declared.Asked.{Asked}
use borrow.Author.Tests.{ltb-false}
use Rattle.logic.specs.Laws.Bools.{refuted, clash}
use Rattle.logic.specs.Refusal.{refuse, ◌otherwise◌, given}
use Rattle.logic.specs.Laws.Refusal.{both, allowed, given-value, given-none}
use Rattle.counting.specs.Count.{count_of, sum_of}
use Rattle.cell.specs.declared.Cell.{Cell}
use Rattle.cell.specs.Cell.{IsCell}
use Rattle.code.specs.Code.{cell_of, code_refusal, arrangement_of, is_of}
use Rattle.code.proofs.Laws.Code.{a-code, code-is-cell, of-arrangement, arrangement-of}
use Rattle.code.proofs.Laws.Exact.{NoCell}
use Rattle.code.specs.Finest.{Finest}
use Rattle.code.specs.Inside.{Inside, start_of}
use Rattle.code.specs.Number.{number_of}
use Rattle.reading.specs.Ground.{whole_cells, Covers}
use Rattle.reading.specs.TextReading.{nodes_of, text_arrangement, is_text}
use Rattle.reading.proofs.Laws.TextReading.{reads-body}
use Rattle.reading.proofs.Laws.Demand.{whole_cells_lem}
use Rattle.reader.specs.Check.{text_refusal, place_with, answer, checked_of}
use Rattle.reader.specs.Laws.Answer.{text-read}
use Rattle.asking.specs.Ask.{ask_refusal, asked}
use Rattle.summary.specs.Gain.{Gains, Overlaps}
use Rattle.summary.specs.Summary.{counters_of, zeros, summarized, kept_counters, is_full, question_refusal, questioned}
use Rattle.summary.proofs.Laws.Counters.{counter_at, counters-length}
use Rattle.summary.proofs.Laws.District.{block-number, counter-counts, full-inside, inside-full}
use Rattle.summary.proofs.Laws.Gain.{gain-same, gain-more}
use Rattle.summary.proofs.Laws.Summary.{summary-sum, as_question, question-agrees}
use Rattle.entries.specs.declared.SummaryAnswer.{SummaryAnswer}
use Rattle.entries.specs.declared.SummaryAskAnswer.{SummaryAskAnswer}
use Rattle.entries.specs.Entries.{arrangement}
use Rattle.entries.specs.Order.{order_in_summary, numbers, in_order, FirstOf, NoneOf}
use Rattle.entries.specs.Refusals.{text_tests}
use Rattle.entries.specs.Summary.{summary_numbers, question_numbers, summary_of, summary_asked, summary_ask_tests}
use Rattle.entries.specs.Texts.{check_numbers, ask_numbers}
use Rattle.entries.proofs.Laws.Order.{Decides, last, then, lt-decides, not-decides, given-exactly, none-exactly}
use Rattle.entries.proofs.Laws.First.{arrangement-first, code-first, text-first, check-refusal}
use Rattle.entries.proofs.Laws.Texts.{check-size, ask_answer}

-- ---- jgv_summary

module _ (t : List ℕ) where
  pub summary-refusal : (summary_of t).refusal ≡ text_refusal t
  unfolding summary_of summarized
  summary-refusal = go (text_refusal t)
    where
      go : (r : ℕ) → (summary_numbers (summarized r t) (kept_counters t zeros)).refusal ≡ r
      go zero = refl
      go (suc r) = refl

  -- 13, 10, 9: the first whose condition holds
  pub summary-first : FirstOf (text_tests t) (summary_of t).refusal
  summary-first = subst (FirstOf (text_tests t)) (sym summary-refusal) (text-first t)

  -- the refusal and the place are those of checking, and so are n and s
  pub summary-checked :
      let a = summary_of t in let c = check_numbers (checked_of t) in (a.refusal ≡ c.refusal) × (a.place ≡ c.place) × (a.n ≡ c.n) × (a.s ≡ c.s)
  unfolding summary_of summarized checked_of
  summary-checked = go (text_refusal t)
    where
      go :
          (r : ℕ) → let a = summary_numbers (summarized r t) (kept_counters t zeros) in let c = check_numbers (answer r t) in
          (a.refusal ≡ c.refusal) × (a.place ≡ c.place) × (a.n ≡ c.n) × (a.s ≡ c.s)
      go zero = (refl, refl, refl, refl)
      go (suc r) = (refl, refl, refl, refl)

  counters-are : (summary_of t).counters ≡ kept_counters t zeros
  unfolding summary_of summarized
  counters-are = go (text_refusal t)
    where
      go : (r : ℕ) → (summary_numbers (summarized r t) (kept_counters t zeros)).counters ≡ kept_counters t zeros
      go zero = refl
      go (suc r) = refl

  nothing : (text_refusal t ≡ 0 → ⊥) → ((summary_of t).n ≡ 0) × ((summary_of t).s ≡ 0)
  unfolding summary_of summarized
  nothing k = go (text_refusal t) k
    where
      go : (r : ℕ) → (r ≡ 0 → ⊥) → let a = summary_numbers (summarized r t) (kept_counters t zeros) in (a.n ≡ 0) × (a.s ≡ 0)
      go zero h = absurd (h refl)
      go (suc r) h = (refl, refl)

  -- zeros beside a refusal
  pub summary-refused : ((summary_of t).refusal ≡ 0 → ⊥) → ((summary_of t).n ≡ 0) × ((summary_of t).s ≡ 0) × ((summary_of t).counters ≡ zeros)
  unfolding kept_counters
  summary-refused h =
      let k : text_refusal t ≡ 0 → ⊥ = λ e. h (summary-refusal ∙ e) in
      let z = nothing k in
      (z.0, z.1, counters-are ∙ given-none (text_refusal t) (counters_of (whole_cells (nodes_of t))) zeros k)

  module _ (e : (summary_of t).refusal ≡ 0) where
    accepted : text_refusal t ≡ 0
    accepted = sym summary-refusal ∙ e

    is-text : is_text t ≡ true
    is-text = text-read t accepted

    kept : (summary_of t).counters ≡ counters_of (whole_cells (nodes_of t))
    unfolding kept_counters
    kept = counters-are ∙ given-value (counters_of (whole_cells (nodes_of t))) zeros accepted

    kept-heading : arrangement (summary_of t).n (summary_of t).s ≡ text_arrangement t
    unfolding summary_of summarized
    kept-heading = ap (λ (r : ℕ). let a = summary_numbers (summarized r t) (kept_counters t zeros) in arrangement a.n a.s) accepted

    -- "486 counters"
    pub summary-length : length (summary_of t).counters ≡ 486
    summary-length = ap length kept ∙ counters-length (whole_cells (nodes_of t))

    -- "one for each resolution-2 cell, .. each then the number of covered finest cells inside it", however it is tested which these are
    module _ (d : Cell) (w : IsCell d) (two : d.resolution ≡ 2) where
      pub summary-counter :
          (test : ℕ → Bool) →
          ((x : Cell) → Finest x →
          (Inside d x × Covers (whole_cells (nodes_of t)) x → test (start_of x) ≡ true) × (test (start_of x) ≡ true → Inside d x × Covers (whole_cells (nodes_of t)) x)) →
          count_of (6 * 9 ^ 15) 0 test ≡ get_or (summary_of t).counters (number_of d) 0
      summary-counter test f =
          let qs : List Cell = whole_cells (nodes_of t) in
          counter-counts d w two qs (whole_cells_lem tt (omega arith) (reads-body t is-text)).0 test f
          ∙ sym (ap (λ (x : List ℕ). get_or x (number_of d) 0) kept ∙ counter_at qs (number_of d) (block-number d w two))

    -- "The counters' sum is the text's size sum", which checking answers
    pub summary-sums : sum_of (summary_of t).counters ≡ (check_numbers (checked_of t)).size
    summary-sums = ap sum_of kept ∙ summary-sum t is-text ∙ sym (check-size t (check-refusal t ∙ accepted))

-- ---- jgv_summary_ask

pub question-refusal : (n s : ℕ) (counters : List ℕ) (code : ℕ) → (summary_asked n s counters code).refusal ≡ question_refusal (arrangement n s) code
unfolding summary_asked questioned
question-refusal n s counters code = go (question_refusal (arrangement n s) code)
  where
    go : (r : ℕ) → (question_numbers (questioned r counters code)).refusal ≡ r
    go zero = refl
    go (suc r) = refl

module _ (n s : ℕ) (counters : List ℕ) (code : ℕ) where
  another : Decides (not (is_of (arrangement n s) code)) (arrangement_of code ≡ arrangement n s → ⊥)
  another =
      not-decides
      (record { holds = of-arrangement (arrangement n s) code; fails = λ e g. clash (sym (arrangement-of (arrangement n s) code g) ∙ e) })

  -- 5, 4, 2, 14: the first whose condition holds
  pub summary-ask-first : FirstOf (summary_ask_tests n s code) (summary_asked n s counters code).refusal
  unfolding question_refusal
  summary-ask-first =
      subst (FirstOf (summary_ask_tests n s code)) (sym (question-refusal n s counters code))
      (then (arrangement-first n s) refl
      (λ _. then (code-first code) refl (λ _. then (last 1 (lt-decides 2 (cell_of code).resolution)) refl (λ _. last 13 another))))

  -- "2 .. after 4"
  pub in-order-summary : in_order order_in_summary (numbers (summary_ask_tests n s code)) ≡ true
  unfolding in_order
  in-order-summary = refl

  -- 5: "also for a kept n or s above 3"
  pub five-summary : ((summary_asked n s counters code).refusal ≡ 5) ↔ ((3 < n) ⊎ (3 < s))
  five-summary = given-exactly 4 summary-ask-first refl

  pub four-summary : ((summary_asked n s counters code).refusal ≡ 4) ↔ (((3 < n) ⊎ (3 < s) → ⊥) × NoCell code)
  four-summary = given-exactly 3 summary-ask-first refl

  -- "2 for a finer cell asked"
  pub two-summary : ((summary_asked n s counters code).refusal ≡ 2) ↔ (((3 < n) ⊎ (3 < s) → ⊥) × ((NoCell code → ⊥) × (2 < (cell_of code).resolution)))
  two-summary = given-exactly 1 summary-ask-first refl

  -- "14 for a question of another arrangement than the one kept"
  pub fourteen-summary :
      ((summary_asked n s counters code).refusal ≡ 14)
      ↔ (((3 < n) ⊎ (3 < s) → ⊥) × ((NoCell code → ⊥) × ((2 < (cell_of code).resolution → ⊥) × (arrangement_of code ≡ arrangement n s → ⊥))))
  fourteen-summary = given-exactly 13 summary-ask-first refl

  -- nothing is refused exactly where none of these holds
  pub zero-summary : ((summary_asked n s counters code).refusal ≡ 0) ↔ NoneOf (summary_ask_tests n s code)
  zero-summary = none-exactly summary-ask-first refl

  -- zero beside a refusal
  pub summary-ask-refused : ((summary_asked n s counters code).refusal ≡ 0 → ⊥) → (summary_asked n s counters code).covered ≡ 0
  unfolding summary_asked questioned
  summary-ask-refused h = go (question_refusal (arrangement n s) code) h
    where
      go : (r : ℕ) → ((question_numbers (questioned r counters code)).refusal ≡ 0 → ⊥) → (question_numbers (questioned r counters code)).covered ≡ 0
      go zero k = absurd (k refl)
      go (suc r) k = refl

  -- "yes exactly when each one inside the cell is 9^13", whatever the counters are
  abbrev AllFull : Type 0
  AllFull = (d : Cell) → IsCell d → d.resolution ≡ 2 → Inside (cell_of code) d → get_or counters (number_of d) 0 ≡ 9 ^ 13

  module _ (e : (summary_asked n s counters code).refusal ≡ 0) where
    none : question_refusal (arrangement n s) code ≡ 0
    none = sym (question-refusal n s counters code) ∙ e

    told : (summary_asked n s counters code).covered ≡ cond (is_full counters (cell_of code)) 1 0
    unfolding summary_asked questioned
    told = ap (λ (r : ℕ). (question_numbers (questioned r counters code)).covered) none

    exactly : (is_full counters (cell_of code) ≡ true → AllFull) × (AllFull → is_full counters (cell_of code) ≡ true)
    unfolding question_refusal
    exactly =
        let p = both _ _ (both _ _ none).1 in
        let v = code-is-cell code (a-code code p.0) in
        let h = ltb-false 2 (cell_of code).resolution (allowed 1 _ (both _ _ p.1).0) in
        (full-inside counters (cell_of code) v h, inside-full counters (cell_of code) v h)

    pub summary-yes : ((summary_asked n s counters code).covered ≡ 1) ↔ AllFull
    summary-yes = (λ h. exactly.0 (one (is_full counters (cell_of code)) (sym told ∙ h)), λ h. told ∙ ap (λ (b : Bool). cond b 1 0) (exactly.1 h))
      where
        one : (b : Bool) → ◌≡◌ {A = ℕ} (cond b 1 0) 1 → b ≡ true
        one true h = refl
        one false h = absurd (omega arith)

    pub summary-no : ((summary_asked n s counters code).covered ≡ 0) ↔ (AllFull → ⊥)
    summary-no = (
      λ h k. no (sym h ∙ told ∙ ap (λ (b : Bool). cond b 1 0) (exactly.1 k)),
      λ h. told ∙ ap (λ (b : Bool). cond b 1 0) (refuted (is_full counters (cell_of code)) (λ k. h (exactly.0 k))),
    )
      where
        no : ◌≡◌ {A = ℕ} 0 1 → ⊥
        no h = omega arith

-- ---- "and agree with asking the text"

module _ (t : List ℕ) (code : ℕ) (e : (summary_of t).refusal ≡ 0) where
  -- the text's summary is asked
  abbrev pub summary_question : SummaryAskAnswer
  summary_question = summary_asked (summary_of t).n (summary_of t).s (summary_of t).counters code

  as-numbers : (r : Result Asked Refused) → ((question_numbers (as_question r)).refusal ≡ (ask_numbers r).refusal) × ((question_numbers (as_question r)).covered ≡ (ask_numbers r).covered)
  as-numbers (Ok x) = (refl, refl)
  as-numbers (Err e) = (refl, refl)

  asks-kept : summary_question ≡ question_numbers (questioned (question_refusal (text_arrangement t) code) (counters_of (whole_cells (nodes_of t))) code)
  unfolding summary_asked
  asks-kept = λ i. question_numbers (questioned (question_refusal (kept-heading t e i) code) (kept t e i) code)

  -- but for 2 of a finer cell, which a text is not refused with, the refusal and the answer are those of asking the text
  pub summary-agrees :
      (summary_question.refusal ≡ 2 → ⊥) → (summary_question.refusal ≡ (ask_answer t code).refusal) × (summary_question.covered ≡ (ask_answer t code).covered)
  summary-agrees h =
      let own : summary_question.refusal ≡ question_refusal (text_arrangement t) code =
      question-refusal (summary_of t).n (summary_of t).s (summary_of t).counters code ∙ ap (λ a. question_refusal a code) (kept-heading t e) in
      let q = ap question_numbers (question-agrees t (accepted t e) code (λ z. h (own ∙ z))) in
      let k = as-numbers (asked (ask_refusal t code) t code) in
      (ap (λ (a : SummaryAskAnswer). a.refusal) (asks-kept ∙ q) ∙ k.0, ap (λ (a : SummaryAskAnswer). a.covered) (asks-kept ∙ q) ∙ k.1)

-- ---- "When a text gains one cell it held nothing of, only the counters of resolution-2 cells it overlaps differ."

module _
    (t u : List ℕ) (e : (summary_of t).refusal ≡ 0) (f : (summary_of u).refusal ≡ 0) (c : Cell) (v : IsCell c)
    (g : Gains (whole_cells (nodes_of t)) (whole_cells (nodes_of u)) c) (d : Cell) (w : IsCell d) (two : d.resolution ≡ 2) where
  counter-in : (x : List ℕ) (h : (summary_of x).refusal ≡ 0) → get_or (summary_of x).counters (number_of d) 0 ≡ get_or (counters_of (whole_cells (nodes_of x))) (number_of d) 0
  counter-in x h = ap (λ (l : List ℕ). get_or l (number_of d) 0) (kept x h)

  pub summary-gain-same : (Overlaps c d → ⊥) → get_or (summary_of u).counters (number_of d) 0 ≡ get_or (summary_of t).counters (number_of d) 0
  summary-gain-same n =
      let l = block-number d w two in
      counter-in u f ∙ counter_at (whole_cells (nodes_of u)) (number_of d) l
      ∙ gain-same t u (is-text t e) (is-text u f) c v g d w two n
      ∙ sym (counter-in t e ∙ counter_at (whole_cells (nodes_of t)) (number_of d) l)

  -- and those do
  pub summary-gain-more : Overlaps c d → get_or (summary_of t).counters (number_of d) 0 < get_or (summary_of u).counters (number_of d) 0
  summary-gain-more o =
      let l = block-number d w two in
      omega (
        arith,
        counter-in u f,
        counter_at (whole_cells (nodes_of u)) (number_of d) l,
        counter-in t e,
        counter_at (whole_cells (nodes_of t)) (number_of d) l,
        gain-more t u (is-text t e) (is-text u f) c v g d w two o,
      )
