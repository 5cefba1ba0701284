-- What settles an answer (02, W-213), over what jgv_coverage_ask answers. Assumes nothing.
use Rattle.std.specs.Prelude.{◌≡◌, refl, Bool, true, false, cond, leb, ltb, length, take, drop}
use Rattle.std.proofs.Common.{sym, ◌∙◌, arith}
use Rattle.std.proofs.Math.Path.{ap}
use mathlib.Core.List.{List, [], ◌∷◌, map}
use Prim.Native.Nat.{ℕ, zero, suc, ◌+◌, ◌≤◌}
use Rattle.std.proofs.lemmas.Bool.{not-false}
use Rattle.logic.specs.Lists.{All}
use Rattle.logic.specs.Rise.{Above}
use Rattle.logic.specs.Refusal.{◌otherwise◌}
use Rattle.logic.specs.Laws.Refusal.{both, allowed}
use Rattle.ternary.specs.Digits.{value}
use Rattle.ternary.specs.Weave.{row_in, column_in}
use Rattle.code.specs.Code.{digits_of, path_of, cell_code_at, cell_code, cell_coded, is_cell_code, code_of, cell_of, arrangement_of, is_code, is_of, code_refusal, size_of}
use Rattle.code.proofs.Laws.Code.{a-code, of-arrangement}
use Rattle.code.specs.Inside.{start_of, end_of, lies_within}
use Rattle.reading.specs.Ground.{cell_named, whole_cells}
use Rattle.reading.specs.Letters.{letter_cells, letter_codes, is_letter, through}
use Rattle.reading.specs.Parse.{parse}
use Rattle.reading.specs.Scan.{scan}
use Rattle.reading.specs.Place.{place_of}
use Rattle.reading.specs.Heading.{lead}
use Rattle.reading.specs.TextReading.{nodes_of, profile_of, north_of, south_of, text_arrangement, is_text, read_text}
use Rattle.reading.proofs.Laws.TextReading.{read-text}
use Rattle.reader.specs.Check.{other_version, text_refusal}
use Rattle.reader.specs.Laws.Demand.{accepted-reads}
use Rattle.asking.specs.Ask.{any_within, ask_refusal, asked}
use Rattle.asking.specs.Settle.{not_above, settled_by, settled, counted}
use Rattle.asking.proofs.Laws.Settle.{counted-first, same_answer}
use Rattle.entries.specs.Texts.{ask_numbers}
use Rattle.entries.proofs.Laws.First.{ask-refusal}
use Rattle.entries.proofs.Laws.Texts.{ask_answer}
use Rattle.entries.specs.declared.AskAnswer.{AskAnswer}

-- "those .. whose codes are not above the asked one's, plus one if a later one exists", of the codes of all letters and digits as they stand: the first n
-- are not above, the others are, and r is n, or one more where there are others.
pub record Settles (code : ℕ) (codes : List ℕ) (r n : ℕ) : Type 0 where
  pub within : n ≤ length codes
  pub counts : All (λ (c : ℕ). c ≤ code) (take n codes)
  pub later : Above code (drop n codes)
  pub report : r ≡ n + cond (ltb n (length codes)) 1 0

not_more : (code : ℕ) (cs : List ℕ) → not_above code cs ≤ length cs
unfolding not_above
not_more code [] = omega arith
not_more code (c ∷ cs) = go (leb c code) (not_more code cs)
  where
    go : (b : Bool) → not_above code cs ≤ length cs → cond b 1 0 + not_above code cs ≤ suc (length cs)
    go true h = omega arith
    go false h = omega arith

-- beside a refusal neither an answer nor a report
pub ask-none : (t : List ℕ) (code : ℕ) → ((ask_answer t code).refusal ≡ 0 → ⊥) → ((ask_answer t code).covered ≡ 0) × ((ask_answer t code).settled ≡ 0)
unfolding asked
ask-none t code h = go (ask_refusal t code) h
  where
    go : (r : ℕ) → ((ask_numbers (asked r t code)).refusal ≡ 0 → ⊥) → ((ask_numbers (asked r t code)).covered ≡ 0) × ((ask_numbers (asked r t code)).settled ≡ 0)
    go zero k = absurd (k refl)
    go (suc r) k = (refl, refl)

module _ (t : List ℕ) (code : ℕ) (e : (ask_answer t code).refusal ≡ 0) where
  none : ask_refusal t code ≡ 0
  none = sym (ask-refusal t (ask_refusal t code) code) ∙ e

  answers : ask_answer t code ≡ ask_numbers (asked 0 t code)
  answers = ap (λ (r : ℕ). ask_numbers (asked r t code)) none

  of-grammar : is_text t ≡ true
  unfolding ask_refusal
  of-grammar = let p = both (code_refusal code) _ none in read-text (accepted-reads t (both (text_refusal t) _ p.1).0)

  is-code : is_code code ≡ true
  unfolding ask_refusal
  is-code = a-code code (both (code_refusal code) _ none).0

  of-heading : arrangement_of code ≡ text_arrangement t
  unfolding ask_refusal
  of-heading =
      let p = both (code_refusal code) _ none in
      of-arrangement (text_arrangement t) code (not-false _ (allowed 13 _ (both (text_refusal t) _ p.1).1))

  -- the report is the definition's
  pub ask-settled : (ask_answer t code).settled ≡ settled (text_arrangement t) code (nodes_of t)
  unfolding asked
  ask-settled = ap (λ (a : AskAnswer). a.settled) answers

  -- and the request's, over the codes of the letters and digits
  pub ask-counts : (n : ℕ) × Settles code (letter_codes (text_arrangement t) (nodes_of t)) (ask_answer t code).settled n
  unfolding settled settled_by
  ask-counts =
      let cs : List ℕ = letter_codes (text_arrangement t) (nodes_of t) in
      let k = counted-first t of-grammar code in
      (not_above code cs, record { within = not_more code cs; counts = k.0; later = k.1; report = ask-settled })

-- "Show that another accepted text with the same heading, the same bytes through the last one counted and the same report gives the same answer." Of the
-- headings nothing more is asked than that neither text is refused, so that both have the code's n and s.
module _ (t u : List ℕ) (code : ℕ) (e : (ask_answer t code).refusal ≡ 0) (f : (ask_answer u code).refusal ≡ 0)
    (s : (ask_answer u code).settled ≡ (ask_answer t code).settled)
    (k : counted (ask_answer t code).settled u ≡ counted (ask_answer t code).settled t) where
  pub ask-settles : ask_answer u code ≡ ask_answer t code
  ask-settles =
      let i = ask-settled t code e in
      let j : settled (text_arrangement u) code (nodes_of u) ≡ settled (text_arrangement t) code (nodes_of t) = sym (ask-settled u code f) ∙ s ∙ i in
      let l : counted (settled (text_arrangement t) code (nodes_of t)) u ≡ counted (settled (text_arrangement t) code (nodes_of t)) t = rw i at k in
      answers u code f
      ∙ ap ask_numbers (same_answer t u code (of-grammar t code e) (of-grammar u code f) (is-code t code e) (of-heading t code e) (of-heading u code f) j l)
      ∙ sym (answers t code e)

-- ---- questions as a table of bytes: a text, a code, and the numbers that are answered: refusal, place, covered, settled

pub data Question : Type 0 where
  question : (bytes : List ℕ) (code : ℕ) (numbers : List ℕ) → Question

unfoldable pub asked_as : Question → List ℕ
asked_as (question bytes code numbers) =
    let a = ask_answer bytes code in a.refusal ∷ a.place ∷ a.covered ∷ a.settled ∷ []

unfoldable pub ask_said : Question → List ℕ
ask_said (question bytes code numbers) = numbers

pub questions : List Question
questions =
    question (67 ∷ 86 ∷ 82 ∷ 0 ∷ 1 ∷ 48 ∷ 48 ∷ 80 ∷ 40 ∷ 51 ∷ 52 ∷ 40 ∷ 49 ∷ 41 ∷ 41 ∷ []) 0 (0 ∷ 0 ∷ 0 ∷ 1 ∷ []) ∷  -- `P(34(1))`, N: no, and the first letter settles it
    question (67 ∷ 86 ∷ 82 ∷ 0 ∷ 1 ∷ 48 ∷ 48 ∷ 80 ∷ 40 ∷ 51 ∷ 52 ∷ 40 ∷ 49 ∷ 41 ∷ 41 ∷ []) 122985636237870352 (0 ∷ 0 ∷ 1 ∷ 3 ∷ []) ∷  -- P3: yes. P, P3, and P4 is later
    question (67 ∷ 86 ∷ 82 ∷ 0 ∷ 1 ∷ 48 ∷ 48 ∷ 80 ∷ 40 ∷ 51 ∷ 52 ∷ 40 ∷ 49 ∷ 41 ∷ 41 ∷ []) 128191377454288160 (0 ∷ 0 ∷ 1 ∷ 3 ∷ []) ∷  -- P38: yes. P, P3, and P4 is later
    question (67 ∷ 86 ∷ 82 ∷ 0 ∷ 1 ∷ 48 ∷ 48 ∷ 80 ∷ 40 ∷ 51 ∷ 52 ∷ 40 ∷ 49 ∷ 41 ∷ 41 ∷ []) 128842095106340368 (0 ∷ 0 ∷ 0 ∷ 4 ∷ []) ∷  -- P4: no. P, P3, P4, and P41 is later
    question (67 ∷ 86 ∷ 82 ∷ 0 ∷ 1 ∷ 48 ∷ 48 ∷ 80 ∷ 40 ∷ 51 ∷ 52 ∷ 40 ∷ 49 ∷ 41 ∷ 41 ∷ []) 129492812758392608 (0 ∷ 0 ∷ 1 ∷ 4 ∷ []) ∷  -- P41: yes. All four, and none later
    question (67 ∷ 86 ∷ 82 ∷ 0 ∷ 1 ∷ 48 ∷ 48 ∷ 80 ∷ 40 ∷ 51 ∷ 52 ∷ 40 ∷ 49 ∷ 41 ∷ 41 ∷ []) 263540649081150720 (0 ∷ 0 ∷ 0 ∷ 4 ∷ []) ∷  -- S: no. All four, and none later
    question (67 ∷ 86 ∷ 82 ∷ 0 ∷ 1 ∷ 48 ∷ 48 ∷ []) 52708129816230144 (0 ∷ 0 ∷ 0 ∷ 0 ∷ []) ∷  -- the heading alone
    question (67 ∷ 86 ∷ 82 ∷ 0 ∷ 1 ∷ 48 ∷ 48 ∷ 79 ∷ []) 52708129816230144 (0 ∷ 0 ∷ 1 ∷ 1 ∷ []) ∷  -- `O`, O: yes
    question (67 ∷ 86 ∷ 82 ∷ 0 ∷ 1 ∷ 48 ∷ 48 ∷ 79 ∷ 40 ∷ 48 ∷ 41 ∷ []) 52708129816230144 (0 ∷ 0 ∷ 0 ∷ 2 ∷ []) ∷  -- `O(0)`, O: no, told by the 0
    question (67 ∷ 86 ∷ 82 ∷ 0 ∷ 2 ∷ 49 ∷ 50 ∷ 99 ∷ 78 ∷ 80 ∷ 40 ∷ 51 ∷ 52 ∷ 40 ∷ 49 ∷ 41 ∷ 41 ∷ []) 128842095106340374 (0 ∷ 0 ∷ 0 ∷ 5 ∷ []) ∷  -- version 2 at (1, 2), `NP(34(1))`, P4
    question (67 ∷ 86 ∷ 82 ∷ 0 ∷ 2 ∷ 49 ∷ 50 ∷ 99 ∷ 78 ∷ 80 ∷ 40 ∷ 51 ∷ 52 ∷ 40 ∷ 49 ∷ 41 ∷ 41 ∷ []) 128842095106340377 (14 ∷ 0 ∷ 0 ∷ 0 ∷ []) ∷  -- P4 at (2, 1)
    question (67 ∷ 86 ∷ 82 ∷ 0 ∷ 1 ∷ 48 ∷ 48 ∷ 79 ∷ 40 ∷ []) 52708129816230144 (9 ∷ 9 ∷ 0 ∷ 0 ∷ []) ∷  -- `O(`
    []

pub questions-asked : map asked_as questions ≡ map ask_said questions
unfolding
    questions asked_as ask_said ◌otherwise◌ asked ask_refusal code_refusal text_refusal other_version is_text read_text parse place_of lead scan nodes_of profile_of
    north_of south_of is_of arrangement_of is_code is_cell_code cell_of cell_coded row_in column_in any_within lies_within start_of end_of size_of path_of digits_of whole_cells
    letter_cells letter_codes cell_named settled settled_by not_above code_of cell_code cell_code_at value
questions-asked = refl

-- ---- "the bytes through the last one counted", behind the heading: a text, a code, how many settle the answer, and these bytes. Texts that differ
-- behind them have the same ones, so `ask-settles` speaks of more than one text.

pub data Lead : Type 0 where
  lead-of : (bytes : List ℕ) (code many : ℕ) (first : List ℕ) → Lead

unfoldable pub led_by : Lead → List ℕ
led_by (lead-of bytes code many first) =
    let a = ask_answer bytes code in a.refusal ∷ a.settled ∷ counted a.settled bytes

unfoldable pub lead_said : Lead → List ℕ
lead_said (lead-of bytes code many first) = 0 ∷ many ∷ first

pub leads : List Lead
leads =
    lead-of (67 ∷ 86 ∷ 82 ∷ 0 ∷ 1 ∷ 48 ∷ 48 ∷ 80 ∷ 40 ∷ 51 ∷ 52 ∷ 40 ∷ 49 ∷ 41 ∷ 41 ∷ []) 0 1 (80 ∷ []) ∷  -- `P(34(1))`, N: P
    lead-of (67 ∷ 86 ∷ 82 ∷ 0 ∷ 1 ∷ 48 ∷ 48 ∷ 80 ∷ 40 ∷ 51 ∷ 52 ∷ 40 ∷ 49 ∷ 41 ∷ 41 ∷ []) 122985636237870352 3 (80 ∷ 40 ∷ 51 ∷ 52 ∷ []) ∷  -- P3: through the 4
    -- another text with the same report and the same bytes so far
    lead-of (67 ∷ 86 ∷ 82 ∷ 0 ∷ 1 ∷ 48 ∷ 48 ∷ 80 ∷ 40 ∷ 51 ∷ 52 ∷ 40 ∷ 50 ∷ 41 ∷ 41 ∷ []) 122985636237870352 3 (80 ∷ 40 ∷ 51 ∷ 52 ∷ []) ∷
    lead-of (67 ∷ 86 ∷ 82 ∷ 0 ∷ 1 ∷ 48 ∷ 48 ∷ 80 ∷ 40 ∷ 51 ∷ 52 ∷ 41 ∷ []) 122985636237870352 3 (80 ∷ 40 ∷ 51 ∷ 52 ∷ []) ∷  -- and one more
    lead-of (67 ∷ 86 ∷ 82 ∷ 0 ∷ 1 ∷ 48 ∷ 48 ∷ 80 ∷ 40 ∷ 51 ∷ 52 ∷ 40 ∷ 49 ∷ 41 ∷ 41 ∷ []) 128842095106340368 4 (80 ∷ 40 ∷ 51 ∷ 52 ∷ 40 ∷ 49 ∷ []) ∷  -- P4: no
    lead-of (67 ∷ 86 ∷ 82 ∷ 0 ∷ 1 ∷ 48 ∷ 48 ∷ 80 ∷ 40 ∷ 51 ∷ 52 ∷ 40 ∷ 49 ∷ 41 ∷ 41 ∷ []) 263540649081150720 4 (80 ∷ 40 ∷ 51 ∷ 52 ∷ 40 ∷ 49 ∷ []) ∷  -- S: the last digit, and no bracket behind it
    lead-of (67 ∷ 86 ∷ 82 ∷ 0 ∷ 1 ∷ 48 ∷ 48 ∷ 80 ∷ 40 ∷ 51 ∷ 55 ∷ 56 ∷ 41 ∷ 81 ∷ []) 122985636237870352 3 (80 ∷ 40 ∷ 51 ∷ 55 ∷ []) ∷  -- P3: the last digits and letters are not counted
    lead-of (67 ∷ 86 ∷ 82 ∷ 0 ∷ 1 ∷ 48 ∷ 48 ∷ []) 52708129816230144 0 ([]) ∷  -- the heading alone
    lead-of (67 ∷ 86 ∷ 82 ∷ 0 ∷ 2 ∷ 49 ∷ 50 ∷ 99 ∷ 78 ∷ 80 ∷ 40 ∷ 51 ∷ 52 ∷ 40 ∷ 49 ∷ 41 ∷ 41 ∷ []) 6 2 (78 ∷ 80 ∷ []) ∷  -- version 2: behind its eight bytes
    lead-of (67 ∷ 86 ∷ 82 ∷ 0 ∷ 2 ∷ 49 ∷ 50 ∷ 99 ∷ 78 ∷ 80 ∷ 40 ∷ 51 ∷ 52 ∷ 40 ∷ 49 ∷ 41 ∷ 41 ∷ []) 122985636237870358 4 (78 ∷ 80 ∷ 40 ∷ 51 ∷ 52 ∷ []) ∷  -- not all of version 2's
    lead-of (67 ∷ 86 ∷ 82 ∷ 0 ∷ 2 ∷ 49 ∷ 50 ∷ 99 ∷ 78 ∷ 80 ∷ 40 ∷ 51 ∷ 52 ∷ 40 ∷ 50 ∷ 41 ∷ 41 ∷ []) 122985636237870358 4 (78 ∷ 80 ∷ 40 ∷ 51 ∷ 52 ∷ []) ∷  -- another
    lead-of (67 ∷ 86 ∷ 82 ∷ 0 ∷ 2 ∷ 49 ∷ 50 ∷ 99 ∷ 78 ∷ 80 ∷ 40 ∷ 51 ∷ 52 ∷ 40 ∷ 49 ∷ 41 ∷ 41 ∷ []) 263540649081150726 5 (78 ∷ 80 ∷ 40 ∷ 51 ∷ 52 ∷ 40 ∷ 49 ∷ []) ∷  -- all of them, and none later
    []

pub leads-said : map led_by leads ≡ map lead_said leads
unfolding
    leads led_by lead_said counted through is_letter ◌otherwise◌ asked ask_refusal code_refusal text_refusal other_version is_text read_text parse place_of lead scan
    nodes_of profile_of north_of south_of is_of arrangement_of is_code is_cell_code cell_of cell_coded row_in column_in any_within lies_within start_of end_of size_of path_of
    digits_of whole_cells letter_cells letter_codes cell_named settled settled_by not_above code_of cell_code cell_code_at value
leads-said = refl
