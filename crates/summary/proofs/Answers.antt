-- The answers of `summarize` and of `question`, in the order of their tests. Assumes nothing.
use Rattle.std.specs.Prelude.{Err, Ok}
use mathlib.Core.Path.{◌≡◌, refl, sym, ap, ap₂, ◌∙◌}
use mathlib.Core.Logic.{⊎_elim}
use mathlib.Core.Bool.{Bool, true, false, ◌&&◌, not}
use mathlib.Core.List.{List}
use Prim.Native.Nat.{ℕ, zero, suc, ◌+◌, ◌-◌, ◌/◌, ◌^◌, ◌≤◌, ◌<◌}
use native.Mathlib.Numerals.{add-one}
use native.Mathlib.Omega.{arith}
use lib.Dec.{eqb, ltb}
use lib.ListN.{get_or}
use borrow.Author.Tests.{eq-eqb, ne_eqb, lt-ltb, le-ltb}
use Rattle.logic.specs.Laws.Bools.{and_none}
use Rattle.logic.specs.Laws.Order.{lt-or}
use Rattle.logic.specs.Refusal.{refuse, ◌otherwise◌}
use Rattle.logic.specs.Laws.Refusal.{stops, passes, both, given-value, given-none}
use Rattle.ternary.proofs.Laws.Powers.{nine-le, nine-lt}
use Rattle.cell.specs.declared.Arrangement.{Arrangement}
use Rattle.cell.specs.Cell.{arrangement_refusal}
use Rattle.code.specs.Code.{cell_of, is_code, is_of, size_of}
use Rattle.code.proofs.Laws.Code.{a-code, code-is-cell, code-passes, code-stops}
use Rattle.code.specs.Inside.{start_of, end_of}
use Rattle.code.proofs.Laws.Inside.{end-small}
use Rattle.reading.specs.declared.Profile.{Profile}
use Rattle.reading.specs.Ground.{whole_cells}
use Rattle.reading.specs.TextReading.{nodes_of}
use Rattle.reader.specs.Check.{text_refusal}
use Rattle.reader.specs.Laws.Answer.{TextChecked, TextRefused}
use Rattle.summary.specs.Summary.{counters_of, summarized, kept_counters, all_full, is_full, question_refusal, questioned}

-- ---- a text's summary

pub not-summed :
    {t : List ℕ} {r p : ℕ} (counters : List ℕ) → TextRefused t r p → (Err (record { refusal = r; place = p }) ≡ summarized (text_refusal t) t) × (counters ≡ kept_counters t counters)
unfolding summarized kept_counters
not-summed {t = t} {r = zero} {p = p} counters u = absurd (u.some refl)
not-summed {t = t} {r = suc r} {p = p} counters u = (
  ap (λ (p : ℕ). Err (record { refusal = suc r; place = p })) u.place ∙ sym (ap (λ (q : ℕ). summarized q t) u.refusal),
  sym (given-none (text_refusal t) (counters_of (whole_cells (nodes_of t))) counters (λ z. u.some (sym u.refusal ∙ z))),
)

pub summed :
    {t later : List ℕ} {p : Profile} {n s c z b : ℕ} (counters : List ℕ) → TextChecked t p n s c z b → later ≡ counters_of (whole_cells (nodes_of t)) →
    (Ok (record { north = n; south = s }) ≡ summarized (text_refusal t) t) × (later ≡ kept_counters t counters)
unfolding summarized kept_counters
summed {t} counters r e = (
  ap₂ (λ (a b : ℕ). Ok (record { north = a; south = b })) r.north r.south ∙ sym (ap (λ (q : ℕ). summarized q t) r.allowed),
  e ∙ sym (given-value (counters_of (whole_cells (nodes_of t))) counters r.allowed),
)

-- ---- counters that are full

pub full-fails : (cs : List ℕ) (first i n : ℕ) → i < n → (get_or cs (first + i) 0 ≡ 9 ^ 13 → ⊥) → all_full cs first n ≡ false
unfolding all_full
full-fails cs first i zero l h = absurd (omega arith)
full-fails cs first i (suc n) l h =
    ⊎_elim (λ k. ap (λ (b : Bool). b && eqb (get_or cs (first + n) 0) (9 ^ 13)) (full-fails cs first i n k h))
    (λ k.
    let e : i ≡ n = omega arith in
    ap (λ (b : Bool). all_full cs first n && b)
    (sym (ap (λ (j : ℕ). eqb (get_or cs (first + j) 0) (9 ^ 13)) e) ∙ ne_eqb (get_or cs (first + i) 0) (9 ^ 13) h)
    ∙ and_none (all_full cs first n))
    (lt-or i n)

pub full-more : (cs : List ℕ) (first i : ℕ) → all_full cs first i ≡ true → get_or cs (first + i) 0 ≡ 9 ^ 13 → all_full cs first (i + 1) ≡ true
unfolding all_full
full-more cs first i e h = ap (all_full cs first) (add-one i) ∙ ap₂ ◌&&◌ e (eq-eqb (get_or cs (first + i) 0) (9 ^ 13) h)

-- ---- the refusal of a question

pub is-finer : (code : ℕ) {z : ℕ} → z ≡ size_of (cell_of code) → z < 9 ^ 13 → ltb 2 (cell_of code).resolution ≡ true
unfolding size_of
is-finer code e h =
    ⊎_elim (λ l. lt-ltb 2 (cell_of code).resolution l)
    (λ l. absurd (let m : 9 ^ 13 ≤ 9 ^ (15 - (cell_of code).resolution) = nine-le {i = 13} {j = 15 - (cell_of code).resolution} (omega arith) in omega arith))
    (lt-or 2 (cell_of code).resolution)

pub not-finer : (code : ℕ) {z : ℕ} → z ≡ size_of (cell_of code) → 9 ^ 13 ≤ z → ltb 2 (cell_of code).resolution ≡ false
unfolding size_of
not-finer code e h =
    ⊎_elim
    (λ l. absurd (let m : 9 ^ (15 - (cell_of code).resolution) < 9 ^ 13 = nine-lt (15 - (cell_of code).resolution) 13 (omega arith) in omega arith))
    (λ l. le-ltb 2 (cell_of code).resolution l) (lt-or 2 (cell_of code).resolution)

module _ (kept : Arrangement) (code : ℕ) where
  pub kept-five : {r : ℕ} → r ≡ arrangement_refusal kept → (r ≡ 0 → ⊥) → r ≡ question_refusal kept code
  unfolding question_refusal
  kept-five e h = e ∙ sym (stops _ _ (λ z. h (e ∙ z)))

  module _ (a : arrangement_refusal kept ≡ 0) where
    pub no_code : is_code code ≡ false → 4 ≡ question_refusal kept code
    unfolding question_refusal
    no_code e =
        let f = code-stops code e in
        sym (passes _ a ∙ stops _ _ (λ z. omega arith) ∙ f)

    module _ (c : is_code code ≡ true) where
      rest : question_refusal kept code ≡ refuse (ltb 2 (cell_of code).resolution) 2 otherwise refuse (not (is_of kept code)) 14
      unfolding question_refusal
      rest = passes _ a ∙ passes _ (code-passes code c)

      pub finer : ltb 2 (cell_of code).resolution ≡ true → 2 ≡ question_refusal kept code
      unfolding ◌otherwise◌
      finer e = sym (rest ∙ rw e)

      pub another : ltb 2 (cell_of code).resolution ≡ false → is_of kept code ≡ false → 14 ≡ question_refusal kept code
      unfolding ◌otherwise◌
      another d e = sym (rest ∙ rw (d, e))

      pub none-refused : ltb 2 (cell_of code).resolution ≡ false → is_of kept code ≡ true → 0 ≡ question_refusal kept code
      unfolding ◌otherwise◌
      none-refused d e = sym (rest ∙ rw (d, e))

-- ---- the answer of a question

pub question-refused :
    {r : ℕ} (kept : Arrangement) (counters : List ℕ) (code : ℕ) → r ≡ question_refusal kept code → (r ≡ 0 → ⊥) →
    Err r ≡ questioned (question_refusal kept code) counters code
unfolding questioned
question-refused {r = zero} kept counters code e h = absurd (h refl)
question-refused {r = suc r} kept counters code e h = ap (λ (q : ℕ). questioned q counters code) e

pub question-answered :
    {b : Bool} (kept : Arrangement) (counters : List ℕ) (code : ℕ) → 0 ≡ question_refusal kept code → b ≡ is_full counters (cell_of code) →
    Ok b ≡ questioned (question_refusal kept code) counters code
unfolding questioned
question-answered kept counters code e f = ap Ok f ∙ ap (λ (q : ℕ). questioned q counters code) e

pub asks-code : (kept : Arrangement) (code : ℕ) → question_refusal kept code ≡ 0 → is_code code ≡ true
unfolding question_refusal
asks-code kept code e = a-code code (both _ _ (both _ _ e).1).0

pub counters-within : (code : ℕ) → is_code code ≡ true → start_of (cell_of code) / 9 ^ 13 + size_of (cell_of code) / 9 ^ 13 ≤ 486
unfolding end_of
counters-within code t = let v = code-is-cell code t in omega (arith, end-small (cell_of code) v, v.faced)

pub as-full :
    {b : Bool} {first count : ℕ} (counters : List ℕ) (code : ℕ) → first ≡ start_of (cell_of code) → count ≡ size_of (cell_of code) →
    b ≡ all_full counters (first / 9 ^ 13) (count / 9 ^ 13) → b ≡ is_full counters (cell_of code)
unfolding is_full
as-full counters code e f g = g ∙ ap₂ (λ (x y : ℕ). all_full counters (x / 9 ^ 13) (y / 9 ^ 13)) e f
