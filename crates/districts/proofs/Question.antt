-- The answer to a question by name: the name's refusal, the text's, the question's. Assumes nothing.
use Rattle.std.specs.Prelude.{Err, Ok, Result, Bool}
use Rattle.reading.specs.declared.Refused.{Refused}
use mathlib.Core.Path.{◌≡◌, refl, sym, ap, ap₂, ◌∙◌, subst}
use mathlib.Core.List.{List}
use Prim.Native.Nat.{ℕ, zero, suc}
use native.Mathlib.Omega.{arith}
use Rattle.logic.specs.Laws.Refusal.{stops, passes, given-value, given-none}
use Rattle.cell.specs.declared.Arrangement.{Arrangement}
use Rattle.cell.specs.Cell.{IsArrangement}
use Rattle.code.specs.Code.{coded, code_in, refusal_in}
use Rattle.name.specs.Name.{name_refusal, name_code}
use Rattle.reading.specs.Ground.{whole_cells}
use Rattle.reading.specs.TextReading.{nodes_of, text_arrangement}
use Rattle.reading.proofs.Laws.TextReading.{text-arranged}
use Rattle.reader.specs.Check.{text_refusal, place_with}
use Rattle.reader.specs.Laws.Answer.{text-read}
use Rattle.report.specs.Lines.{number_line}
use Rattle.summary.specs.Summary.{counters_of, summarized, question_refusal, questioned}
use Rattle.summary.proofs.Laws.Answer.{kept-text}
use Rattle.districts.specs.Question.{kept_arrangement, name_question_refusal, question_place, questioned_name, question_line, refusal_of}

-- what is kept is an arrangement
pub kept-arranged : (t : List ℕ) {x : Result Arrangement Refused} → x ≡ summarized (text_refusal t) t → IsArrangement (kept_arrangement x)
kept-arranged t {x} e = go x e
  where
    go : (x : Result Arrangement Refused) → x ≡ summarized (text_refusal t) t → IsArrangement (kept_arrangement x)
    go (Ok x) e =
        let k = kept-text t e in
        subst IsArrangement (sym k.1) (text-arranged t (text-read t k.0))
    go (Err e') e = record { northern = omega arith; southern = omega arith }

-- ---- the name

as_code : (q code c : ℕ) → coded q code ≡ Ok c → (q ≡ 0) × (code ≡ c)
unfolding coded
as_code zero code c e = (refl, ap code_in e)
as_code (suc q) code c e = let z : ◌≡◌ {A = ℕ} 0 1 = cc in absurd (omega arith)

as-refusal : (q code r : ℕ) → coded q code ≡ Err r → (q ≡ r) × (r ≡ 0 → ⊥)
unfolding coded
as-refusal zero code r e = let z : ◌≡◌ {A = ℕ} 0 1 = cc in absurd (omega arith)
as-refusal (suc q) code r e = let k : suc q ≡ r = ap refusal_in e in (k, λ z. omega arith)

module _ (t name : List ℕ) where
  -- a refusal is on a line
  pub stopped : {r : ℕ} → name_question_refusal t name ≡ r → (r ≡ 0 → ⊥) → (number_line r ≡ question_line (questioned_name t name)) × (r ≡ name_question_refusal t name)
  unfolding questioned_name questioned question_line
  stopped {r = zero} e h = absurd (h refl)
  stopped {r = suc r} e h =
      (sym (ap (λ (q : ℕ). question_line (questioned q (counters_of (whole_cells (nodes_of t))) (name_code (text_arrangement t) name))) e), sym e)

  module _ (a : Arrangement) {x : Result ℕ ℕ} (e : x ≡ coded (name_refusal name) (name_code a name)) where
    pub no_name : {r : ℕ} → x ≡ Err r → (name_question_refusal t name ≡ r) × (r ≡ 0 → ⊥)
    unfolding name_question_refusal
    no_name {r} f =
        let k = as-refusal (name_refusal name) (name_code a name) r (sym e ∙ f) in
        (stops (name_refusal name) _ (λ z. k.1 (sym k.0 ∙ z)) ∙ k.0, k.1)

    -- a name's refusal has no place
    pub no-name-place : {r : ℕ} → x ≡ Err r → 0 ≡ question_place t name
    unfolding question_place
    no-name-place {r} f =
        let k = as-refusal (name_refusal name) (name_code a name) r (sym e ∙ f) in
        sym (given-none (name_refusal name) (place_with (text_refusal t) t) 0 (λ z. k.1 (sym k.0 ∙ z)))

    module _ {code : ℕ} (f : x ≡ Ok code) where
      named : (name_refusal name ≡ 0) × (name_code a name ≡ code)
      named = as_code (name_refusal name) (name_code a name) code (sym e ∙ f)

      -- behind a good name it is the text's
      pub name-place : place_with (text_refusal t) t ≡ question_place t name
      unfolding question_place
      name-place = sym (given-value (place_with (text_refusal t) t) 0 named.0)

      pub no_text : {r : ℕ} → text_refusal t ≡ r → (r ≡ 0 → ⊥) → (name_question_refusal t name ≡ r) × (r ≡ 0 → ⊥)
      unfolding name_question_refusal
      no_text i h = (passes _ named.0 ∙ stops (text_refusal t) _ (λ z. h (sym i ∙ z)) ∙ i, h)

      -- the question's own
      module _ (i : text_refusal t ≡ 0) (j : a ≡ text_arrangement t) where
        own : name_code (text_arrangement t) name ≡ code
        own = ap (λ (b : Arrangement). name_code b name) (sym j) ∙ named.1

        asked-refusal : question_refusal a code ≡ name_question_refusal t name
        unfolding name_question_refusal
        asked-refusal = ap₂ question_refusal j (sym own) ∙ sym (passes _ named.0 ∙ passes _ i)

        pub answered :
            {counters : List ℕ} {y : Result Bool ℕ} → counters ≡ counters_of (whole_cells (nodes_of t)) → y ≡ questioned (question_refusal a code) counters code →
            (question_line y ≡ question_line (questioned_name t name)) × (refusal_of y ≡ name_question_refusal t name)
        unfolding questioned_name questioned
        answered {y = y} g h =
            let k : y ≡ questioned_name t name =
            h ∙ (λ n. questioned (asked-refusal n) (g n) (sym own n)) in
            (ap question_line k, ap refusal_of k ∙ refusal_is (name_question_refusal t name))
          where
            refusal_is : (r : ℕ) → refusal_of (questioned r (counters_of (whole_cells (nodes_of t))) (name_code (text_arrangement t) name)) ≡ r
            refusal_is zero = refl
            refusal_is (suc r) = refl
