-- The lines of districts, one behind the other. Assumes nothing.
use mathlib.Core.Path.{◌≡◌, refl, sym, ap, ◌∙◌, subst}
use mathlib.Core.List.{List, [], ◌∷◌, ◌++◌, append-nil, append_assoc}
use Prim.Native.Nat.{ℕ, zero, suc, ◌+◌, ◌*◌, ◌/◌, ◌^◌, ◌≤◌, ◌<◌}
use native.Mathlib.Numerals.{add-one}
use native.Mathlib.Omega.{arith}
use lib.ListN.{length, take, drop, get_or, take-append-drop}
use lib.Seq.{take_all}
use borrow.Author.Tests.{eq-eqb, ne_eqb}
use Rattle.logic.specs.Laws.Refusal.{given-value}
use Rattle.cell.specs.declared.Cell.{Cell}
use Rattle.cell.specs.declared.Arrangement.{Arrangement}
use Rattle.cell.specs.Cell.{IsArrangement}
use Rattle.code.specs.Code.{cell_of}
use Rattle.code.proofs.Laws.Code.{code-passes}
use Rattle.code.specs.Number.{code_as, cell_as}
use Rattle.code.proofs.Laws.Number.{as_code, as-cell}
use Rattle.name.specs.Name.{name_of}
use Rattle.decimal.specs.Decimal.{printed}
use Rattle.reading.specs.Ground.{whole_cells}
use Rattle.reading.specs.TextReading.{nodes_of}
use Rattle.reader.specs.Check.{text_refusal}
use Rattle.report.specs.Put.{Put}
use Rattle.report.specs.Lines.{number_line}
use Rattle.report.specs.Names.{name_bytes}
use Rattle.summary.specs.Summary.{counters_of, kept_counters}
use Rattle.summary.proofs.Laws.Counters.{counter_at, counter-most, counters-length}
use Rattle.districts.specs.Districts.{share_line, district_line, district_lines, AtMostFull, lines_with, summary_lines}

-- the same bytes by another name
pub put_as : {at : ℕ} {a b out later : List ℕ} {end : ℕ} → a ≡ b → Put at a out later end → Put at b out later end
put_as {at} {out = out} {later = later} {end = end} e p = subst (λ (x : List ℕ). Put at x out later end) e p

-- nothing is put
pub put-nothing : (at : ℕ) (out : List ℕ) → Put at [] out out at
put-nothing at out =
    let e : at ≡ at + 0 = omega arith in
    record { ends = e; is = sym (take-append-drop at out) ∙ ap (λ (n : ℕ). take at out ++ drop n out) e }

-- ---- one district

pub share-done : (count : ℕ) → count ≡ 9 ^ 13 → 100 ∷ 111 ∷ 110 ∷ 101 ∷ 10 ∷ [] ≡ share_line count
unfolding share_line
share-done count e = sym (rw (eq-eqb count (9 ^ 13) e))

pub share_part : (count : ℕ) → (count ≡ 9 ^ 13 → ⊥) → (printed (count * 100 / 9 ^ 13) ++ (37 ∷ [])) ++ (10 ∷ []) ≡ share_line count
unfolding share_line
share_part count h = sym (rw (ne_eqb count (9 ^ 13) h))

pub no_line : (x count : ℕ) → count ≡ 0 → [] ≡ district_line x count
unfolding district_line
no_line x count e = sym (rw (eq-eqb count 0 e))

named : {a : Arrangement} (x : ℕ) → IsArrangement a → x < 486 → name_bytes (code_as a 2 x) ≡ name_of (cell_as 2 x)
unfolding name_bytes
named {a} x g l =
    given-value (name_of (cell_of (code_as a 2 x))) [] (code-passes (code_as a 2 x) (as_code 2 x (omega arith) l g))
    ∙ ap name_of (as-cell 2 x (omega arith) l g)

pub a-line :
    {a : Arrangement} {code : ℕ} (x count : ℕ) → IsArrangement a → x < 486 → code ≡ code_as a 2 x → (count ≡ 0 → ⊥) →
    (name_bytes code ++ (32 ∷ [])) ++ ((printed count ++ (32 ∷ [])) ++ share_line count) ≡ district_line x count
unfolding district_line
a-line x count g l e h =
    let rest : List ℕ = (printed count ++ (32 ∷ [])) ++ share_line count in
    ap (λ (name : List ℕ). (name ++ (32 ∷ [])) ++ rest) (ap name_bytes e ∙ named x g l) ∙ sym (rw (ne_eqb count 0 h))

-- ---- all of them

more : (x i : ℕ) (cs : List ℕ) → i < length cs → district_lines x (take i cs) ++ district_line (i + x) (get_or cs i 0) ≡ district_lines x (take (suc i) cs)
more x i [] l = absurd (omega arith)
more x zero (c ∷ cs) l = let e : 0 + x ≡ x = omega arith in ap (λ (n : ℕ). district_line n c) e ∙ sym (append-nil (district_line x c))
more x (suc i) (c ∷ cs) l =
    let e : suc i + x ≡ i + suc x = omega arith in
    append_assoc (district_line x c) (district_lines (suc x) (take i cs)) (district_line (suc i + x) (get_or cs i 0))
    ∙ ap (λ (l : List ℕ). district_line x c ++ l)
    (ap (λ (n : ℕ). district_lines (suc x) (take i cs) ++ district_line n (get_or cs i 0)) e ∙ more (suc x) i cs (omega arith))

pub lines_more : (cs : List ℕ) (i : ℕ) → i < length cs → district_lines 0 (take i cs) ++ district_line i (get_or cs i 0) ≡ district_lines 0 (take (i + 1) cs)
lines_more cs i l =
    let e : i ≡ i + 0 = omega arith in
    ap (λ (n : ℕ). district_lines 0 (take i cs) ++ district_line n (get_or cs i 0)) e ∙ more 0 i cs l ∙ ap (λ (n : ℕ). district_lines 0 (take n cs)) (sym (add-one i))

pub lines-all : {cs : List ℕ} (i : ℕ) → AtMostFull cs → 486 ≤ i → district_lines 0 (take i cs) ≡ district_lines 0 cs
lines-all {cs} i h l = ap (district_lines 0) (take_all i cs (omega (arith, h.long)))

-- ---- of a text

module _ (t lent : List ℕ) {counters : List ℕ} (e : counters ≡ kept_counters t lent) (ok : text_refusal t ≡ 0) where
  pub kept-counters : counters ≡ counters_of (whole_cells (nodes_of t))
  unfolding kept_counters
  kept-counters = e ∙ given-value (counters_of (whole_cells (nodes_of t))) lent ok

  pub text-counters : AtMostFull counters
  text-counters =
      let qs : List Cell = whole_cells (nodes_of t) in
      subst AtMostFull (sym kept-counters)
      (record { long = counters-length qs; low = λ x l. omega (arith, counter_at qs x l, counter-most qs x) })

  pub lines-kept : district_lines 0 counters ≡ summary_lines t
  unfolding summary_lines
  lines-kept = ap (district_lines 0) kept-counters ∙ sym (ap (λ (r : ℕ). lines_with r t) ok)

pub lines-refused : (t : List ℕ) {r : ℕ} → text_refusal t ≡ r → (r ≡ 0 → ⊥) → number_line r ≡ summary_lines t
unfolding summary_lines
lines-refused t {r = zero} e h = absurd (h refl)
lines-refused t {r = suc r} e h = sym (ap (λ (q : ℕ). lines_with q t) e)
