-- The lines of `coverage summary` from other sides: the line of a counter has the name of the counter's cell and stands behind those of the districts
-- before it, a percentage is cut to a whole number, and lines worked out by hand. Assumes nothing.
use Rattle.std.specs.Prelude.{◌≡◌, refl, length, take, drop, get_or}
use Rattle.std.proofs.Common.{sym, ap₂, ◌∙◌, arith, ne_eqb}
use Rattle.std.proofs.Math.Path.{ap}
use mathlib.Core.List.{List, [], ◌∷◌, ◌++◌, append_assoc}
use Prim.Native.Nat.{ℕ, zero, suc, ◌+◌, ◌*◌, ◌/◌, ◌^◌, ◌≤◌, ◌<◌}
use Rattle.ternary.specs.Digits.{value}
use Rattle.ternary.specs.Weave.{row_in, column_in}
use Rattle.cell.specs.declared.Cell.{Cell}
use Rattle.cell.specs.Cell.{IsCell}
use Rattle.code.specs.Code.{digits_of, path_in, cell_coded}
use Rattle.code.specs.Number.{number_of, start_as, cell_code_as, cell_as}
use Rattle.name.specs.Name.{name_of}
use Rattle.decimal.specs.Decimal.{printed}
use Rattle.reading.specs.Ground.{whole_cells}
use Rattle.reading.specs.TextReading.{nodes_of}
use Rattle.reader.specs.Check.{text_refusal}
use Rattle.summary.specs.Summary.{counter_of, counters_of}
use Rattle.summary.proofs.Laws.Counters.{counter_at, counters-length}
use Rattle.summary.proofs.Laws.District.{block-number, block-cell}
use Rattle.districts.specs.Districts.{share_line, district_line, district_lines, lines_with, summary_lines}

-- ---- one line

-- `done` where all is covered
pub share-done : share_line (9 ^ 13) ≡ 100 ∷ 111 ∷ 110 ∷ 101 ∷ 10 ∷ []
unfolding share_line
share-done = refl

-- else the greatest whole percentage that is not above the share, below 100, and a percent sign
pub share-cut :
    (count : ℕ) → count < 9 ^ 13 →
    (p : ℕ) × (p < 100) × (p * 9 ^ 13 ≤ 100 * count) × (100 * count < suc p * 9 ^ 13) × (share_line count ≡ (printed p ++ (37 ∷ [])) ++ (10 ∷ []))
unfolding share_line
share-cut count h = (count * 100 / 9 ^ 13, omega arith, omega arith, omega arith, rw (ne_eqb count (9 ^ 13) (λ e. omega arith)))

module _ (d : Cell) (w : IsCell d) (two : d.resolution ≡ 2) where
  -- the line of the counter of a cell has that cell's name
  pub line-named :
      (count : ℕ) → 0 < count → district_line (number_of d) count ≡ (name_of d ++ (32 ∷ [])) ++ ((printed count ++ (32 ∷ [])) ++ share_line count)
  unfolding district_line
  line-named count h =
      let rest : List ℕ = (printed count ++ (32 ∷ [])) ++ share_line count in
      let e : district_line (number_of d) count ≡ (name_of (cell_as 2 (number_of d)) ++ (32 ∷ [])) ++ rest = rw (ne_eqb count 0 (λ z. omega arith)) in
      e ∙ ap (λ (c : Cell). (name_of c ++ (32 ∷ [])) ++ rest) (block-cell d w two)

-- ---- all of them, "in code order"

lines-apart :
    (x i : ℕ) (cs : List ℕ) → i < length cs →
    district_lines x cs ≡ district_lines x (take i cs) ++ (district_line (i + x) (get_or cs i 0) ++ district_lines (suc (i + x)) (drop (suc i) cs))
lines-apart x i [] l = absurd (omega arith)
lines-apart x zero (c ∷ cs) l = let e : x ≡ 0 + x = omega arith in ap (λ (n : ℕ). district_line n c ++ district_lines (suc n) cs) e
lines-apart x (suc i) (c ∷ cs) l =
    let e : i + suc x ≡ suc i + x = omega arith in
    let rest : ℕ → List ℕ = λ n. district_line n (get_or cs i 0) ++ district_lines (suc n) (drop (suc i) cs) in
    ap (λ (y : List ℕ). district_line x c ++ y) (lines-apart (suc x) i cs (omega arith) ∙ ap (λ (n : ℕ). district_lines (suc x) (take i cs) ++ rest n) e)
    ∙ sym (append_assoc (district_line x c) (district_lines (suc x) (take i cs)) (rest (suc i + x)))

-- of a text that is accepted: the line of each district with its counter, behind those of the districts before it
pub text-line :
    (t : List ℕ) → text_refusal t ≡ 0 → (d : Cell) → IsCell d → d.resolution ≡ 2 →
    let qs = whole_cells (nodes_of t) in let x = number_of d in
    summary_lines t ≡ district_lines 0 (take x (counters_of qs)) ++ (district_line x (counter_of qs x) ++ district_lines (suc x) (drop (suc x) (counters_of qs)))
unfolding summary_lines
text-line t ok d w two =
    let qs : List Cell = whole_cells (nodes_of t) in
    let cs : List ℕ = counters_of qs in
    let x : ℕ = number_of d in
    let e : x + 0 ≡ x = omega arith in
    ap (λ (r : ℕ). lines_with r t) ok
    ∙ lines-apart 0 x cs (omega (arith, counters-length qs, block-number d w two))
    ∙ ap₂ (λ (n c : ℕ). district_lines 0 (take x cs) ++ (district_line n c ++ district_lines (suc n) (drop (suc x) cs))) e (counter_at qs x (block-number d w two))

-- ---- worked out by hand: all of N00, nothing of N01, all but one finest cell of N02, a ninth of N03; one finest cell of S88

pub lines-written-out :
    (district_lines 0 (2541865828329 ∷ 0 ∷ 2541865828328 ∷ 282429536481 ∷ [])
    ≡ 78 ∷ 48 ∷ 48 ∷ 32 ∷ 50 ∷ 53 ∷ 52 ∷ 49 ∷ 56 ∷ 54 ∷ 53 ∷ 56 ∷ 50 ∷ 56 ∷ 51 ∷ 50 ∷ 57 ∷ 32 ∷ 100 ∷ 111 ∷ 110 ∷ 101 ∷ 10 ∷
    78 ∷ 48 ∷ 50 ∷ 32 ∷ 50 ∷ 53 ∷ 52 ∷ 49 ∷ 56 ∷ 54 ∷ 53 ∷ 56 ∷ 50 ∷ 56 ∷ 51 ∷ 50 ∷ 56 ∷ 32 ∷ 57 ∷ 57 ∷ 37 ∷ 10 ∷
    78 ∷ 48 ∷ 51 ∷ 32 ∷ 50 ∷ 56 ∷ 50 ∷ 52 ∷ 50 ∷ 57 ∷ 53 ∷ 51 ∷ 54 ∷ 52 ∷ 56 ∷ 49 ∷ 32 ∷ 49 ∷ 49 ∷ 37 ∷ 10 ∷ [])
    × (district_line 485 1 ≡ 83 ∷ 56 ∷ 56 ∷ 32 ∷ 49 ∷ 32 ∷ 48 ∷ 37 ∷ 10 ∷ [])
unfolding district_line share_line name_of cell_code_as start_as cell_coded path_in digits_of row_in column_in value printed
lines-written-out = (refl, refl)
