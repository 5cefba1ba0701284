-- What a batch leaves: as many numbers as it says, each cell in its place. Assumes nothing.
use Rattle.std.specs.Prelude.{◌≡◌, refl, true, List, [], ◌∷◌, ◌++◌, ℕ, zero, suc, ◌+◌, ◌*◌, ◌≤◌, ◌<◌, length, get_or, take, drop, Err, Ok, Result}
use Rattle.std.proofs.Common.{sym, ap, ◌∙◌, append_assoc, arith, length-append, take_at, drop_at, drop-drop, get_or-drop}
use Rattle.std.proofs.Math.Path.{ap₂}
use Rattle.logic.specs.Refusal.{◌otherwise◌}
use Rattle.logic.specs.Laws.Refusal.{passes}
use Rattle.cell.specs.declared.Cell.{Cell}
use Rattle.cell.specs.declared.Arrangement.{Arrangement}
use Rattle.cell.specs.Cell.{cell_refusal, arrangement_refusal, found}
use Rattle.cell.proofs.Laws.Cell.{cell-is, arrangement-is}
use Rattle.code.specs.Code.{code_of, cell_of, arrangement_of, is_code, code_refusal, coded}
use Rattle.code.proofs.Laws.Code.{code-passes, code-is-cell, code-arranged, code-cell}
use Rattle.batch.specs.Batch.{seven_good, seven_in, seven_of, cells_of, arrangement_at, cell_at, coded_at, two_in, first_codes, cells_in, codes_of}

-- ---- codes to cells

length-seven : (a : Arrangement) (f : Result Cell ℕ) → length (seven_in a f) ≡ 7
length-seven a (Ok c) = refl
length-seven a (Err r) = refl

pub seven-long : (code : ℕ) → length (seven_of code) ≡ 7
unfolding seven_of
seven-long code = length-seven (arrangement_of code) (found (code_refusal code) (cell_of code))

pub cells-long : (codes : List ℕ) → length (cells_of codes) ≡ 7 * length codes
unfolding cells_of
cells-long [] = refl
cells-long (code ∷ codes) = length-append (seven_of code) (cells_of codes) ∙ omega (arith, seven-long code, cells-long codes)

-- numbers in front of others, and what stands behind them
front-take : (n : ℕ) {xs : List ℕ} (ys zs : List ℕ) → length xs ≡ n → take n ((xs ++ ys) ++ zs) ≡ xs
front-take n {xs} ys zs e = ap (take n) (append_assoc xs ys zs) ∙ take_at xs (ys ++ zs) n e

front-drop : (n : ℕ) (xs ys zs : List ℕ) → length xs ≡ n → drop n ((xs ++ ys) ++ zs) ≡ ys ++ zs
front-drop n xs ys zs e = ap (drop n) (append_assoc xs ys zs) ∙ drop_at xs (ys ++ zs) n e

-- what code i gets stands at 7 i, whatever is behind the cells
pub cell-stands : (codes rest : List ℕ) (i : ℕ) → i < length codes → take 7 (drop (7 * i) (cells_of codes ++ rest)) ≡ seven_of (get_or codes i 0)
unfolding cells_of
cell-stands [] rest i h = absurd (omega arith)
cell-stands (code ∷ codes) rest zero h = front-take 7 (cells_of codes) rest (seven-long code)
cell-stands (code ∷ codes) rest (suc i) h =
    let e : 7 * suc i ≡ 7 + 7 * i = omega arith in
    ap (λ (n : ℕ). take 7 (drop n ((seven_of code ++ cells_of codes) ++ rest))) e
    ∙ ap (take 7) (sym (drop-drop (7 * i) 7 ((seven_of code ++ cells_of codes) ++ rest)))
    ∙ ap (λ (l : List ℕ). take 7 (drop (7 * i) l)) (front-drop 7 (seven_of code) (cells_of codes) rest (seven-long code))
    ∙ cell-stands codes rest i (omega arith)

-- ---- cells to codes

-- six numbers are a cell, and up to five behind the last are none
pub cells-in : (ns : List ℕ) → (6 * cells_in ns ≤ length ns) × (length ns ≤ 6 * cells_in ns + 5)
cells-in ns = (omega arith, omega arith)

first-long : (k : ℕ) (ns : List ℕ) → length (first_codes k ns) ≡ 2 * k
unfolding first_codes
first-long zero ns = refl
first-long (suc k) ns = length-append (two_in (coded_at ns)) (first_codes k (drop 6 ns)) ∙ omega (arith, first-long k (drop 6 ns))

pub codes-long : (ns : List ℕ) → length (codes_of ns) ≡ 2 * cells_in ns
unfolding codes_of
codes-long ns = first-long (cells_in ns) ns

first-stands : (k : ℕ) (ns rest : List ℕ) (i : ℕ) → i < k → take 2 (drop (2 * i) (first_codes k ns ++ rest)) ≡ two_in (coded_at (drop (6 * i) ns))
unfolding first_codes
first-stands zero ns rest i h = absurd (omega arith)
first-stands (suc k) ns rest zero h = front-take 2 {xs = two_in (coded_at ns)} (first_codes k (drop 6 ns)) rest refl
first-stands (suc k) ns rest (suc i) h =
    let e : 2 * suc i ≡ 2 + 2 * i = omega arith in
    let f : 6 + 6 * i ≡ 6 * suc i = omega arith in
    ap (λ (n : ℕ). take 2 (drop n (first_codes (suc k) ns ++ rest))) e
    ∙ ap (take 2) (sym (drop-drop (2 * i) 2 (first_codes (suc k) ns ++ rest)))
    ∙ first-stands k (drop 6 ns) rest i (omega arith)
    ∙ ap (λ (l : List ℕ). two_in (coded_at l)) (drop-drop (6 * i) 6 ns ∙ ap (λ (n : ℕ). drop n ns) f)

-- what cell i gets stands at 2 i
pub code-stands : (ns rest : List ℕ) (i : ℕ) → i < cells_in ns → take 2 (drop (2 * i) (codes_of ns ++ rest)) ≡ two_in (coded_at (drop (6 * i) ns))
unfolding codes_of
code-stands ns rest i h = first-stands (cells_in ns) ns rest i h

-- six numbers read from a place are those in front of what begins there
abbrev code_for : Arrangement → Cell → Result ℕ ℕ
code_for a c = coded (arrangement_refusal a otherwise cell_refusal c) (code_of a c)

module _ (ns : List ℕ) (i : ℕ) where
  here : get_or ns i 0 ≡ get_or (drop i ns) 0 0
  here = let z : i ≡ i + 0 = omega arith in ap (λ (n : ℕ). get_or ns n 0) z ∙ sym (get_or-drop i ns 0 0)

  there : (k : ℕ) → get_or ns (i + k) 0 ≡ get_or (drop i ns) k 0
  there k = sym (get_or-drop i ns k 0)

  arrangement-read : record { north = get_or ns i 0; south = get_or ns (i + 1) 0 } ≡ arrangement_at (drop i ns)
  arrangement-read = λ t. record { north = here t; south = there 1 t }

  cell-read :
      record { face = get_or ns (i + 2) 0; resolution = get_or ns (i + 3) 0; row = get_or ns (i + 4) 0; column = get_or ns (i + 5) 0 } ≡ cell_at (drop i ns)
  cell-read = λ t. record { face = there 2 t; resolution = there 3 t; row = there 4 t; column = there 5 t }

  pub read_at :
      code_for (record { north = get_or ns i 0; south = get_or ns (i + 1) 0 })
      (record { face = get_or ns (i + 2) 0; resolution = get_or ns (i + 3) 0; row = get_or ns (i + 4) 0; column = get_or ns (i + 5) 0 })
      ≡ coded_at (drop i ns)
  unfolding coded_at
  read_at = ap₂ code_for arrangement-read cell-read

-- ---- out and back

-- the six numbers behind the refusal give the code again
pub out-and-back : (code : ℕ) → is_code code ≡ true → coded_at (drop 1 (seven_of code)) ≡ Ok code
unfolding seven_of coded_at found coded
out-and-back code t =
    let a = arrangement_of code in
    let c = cell_of code in
    let s : seven_of code ≡ seven_good a c = ap (λ (r : ℕ). seven_in a (found r c)) (code-passes code t) in
    let z : arrangement_refusal a otherwise cell_refusal c ≡ 0 = passes (cell_refusal c) (arrangement-is (code-arranged code)) ∙ cell-is (code-is-cell code t) in
    ap (λ (l : List ℕ). coded_at (drop 1 l)) s ∙ ap₂ coded z (code-cell code t)
