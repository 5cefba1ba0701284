-- Each counter belongs to one cell of resolution 2, and those inside a coarser cell stand side by side. Assumes nothing.
use Rattle.std.specs.Prelude.{◌≡◌, refl, ◌↔◌, Bool, true, ◌&&◌, List, eqb}
use Rattle.std.proofs.Math.Path.{sym, ap, ap₂}
use Rattle.std.proofs.Common.{subst, ◌∙◌, ⊎_elim, eqb-true, eq-eqb}
use Prim.Native.Nat.{ℕ, zero, suc, ◌+◌, ◌-◌, ◌*◌, ◌/◌, ◌^◌, ◌≤◌, ◌<◌}
use native.Mathlib.Omega.{arith}
use Rattle.std.proofs.Math.ListN.{get_or}
use Rattle.logic.specs.Laws.Bools.{and_left, and_right, same_truth}
use Rattle.logic.specs.Laws.Order.{lt-or}
use Rattle.counting.specs.Count.{count_of, between}
use Rattle.counting.specs.Laws.Count.{count_same, count-part}
use Rattle.cell.specs.declared.Cell.{Cell}
use Rattle.cell.specs.declared.Arrangement.{Arrangement}
use Rattle.cell.specs.Cell.{IsCell, IsArrangement}
use Rattle.code.specs.Code.{size_of, code_of, cell_of}
use Rattle.code.proofs.Laws.Code.{code-order, cell-code}
use Rattle.code.specs.Inside.{Inside, start_of, end_of}
use Rattle.code.proofs.Laws.Inside.{start-code, inside-within, within-inside, end-small}
use Rattle.code.specs.Number.{number_of, start_as, end_as, code_as, cell_as}
use Rattle.code.proofs.Laws.Number.{start-as, end-as, code-as, cell_as_lem, as-fine, as-start, as-cell}
use Rattle.code.proofs.Laws.Size.{finest-at, finest-between}
use Rattle.reading.specs.Ground.{Finest, Covers, Cells}
use Rattle.summary.specs.Summary.{covered_at, counter_of, all_full, is_full}
use Rattle.summary.proofs.Laws.Counters.{covered-covers, covers-covered}

-- ---- a cell of resolution 2 and its counter

module _ (d : Cell) (w : IsCell d) (two : d.resolution ≡ 2) where
  pub block_start : start_of d ≡ number_of d * 9 ^ 13
  unfolding start_as
  block_start = sym (start-as d w) ∙ ap (λ (k : ℕ). number_of d * 9 ^ (15 - k)) two

  pub block-end : end_of d ≡ number_of d * 9 ^ 13 + 9 ^ 13
  unfolding end_as start_as
  block-end = sym (end-as d w) ∙ ap (λ (k : ℕ). number_of d * 9 ^ (15 - k) + 9 ^ (15 - k)) two

  -- one of 486
  pub block-number : number_of d < 486
  block-number = omega (arith, block-end, end-small d w, w.faced)

  -- and the cell of that number
  pub block-cell : cell_as 2 (number_of d) ≡ d
  block-cell =
      let a : Arrangement = record { north = 0; south = 0 } in
      let g : IsArrangement a = record { northern = omega arith; southern = omega arith } in
      sym (as-cell 2 (number_of d) (omega arith) block-number g)
      ∙ ap cell_of (ap (λ (k : ℕ). code_as a k (number_of d)) (sym two) ∙ code-as a d w)
      ∙ cell-code g d w

  -- "the number of covered finest cells inside it"
  pub block-counter : (qs : List Cell) → counter_of qs (number_of d) ≡ count_of (size_of d) (start_of d) (covered_at qs)
  unfolding counter_of size_of
  block-counter qs = ap₂ (λ (n from : ℕ). count_of n from (covered_at qs)) (sym (ap (λ (k : ℕ). 9 ^ (15 - k)) two)) (sym block_start)

  among : (test : ℕ → Bool) → count_of (6 * 9 ^ 15) 0 (λ y. between (start_of d) (end_of d) y && test y) ≡ count_of (size_of d) (start_of d) test
  unfolding end_of
  among test =
      let b : ℕ = 6 * 9 ^ 15 - end_of d in
      let e : start_of d + (size_of d + b) ≡ 6 * 9 ^ 15 = omega (arith, end-small d w, w.faced) in
      sym (ap (λ (n : ℕ). count_of n 0 (λ y. between (start_of d) (end_of d) y && test y)) e) ∙ count-part (start_of d) (size_of d) b test

  -- "the number of covered finest cells inside it", however it is tested which these are
  pub counter-counts :
      (qs : List Cell) → Cells qs → (test : ℕ → Bool) →
      ((x : Cell) → Finest x → (Inside d x × Covers qs x → test (start_of x) ≡ true) × (test (start_of x) ≡ true → Inside d x × Covers qs x)) →
      count_of (6 * 9 ^ 15) 0 test ≡ counter_of qs (number_of d)
  counter-counts qs cs test f =
      count_same (6 * 9 ^ 15) 0 test (λ y. between (start_of d) (end_of d) y && covered_at qs y) (λ y l h. agree y (omega arith))
      ∙ among (covered_at qs)
      ∙ sym (block-counter qs)
    where
      agree : (y : ℕ) → y < 6 * 9 ^ 15 → test y ≡ (between (start_of d) (end_of d) y && covered_at qs y)
      agree y h =
          let k = finest-at y h in
          let x : Cell = k.0 in
          let g = f x k.1 in
          let i = finest-between d w x k.1 in
          subst (λ (n : ℕ). test n ≡ (between (start_of d) (end_of d) n && covered_at qs n)) k.2
          (same_truth (test (start_of x)) (between (start_of d) (end_of d) (start_of x) && covered_at qs (start_of x))
          (λ t. let p = g.1 t in ap₂ ◌&&◌ (i.0 p.0) (covers-covered qs cs x k.1 p.1))
          (λ t. g.0 (
            i.1 (and_left (between (start_of d) (end_of d) (start_of x)) (covered_at qs (start_of x)) t),
            covered-covers qs cs x k.1 (and_right (between (start_of d) (end_of d) (start_of x)) (covered_at qs (start_of x)) t),
          )))

-- "in code order"
pub district-order :
    (a : Arrangement) (c d : Cell) → IsCell c → IsCell d → c.resolution ≡ 2 → d.resolution ≡ 2 → (number_of c < number_of d) ↔ (code_of a c < code_of a d)
district-order a c d v w p q =
    let o = code-order a c d in
    let i = start-code c v in
    let j = start-code d w in
    let s = block_start c v p in
    let t = block_start d w q in
    ((λ h. o.1 (omega arith)), (λ h. let k = o.0 h in omega arith))

-- each number below 486 is that of one cell of resolution 2
module _ (x : ℕ) (l : x < 486) where
  pub district-cell : IsCell (cell_as 2 x)
  district-cell = cell_as_lem 2 x (omega arith) l

  pub district-two : (cell_as 2 x).resolution ≡ 2
  district-two = as-fine 2 x (omega arith) l

  pub district-number : number_of (cell_as 2 x) ≡ x
  unfolding start_as
  district-number =
      let e : start_of (cell_as 2 x) ≡ x * 9 ^ 13 = as-start 2 x (omega arith) l in
      let f : start_of (cell_as 2 x) ≡ number_of (cell_as 2 x) * 9 ^ 13 = block_start (cell_as 2 x) district-cell district-two in
      omega arith

-- ---- the counters inside a cell of resolution 0 to 2

aligned : (k n : ℕ) → k ≤ 2 → (n * 9 ^ (15 - k) ≡ n * 9 ^ (15 - k) / 9 ^ 13 * 9 ^ 13) × (9 ^ (15 - k) ≡ 9 ^ (15 - k) / 9 ^ 13 * 9 ^ 13)
aligned zero n h = (omega arith, refl)
aligned (suc zero) n h = (omega arith, refl)
aligned (suc (suc zero)) n h = (omega arith, refl)
aligned (suc (suc (suc k))) n h = absurd (omega arith)

module _ (c : Cell) (v : IsCell c) (h : c.resolution ≤ 2) where
  pub start-aligned : start_of c ≡ start_of c / 9 ^ 13 * 9 ^ 13
  unfolding start_as
  start-aligned =
      let e : c.resolution ≤ 2 = h in
      let s : start_as c.resolution (number_of c) ≡ start_of c = start-as c v in
      sym s ∙ (aligned c.resolution (number_of c) h).0 ∙ ap (λ (x : ℕ). x / 9 ^ 13 * 9 ^ 13) s

  pub size-aligned : size_of c ≡ size_of c / 9 ^ 13 * 9 ^ 13
  unfolding size_of
  size-aligned = (aligned c.resolution 0 h).1

pub full-each : (cs : List ℕ) (first n : ℕ) → all_full cs first n ≡ true → (i : ℕ) → i < n → get_or cs (first + i) 0 ≡ 9 ^ 13
unfolding all_full
full-each cs first zero e i l = absurd (omega arith)
full-each cs first (suc n) e i l =
    ⊎_elim (λ k. full-each cs first n (and_left (all_full cs first n) (eqb (get_or cs (first + n) 0) (9 ^ 13)) e) i k)
    (λ k.
    let j : i ≡ n = omega arith in
    ap (λ (x : ℕ). get_or cs (first + x) 0) j
    ∙ eqb-true (get_or cs (first + n) 0) (9 ^ 13) (and_right (all_full cs first n) (eqb (get_or cs (first + n) 0) (9 ^ 13)) e))
    (lt-or i n)

pub each-full : (cs : List ℕ) (first n : ℕ) → ((i : ℕ) → i < n → get_or cs (first + i) 0 ≡ 9 ^ 13) → all_full cs first n ≡ true
unfolding all_full
each-full cs first zero h = refl
each-full cs first (suc n) h =
    ap₂ ◌&&◌ (each-full cs first n (λ i l. h i (omega arith))) (eq-eqb (get_or cs (first + n) 0) (9 ^ 13) (h n (omega arith)))

-- "yes exactly when each one inside the cell is 9^13", whatever the counters are
module _ (counters : List ℕ) (c : Cell) (v : IsCell c) (h : c.resolution ≤ 2) where
  pub full-inside : is_full counters c ≡ true → (d : Cell) → IsCell d → d.resolution ≡ 2 → Inside c d → get_or counters (number_of d) 0 ≡ 9 ^ 13
  unfolding is_full end_of
  full-inside e d w two i =
      let first : ℕ = start_of c / 9 ^ 13 in
      let n : ℕ = size_of c / 9 ^ 13 in
      let s : start_of c ≡ first * 9 ^ 13 = start-aligned c v h in
      let z : size_of c ≡ n * 9 ^ 13 = size-aligned c v h in
      let k = inside-within c d v w i in
      let a = block_start d w two in
      let b = block-end d w two in
      let j : first + (number_of d - first) ≡ number_of d = omega (arith, k.from) in
      sym (ap (λ (x : ℕ). get_or counters x 0) j) ∙ full-each counters first n e (number_of d - first) (omega (arith, k.to))

  pub inside-full : ((d : Cell) → IsCell d → d.resolution ≡ 2 → Inside c d → get_or counters (number_of d) 0 ≡ 9 ^ 13) → is_full counters c ≡ true
  unfolding is_full end_of
  inside-full all =
      let first : ℕ = start_of c / 9 ^ 13 in
      let n : ℕ = size_of c / 9 ^ 13 in
      let s : start_of c ≡ first * 9 ^ 13 = start-aligned c v h in
      let z : size_of c ≡ n * 9 ^ 13 = size-aligned c v h in
      each-full counters first n
      (λ i l.
      let x : ℕ = first + i in
      let m : x < 486 = omega (arith, end-small c v, v.faced) in
      let d : Cell = cell_as 2 x in
      let w : IsCell d = district-cell x m in
      let a : start_of d ≡ number_of d * 9 ^ 13 = block_start d w (district-two x m) in
      let b : end_of d ≡ number_of d * 9 ^ 13 + 9 ^ 13 = block-end d w (district-two x m) in
      let e : number_of d ≡ x = district-number x m in
      sym (ap (λ (y : ℕ). get_or counters y 0) e)
      ∙ all d w (district-two x m) (within-inside c d v w (record { from = omega arith; to = omega arith })))
