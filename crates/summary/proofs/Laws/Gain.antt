-- "When a text gains one cell it held nothing of, only the counters of resolution-2 cells it overlaps differ" (02, W-207): each counter grows by the
-- number of finest cells that its cell and the gained one have in common. Assumes nothing.
use Rattle.std.specs.Prelude.{◌≡◌, true, false, ◌||◌, List, ℕ, ◌+◌, ◌-◌, ◌*◌, ◌^◌, ◌≤◌, ◌<◌}
use Rattle.std.proofs.Common.{sym, subst, ◌∙◌, inl, inr, ⊎_elim, arith}
use Rattle.std.proofs.Math.Path.{ap, ap₂}
use Rattle.logic.specs.Laws.Bools.{or-either, or-left-true, or-right-true, refuted, same_truth}
use Rattle.counting.specs.Count.{count_of, between}
use Rattle.counting.specs.Laws.Count.{count_same, count_none, count-some, count-either, between_in, between-below, between-above}
use Rattle.cell.specs.declared.Cell.{Cell}
use Rattle.cell.specs.Cell.{IsCell}
use Rattle.code.specs.Finest.{Finest}
use Rattle.code.specs.Inside.{start_of, end_of}
use Rattle.code.proofs.Laws.Inside.{inside-within, apart-ranges, size-pos}
use Rattle.code.specs.Number.{number_of}
use Rattle.code.proofs.Laws.Number.{start-as, end-as}
use Rattle.code.proofs.Laws.Size.{finest-at, finest-between}
use Rattle.reading.specs.Ground.{whole_cells, Cells}
use Rattle.reading.specs.TextReading.{nodes_of, is_text}
use Rattle.reading.proofs.Laws.TextReading.{reads-body}
use Rattle.reading.proofs.Laws.Demand.{whole_cells_lem}
use Rattle.summary.specs.Gain.{Gains, Overlaps}
use Rattle.summary.specs.Summary.{covered_at, counter_of}
use Rattle.summary.specs.Internal.Raised.{in_counter}
use Rattle.summary.proofs.Laws.Counters.{covered-covers, covers-covered}
use Rattle.summary.proofs.Laws.District.{block_start, block-end, block-number}

module _ (qs ps : List Cell) (c : Cell) (cq : Cells qs) (cp : Cells ps) (v : IsCell c) (g : Gains qs ps c) where
  -- a finest cell is covered then where it was before, or where it lies inside the gained cell
  finest-gained : (f : Cell) → Finest f → covered_at ps (start_of f) ≡ (between (start_of c) (end_of c) (start_of f) || covered_at qs (start_of f))
  finest-gained f w =
      same_truth (covered_at ps (start_of f)) (between (start_of c) (end_of c) (start_of f) || covered_at qs (start_of f))
      (λ e.
      ⊎_elim (λ k. or-right-true (between (start_of c) (end_of c) (start_of f)) (covered_at qs (start_of f)) (covers-covered qs cq f w k))
      (λ k. or-left-true (between (start_of c) (end_of c) (start_of f)) (covered_at qs (start_of f)) ((finest-between c v f w).0 k))
      ((g.ground f w).0 (covered-covers ps cp f w e)))
      (λ e.
      covers-covered ps cp f w
      ((g.ground f w).1
      (⊎_elim (λ k. inr ((finest-between c v f w).1 k)) (λ k. inl (covered-covers qs cq f w k))
      (or-either (between (start_of c) (end_of c) (start_of f)) (covered_at qs (start_of f)) e))))

  gained-at : (y : ℕ) → y < 6 * 9 ^ 15 → covered_at ps y ≡ (between (start_of c) (end_of c) y || covered_at qs y)
  gained-at y h =
      let k = finest-at y h in
      subst (λ (n : ℕ). covered_at ps n ≡ (between (start_of c) (end_of c) n || covered_at qs n)) k.2 (finest-gained k.0 k.1)

  held-nothing : (y : ℕ) → y < 6 * 9 ^ 15 → between (start_of c) (end_of c) y ≡ true → covered_at qs y ≡ false
  held-nothing y h =
      let k = finest-at y h in
      subst (λ (n : ℕ). between (start_of c) (end_of c) n ≡ true → covered_at qs n ≡ false) k.2
      (λ e. refuted (covered_at qs (start_of k.0)) (λ t. g.new k.0 k.1 ((finest-between c v k.0 k.1).1 e) (covered-covers qs cq k.0 k.1 t)))

  -- each counter grows by the number of finest cells of the gained one inside its cell
  pub gained : (x : ℕ) → x < 486 → counter_of ps x ≡ in_counter c.resolution (number_of c) x + counter_of qs x
  unfolding counter_of in_counter
  gained x l =
      count_same (9 ^ 13) (x * 9 ^ 13) (covered_at ps) (λ y. between (start_of c) (end_of c) y || covered_at qs y) (λ y a b. gained-at y (omega arith))
      ∙ count-either (9 ^ 13) (x * 9 ^ 13) (between (start_of c) (end_of c)) (covered_at qs) (λ y a b e. held-nothing y (omega arith) e)
      ∙ ap (λ (n : ℕ). n + count_of (9 ^ 13) (x * 9 ^ 13) (covered_at qs))
      (ap₂ (λ (s e : ℕ). count_of (9 ^ 13) (x * 9 ^ 13) (between s e)) (sym (start-as c v)) (sym (end-as c v)))

-- ---- the finest cells that a cell and a cell of resolution 2 have in common

module _ (d : Cell) (w : IsCell d) (two : d.resolution ≡ 2) (c : Cell) (v : IsCell c) where
  common : in_counter c.resolution (number_of c) (number_of d) ≡ count_of (9 ^ 13) (number_of d * 9 ^ 13) (between (start_of c) (end_of c))
  unfolding in_counter
  common = ap₂ (λ (s e : ℕ). count_of (9 ^ 13) (number_of d * 9 ^ 13) (between s e)) (start-as c v) (end-as c v)

  apart_none : (Overlaps c d → ⊥) → in_counter c.resolution (number_of c) (number_of d) ≡ 0
  apart_none n =
      let s = block_start d w two in
      let e = block-end d w two in
      common
      ∙ count_none (9 ^ 13) (number_of d * 9 ^ 13) (between (start_of c) (end_of c))
      (λ y a b.
      ⊎_elim (λ l. between-below (start_of c) (end_of c) y (omega arith)) (λ l. between-above (start_of c) (end_of c) y (omega arith))
      (apart-ranges c d v w (λ i. n (inl i)) (λ i. n (inr i))))

  -- a finest cell of both
  some-common : (y : ℕ) → start_of d ≤ y → y < end_of d → start_of c ≤ y → y < end_of c → 0 < in_counter c.resolution (number_of c) (number_of d)
  some-common y a b l h =
      let s = block_start d w two in
      let e = block-end d w two in
      let from : ℕ = number_of d * 9 ^ 13 in
      let i : from + (y - from) ≡ y = omega arith in
      let k : 0 < count_of (9 ^ 13) from (between (start_of c) (end_of c)) =
      count-some (9 ^ 13) from (between (start_of c) (end_of c)) (y - from) (omega arith)
      (ap (between (start_of c) (end_of c)) i ∙ between_in (start_of c) (end_of c) y l h) in
      omega (arith, common)

  overlap-some : Overlaps c d → 0 < in_counter c.resolution (number_of c) (number_of d)
  unfolding end_of
  overlap-some (inl i) =
      let k = inside-within c d v w i in
      let p = size-pos d in
      some-common (start_of d) (omega arith) (omega arith) k.from (omega (arith, k.to))
  overlap-some (inr i) =
      let k = inside-within d c w v i in
      let p = size-pos c in
      some-common (start_of c) k.from (omega (arith, k.to)) (omega arith) (omega arith)

-- ---- of texts

module _
    (t u : List ℕ) (e : is_text t ≡ true) (f : is_text u ≡ true) (c : Cell) (v : IsCell c) (g : Gains (whole_cells (nodes_of t)) (whole_cells (nodes_of u)) c)
    (d : Cell) (w : IsCell d) (two : d.resolution ≡ 2) where
  grows :
      counter_of (whole_cells (nodes_of u)) (number_of d) ≡ in_counter c.resolution (number_of c) (number_of d) + counter_of (whole_cells (nodes_of t)) (number_of d)
  grows =
      gained (whole_cells (nodes_of t)) (whole_cells (nodes_of u)) c (whole_cells_lem tt (omega arith) (reads-body t e)).0
      (whole_cells_lem tt (omega arith) (reads-body u f)).0 v g (number_of d) (block-number d w two)

  -- a counter of a cell that it does not overlap is the same
  pub gain-same : (Overlaps c d → ⊥) → counter_of (whole_cells (nodes_of u)) (number_of d) ≡ counter_of (whole_cells (nodes_of t)) (number_of d)
  gain-same n = omega (arith, grows, apart_none d w two c v n)

  -- and one of a cell that it overlaps is greater
  pub gain-more : Overlaps c d → counter_of (whole_cells (nodes_of t)) (number_of d) < counter_of (whole_cells (nodes_of u)) (number_of d)
  gain-more o = omega (arith, grows, overlap-some d w two c v o)
