-- The counters along the walk: what was counted and what is left of the text make up the text's counters. Assumes nothing.
use mathlib.Core.Path.{◌≡◌, sym, ap, ap₂, ◌∙◌, subst}
use mathlib.Core.Bool.{true, false}
use mathlib.Core.List.{List, [], ◌∷◌, map}
use Prim.Native.Nat.{ℕ, ◌+◌, ◌*◌, ◌^◌, ◌≤◌, ◌<◌}
use native.Mathlib.Omega.{arith}
use lib.ListN.{length, drop, get_or, replicate, length-replicate, get_or-replicate}
use lib.Seq.{ext_get_or}
use Rattle.cell.specs.declared.Cell.{Cell}
use Rattle.code.specs.Inside.{start_of, end_of}
use Rattle.code.specs.Number.{end_as}
use Rattle.code.proofs.Laws.Number.{start-as, end-as}
use Rattle.code.proofs.Laws.Inside.{end-small}
use Rattle.reading.specs.Ground.{whole_cells, Cells, Rising, Apart}
use Rattle.reading.specs.TextReading.{nodes_of, is_text, body_start}
use Rattle.reading.proofs.Laws.TextReading.{reads-body}
use Rattle.reading.proofs.Laws.Demand.{whole_cells_lem}
use Rattle.walk.specs.declared.Spot.{Spot}
use Rattle.walk.specs.Walk.{origin, spot_of, after, whole_at, walk, Walks}
use Rattle.walk.specs.Laws.Walk.{walk-text, walks-start, walks-on, past-whole, past-other, walked}
use Rattle.counting.specs.Count.{count_of, between, tabulate}
use Rattle.counting.specs.Laws.Count.{count-either, length-tabulate, at-tabulate}
use Rattle.summary.specs.Summary.{covered_at, counter_of, counters_of}
use Rattle.summary.specs.Internal.Raised.{in_counter, in_counter_all, raised, CellRoom}
use Rattle.summary.proofs.Laws.Counters.{none-counted, others-not, counter-most}

-- of cells that lie apart, a counter is the sum of what each has inside its cell
counter_shares : (qs : List Cell) → Cells qs → Apart qs → (x : ℕ) → counter_of qs x ≡ in_counter_all (map spot_of qs) x
unfolding counter_of covered_at in_counter_all in_counter
counter_shares [] c a x = none-counted (9 ^ 13) (x * 9 ^ 13)
counter_shares (q ∷ qs) c a x =
    count-either (9 ^ 13) (x * 9 ^ 13) (between (start_of q) (end_of q)) (covered_at qs) (λ y l h e. others-not q qs c.0 c.1 a.0 y e)
    ∙ ap₂ ◌+◌
    (ap₂ (λ (s e : ℕ). count_of (9 ^ 13) (x * 9 ^ 13) (between s e)) (sym (start-as q c.0)) (sym (end-as q c.0)))
    (counter_shares qs c.1 a.1 x)

-- these cells' finest cells are among those of the 486
abbrev pub Small : List Spot → Type 0
Small [] = Unit {0}
Small (s ∷ ss) = (end_as s.resolution s.number ≤ 486 * 9 ^ 13) × Small ss

small-cells : (qs : List Cell) → Cells qs → Small (map spot_of qs)
small-cells [] c = tt
small-cells (q ∷ qs) c = (omega (arith, end-as q c.0, end-small q c.0, c.0.faced), small-cells qs c.1)

-- what holds before the byte at i
pub record Counts (t counters : List ℕ) (i : ℕ) (s : Spot) : Type 0 where
  pub walks : Walks t i s
  pub long : length counters ≡ 486
  pub small : Small (walk s (drop i t))
  pub sum : (x : ℕ) → x < 486 → get_or counters x 0 + in_counter_all (walk s (drop i t)) x ≡ counter_of (whole_cells (nodes_of t)) x

module _ (t : List ℕ) (e : is_text t ≡ true) where
  cells : Cells (whole_cells (nodes_of t)) × Rising (whole_cells (nodes_of t)) × Apart (whole_cells (nodes_of t))
  cells = whole_cells_lem tt (omega arith) (reads-body t e)

  pub counts_start : {i : ℕ} → i ≡ body_start t → Counts t (replicate 486 0) i origin
  counts_start h =
      rw h (record {
        walks = walks-start t e;
        long = length-replicate {A = ℕ} 486 0;
        small = rw (walk-text t e) (small-cells (whole_cells (nodes_of t)) cells.0);
        sum = λ x l.
            let a : ◌≡◌ {A = ℕ} (get_or (replicate {A = ℕ} 486 0) x 0) 0 = get_or-replicate {A = ℕ} 486 x 0 0 l in
            let b : in_counter_all (walk origin (drop (body_start t) t)) x ≡ counter_of (whole_cells (nodes_of t)) x =
            ap (λ (ss : List Spot). in_counter_all ss x) (walk-text t e) ∙ sym (counter_shares (whole_cells (nodes_of t)) cells.0 cells.2 x) in
            omega arith;
      })

module _ {t counters : List ℕ} {i : ℕ} {s s' : Spot} (w : Counts t counters i s) (h : i < length t) (e : s' ≡ after s (get_or t i 0)) where
  on : Walks t (i + 1) s'
  on = rw e (walks-on w.walks h)

  pub counts_past : whole_at (drop i t) ≡ false → Counts t counters (i + 1) s'
  counts_past f =
      let k : walk s (drop i t) ≡ walk s' (drop (i + 1) t) = past-other w.walks h f ∙ sym (ap (λ (x : Spot). walk x (drop (i + 1) t)) e) in
      record {
        walks = on;
        long = w.long;
        small = subst Small k w.small;
        sum = λ x l. sym (ap (λ (ss : List Spot). get_or counters x 0 + in_counter_all ss x) k) ∙ w.sum x l;
      }

  module _ (f : whole_at (drop i t) ≡ true) where
    here : walk s (drop i t) ≡ s' ∷ walk s' (drop (i + 1) t)
    here = past-whole w.walks h f ∙ sym (ap (λ (x : Spot). x ∷ walk x (drop (i + 1) t)) e)

    next-sum : (x : ℕ) → x < 486 → get_or counters x 0 + (in_counter s'.resolution s'.number x + in_counter_all (walk s' (drop (i + 1) t)) x) ≡ counter_of (whole_cells (nodes_of t)) x
    unfolding in_counter_all
    next-sum x l = sym (ap (λ (ss : List Spot). get_or counters x 0 + in_counter_all ss x) here) ∙ w.sum x l

    next_small : Small (s' ∷ walk s' (drop (i + 1) t))
    next_small = subst Small here w.small

    pub cell_room : CellRoom counters s'.resolution s'.number
    cell_room =
        record {
          long = w.long;
          fine = on.fits.fine;
          faced = next_small.0;
          low = λ x l. let a = next-sum x l in let b = counter-most (whole_cells (nodes_of t)) x in omega arith;
        }

    pub counts-more : {more : List ℕ} → more ≡ raised counters (in_counter s'.resolution s'.number) → Counts t more (i + 1) s'
    unfolding raised
    counts-more {more} g =
        let v : ℕ → ℕ = λ x. get_or counters x 0 + in_counter s'.resolution s'.number x in
        record {
          walks = on;
          long = ap length g ∙ length-tabulate (length counters) v ∙ w.long;
          small = next_small.1;
          sum = λ x l.
              let a : get_or more x 0 ≡ get_or counters x 0 + in_counter s'.resolution s'.number x =
              ap (λ (y : List ℕ). get_or y x 0) g ∙ at-tabulate (length counters) v x (omega (arith, w.long)) in
              omega (arith, next-sum x l);
        }

-- behind the last byte
pub counts_end : {t counters : List ℕ} {i : ℕ} {s : Spot} → Counts t counters i s → length t ≤ i → counters ≡ counters_of (whole_cells (nodes_of t))
unfolding counters_of in_counter_all
counts_end {t} {counters} {i} {s} w h =
    let f : ℕ → ℕ = counter_of (whole_cells (nodes_of t)) in
    ext_get_or 0 counters (tabulate 486 f) (w.long ∙ sym (length-tabulate 486 f))
    (λ x l.
    let b : x < 486 = omega (arith, w.long) in
    let a : in_counter_all (walk s (drop i t)) x ≡ 0 = ap (λ (ss : List Spot). in_counter_all ss x) (walked t i s h) in
    let c : get_or counters x 0 ≡ f x = omega (arith, w.sum x b) in
    c ∙ sym (at-tabulate 486 f x b))
