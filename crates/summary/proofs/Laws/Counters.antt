-- A counter is the number of covered finest cells inside its cell, and the counters together are the text's size sum (02, W-207). Assumes nothing.
use Rattle.std.specs.Prelude.{◌≡◌, refl, Bool, true, false, ◌||◌, List, [], ◌∷◌, ℕ, ◌+◌, ◌*◌, ◌^◌, ◌≤◌, ◌<◌, length, get_or}
use Rattle.std.proofs.Common.{sym, ap, ap₂, subst, ◌∙◌, inl, inr, ⊎_elim, arith, ext_get_or}
use Rattle.std.proofs.lemmas.List.{length-replicate, get_or-replicate}
use Rattle.logic.specs.Laws.Bools.{or-either, or-right-true, clash}
use Rattle.counting.specs.Count.{bit, count_of, between, tabulate, sum_of}
use Rattle.counting.specs.Laws.Count.{count_none, count_most, count-either, between-below, between-above, in_between, total-same, total-blocks}
use Rattle.counting.specs.Laws.Count.{length-tabulate, at-tabulate, sum-tabulate}
use Rattle.cell.specs.declared.Cell.{Cell}
use Rattle.cell.specs.Cell.{IsCell}
use Rattle.code.specs.Inside.{Inside, start_of, end_of}
use Rattle.code.proofs.Laws.Inside.{apart-ranges, end-small, inside-finest, finest-inside}
use Rattle.code.proofs.Laws.Size.{finest-at, finest-between, size-between}
use Rattle.reading.specs.Ground.{All, Finest, Covers, Cells, Apart, size_sum}
use Rattle.summary.specs.Summary.{covered_at, counter_of, counters_of, zeros}

-- ---- a finest cell is covered exactly when its number is

pub covered-covers : (qs : List Cell) → Cells qs → (f : Cell) → Finest f → covered_at qs (start_of f) ≡ true → Covers qs f
unfolding covered_at
covered-covers [] c f w e = clash (sym e)
covered-covers (q ∷ qs) c f w e =
    ⊎_elim (λ b. inl ((finest-between q c.0 f w).1 b)) (λ b. inr (covered-covers qs c.1 f w b))
    (or-either (between (start_of q) (end_of q) (start_of f)) (covered_at qs (start_of f)) e)

pub covers-covered : (qs : List Cell) → Cells qs → (f : Cell) → Finest f → Covers qs f → covered_at qs (start_of f) ≡ true
unfolding covered_at
covers-covered [] c f w h = absurd h
covers-covered (q ∷ qs) c f w (inl i) = ap (λ (b : Bool). b || covered_at qs (start_of f)) ((finest-between q c.0 f w).0 i)
covers-covered (q ∷ qs) c f w (inr h) = or-right-true (between (start_of q) (end_of q) (start_of f)) (covered_at qs (start_of f)) (covers-covered qs c.1 f w h)

-- the finest cells inside a cell are those from its start to before its end
module _ (qs : List Cell) (cs : Cells qs) (c : Cell) (v : IsCell c) where
  pub covered-range : ((f : Cell) → Finest f → Inside c f → Covers qs f) → (y : ℕ) → start_of c ≤ y → y < end_of c → covered_at qs y ≡ true
  covered-range all y l h =
      let k = finest-at y (omega (arith, end-small c v, v.faced)) in
      let w : Finest k.0 = k.1 in
      let i : Inside c k.0 = finest-inside c k.0 v w.cell w.finest (omega (arith, k.2)) (omega (arith, k.2)) in
      subst (λ (n : ℕ). covered_at qs n ≡ true) k.2 (covers-covered qs cs k.0 w (all k.0 w i))

  pub range-covered : ((y : ℕ) → start_of c ≤ y → y < end_of c → covered_at qs y ≡ true) → (f : Cell) → Finest f → Inside c f → Covers qs f
  range-covered all f w i = let k = inside-finest c f v w.cell i in covered-covers qs cs f w (all (start_of f) k.0 k.1)

-- ---- the counters one by one

pub counter_at : (qs : List Cell) (x : ℕ) → x < 486 → get_or (counters_of qs) x 0 ≡ counter_of qs x
unfolding counters_of
counter_at qs x l = at-tabulate 486 (counter_of qs) x l

pub counters-length : (qs : List Cell) → length (counters_of qs) ≡ 486
unfolding counters_of
counters-length qs = length-tabulate 486 (counter_of qs)

pub counter-most : (qs : List Cell) (x : ℕ) → counter_of qs x ≤ 9 ^ 13
unfolding counter_of
counter-most qs x = count_most (9 ^ 13) (x * 9 ^ 13) (covered_at qs)

pub none-counted : (n from : ℕ) → count_of n from (λ y. false) ≡ 0
none-counted n from = count_none n from (λ y. false) (λ y a b. refl)

-- "all zero before the first face is read"
pub counters-none : counters_of [] ≡ zeros
unfolding counters_of counter_of covered_at
counters-none =
    let f : ℕ → ℕ = counter_of [] in
    ext_get_or 0 (tabulate 486 f) zeros (length-tabulate 486 f ∙ sym (length-replicate {A = ℕ} 486 0))
    (λ x l.
    let h : x < 486 = omega (arith, length-tabulate 486 f) in
    at-tabulate 486 f x h ∙ none-counted (9 ^ 13) (x * 9 ^ 13) ∙ sym (get_or-replicate {A = ℕ} 486 x 0 0 h))

-- ---- cells that lie apart have no finest cell in common

pub others-not :
    (q : Cell) (qs : List Cell) → IsCell q → Cells qs → All (λ (p : Cell). (Inside q p → ⊥) × (Inside p q → ⊥)) qs →
    (y : ℕ) → between (start_of q) (end_of q) y ≡ true → covered_at qs y ≡ false
unfolding covered_at
others-not q [] v c a y e = refl
others-not q (p ∷ qs) v c a y e =
    let k = in_between (start_of q) (end_of q) y e in
    ap₂ ◌||◌
    (⊎_elim (λ l. between-above (start_of p) (end_of p) y (omega (arith, k.0))) (λ l. between-below (start_of p) (end_of p) y (omega (arith, k.1)))
    (apart-ranges q p v c.0 a.0.0 a.0.1))
    (others-not q qs v c.1 a.1 y e)

-- ---- "The counters' sum is the text's size sum."

sizes-counted : (qs : List Cell) → Cells qs → Apart qs → count_of (6 * 9 ^ 15) 0 (covered_at qs) ≡ size_sum qs
unfolding covered_at size_sum
sizes-counted [] c a = none-counted (6 * 9 ^ 15) 0
sizes-counted (q ∷ qs) c a =
    count-either (6 * 9 ^ 15) 0 (between (start_of q) (end_of q)) (covered_at qs) (λ y l h e. others-not q qs c.0 c.1 a.0 y e)
    ∙ ap₂ ◌+◌ (size-between q c.0) (sizes-counted qs c.1 a.1)

pub counters-sum : (qs : List Cell) → Cells qs → Apart qs → sum_of (counters_of qs) ≡ size_sum qs
unfolding counters_of counter_of
counters-sum qs c a =
    sum-tabulate 486 (counter_of qs)
    ∙ total-blocks 486 (9 ^ 13) (λ y. bit (covered_at qs y))
    ∙ total-same (486 * 9 ^ 13) (λ y. bit (covered_at qs y)) (λ y. bit (covered_at qs (0 + y))) (λ y l. let e : y ≡ 0 + y = omega arith in ap (λ (x : ℕ). bit (covered_at qs x)) e)
    ∙ sizes-counted qs c a
