-- Counters raised one after the other. Assumes nothing.
use mathlib.Core.Path.{◌≡◌, refl, sym, ap, ap₂, ◌∙◌}
use mathlib.Core.Logic.{⊎_elim}
use mathlib.Core.Bool.{Bool, false, cond}
use mathlib.Core.List.{List}
use Prim.Native.Nat.{ℕ, ◌+◌, ◌-◌, ◌*◌, ◌/◌, ◌^◌, ◌≤◌, ◌<◌}
use native.Mathlib.Omega.{arith}
use lib.ListN.{length, get_or, set, length-set}
use lib.Seq.{ext_get_or, get_or-set_same, get_or-set_other}
use Rattle.logic.specs.Laws.Order.{lt-or, three_ways}
use Rattle.counting.specs.Count.{between, tabulate}
use Rattle.counting.specs.Laws.Count.{between_in, between-below, between-above, length-tabulate, at-tabulate}
use Rattle.summary.specs.Internal.Raised.{raised, amounts, in_counter, Room, CellRoom}
use Rattle.ternary.proofs.Laws.Powers.{nine-pos}
use Rattle.code.specs.Number.{start_as, end_as}
use Rattle.summary.proofs.Blocks.{cell-held, cell-filled}

-- ---- a list that is raised

pub raised_is : (c r : List ℕ) (f : ℕ → ℕ) → length r ≡ length c → ((x : ℕ) → x < length c → get_or r x 0 ≡ get_or c x 0 + f x) → r ≡ raised c f
unfolding raised
raised_is c r f e h =
    let g : ℕ → ℕ = λ x. get_or c x 0 + f x in
    ext_get_or 0 r (tabulate (length c) g) (e ∙ sym (length-tabulate (length c) g)) (λ i l. h i (omega arith) ∙ sym (at-tabulate (length c) g i (omega arith)))

-- ---- the counters before i have the amount

pub record Raising (c : List ℕ) (first i amount : ℕ) (s : List ℕ) : Type 0 where
  pub long : length s ≡ length c
  pub each : (x : ℕ) → x < length c → get_or s x 0 ≡ get_or c x 0 + cond (between first i x) amount 0

pub raising-start : (c : List ℕ) (first amount : ℕ) → Raising c first first amount c
raising-start c first amount = record { long = refl; each = λ x l. go x (⊎_elim (λ h. between-below first first x h) (λ h. between-above first first x h) (lt-or x first)) }
  where
    go : (x : ℕ) → between first first x ≡ false → get_or c x 0 ≡ get_or c x 0 + cond (between first first x) amount 0
    go x e = rw e (omega arith)

module _ {c s : List ℕ} {first i amount : ℕ} (r : Raising c first i amount s) (h : first ≤ i) (l : i < length c) where
  -- the counter at i is as it was
  pub untouched : get_or s i 0 ≡ get_or c i 0
  untouched =
      let e = r.each i l in
      let k : cond (between first i i) amount 0 ≡ 0 = ap (λ (b : Bool). cond b amount 0) (between-above first i i (omega arith)) in
      omega arith

  pub raising-more : Raising c first (i + 1) amount (set s i (get_or s i 0 + amount))
  raising-more =
      record {
        long = length-set s i (get_or s i 0 + amount) ∙ r.long;
        each = λ x m. ⊎_elim (λ a. other x m (omega arith) (below x a)) (⊎_elim (λ e. here x e) (λ a. other x m (omega arith) (above x a))) (three_ways x i);
      }
    where
      below : (x : ℕ) → x < i → between first i x ≡ between first (i + 1) x
      below x a = ⊎_elim (λ b. between-below first i x b ∙ sym (between-below first (i + 1) x b)) (λ b. between_in first i x b a ∙ sym (between_in first (i + 1) x b (omega arith))) (lt-or x first)

      above : (x : ℕ) → i < x → between first i x ≡ between first (i + 1) x
      above x a = between-above first i x (omega arith) ∙ sym (between-above first (i + 1) x (omega arith))

      other : (x : ℕ) → x < length c → (x ≡ i → ⊥) → between first i x ≡ between first (i + 1) x → get_or (set s i (get_or s i 0 + amount)) x 0 ≡ get_or c x 0 + cond (between first (i + 1) x) amount 0
      other x m n e = get_or-set_other s i x (get_or s i 0 + amount) 0 n ∙ r.each x m ∙ ap (λ (b : Bool). get_or c x 0 + cond b amount 0) e

      here : (x : ℕ) → x ≡ i → get_or (set s i (get_or s i 0 + amount)) x 0 ≡ get_or c x 0 + cond (between first (i + 1) x) amount 0
      here x e =
          ap (λ (y : ℕ). get_or (set s i (get_or s i 0 + amount)) y 0) e
          ∙ get_or-set_same s i (get_or s i 0 + amount) 0 (omega (arith, r.long))
          ∙ ap₂ (λ (y : ℕ) (b : Bool). y + cond b amount 0) untouched (sym (between_in first (i + 1) i h (omega arith)))
          ∙ sym (ap (λ (y : ℕ). get_or c y 0 + cond (between first (i + 1) y) amount 0) e)

pub raising-end : {c s : List ℕ} {first amount : ℕ} (i count : ℕ) → i ≡ first + count → Raising c first i amount s → s ≡ raised c (amounts first count amount)
raising-end {c} {s} {first} {amount} i count e r =
    raised_is c s (amounts first count amount) r.long (λ x l. r.each x l ∙ ap (λ (y : ℕ). get_or c x 0 + cond (between first y x) amount 0) e)

-- ---- the counters of one cell

pub raised-as : (c : List ℕ) (f g : ℕ → ℕ) → ((x : ℕ) → f x ≡ g x) → raised c f ≡ raised c g
unfolding raised
raised-as c f g h =
    let e : ℕ → ℕ = λ x. get_or c x 0 + f x in
    raised_is c (tabulate (length c) e) g (length-tabulate (length c) e) (λ x l. at-tabulate (length c) e x l ∙ ap (λ (y : ℕ). get_or c x 0 + y) (h x))

module _ {c : List ℕ} {k n : ℕ} (r : CellRoom c k n) {z : ℕ} (e : z ≡ 9 ^ (15 - k)) where
  -- its finest cells are among those of the 486
  pub cell-ends : n * z + z ≤ 486 * 9 ^ 13
  unfolding end_as start_as
  cell-ends = rw e r.faced

  pub room-held : z < 9 ^ 13 → Room c (n * z / 9 ^ 13) 1 z
  room-held l =
      let m = cell-ends in
      let p : 0 < z = rw e (nine-pos (15 - k)) in
      record { long = r.long; within = omega arith; low = λ x a b. low x a b (omega arith) }
    where
      low : (x : ℕ) → n * z / 9 ^ 13 ≤ x → x < n * z / 9 ^ 13 + 1 → x < 486 → get_or c x 0 + z ≤ 9 ^ 13
      low x a b d =
          let s : in_counter k n x ≡ amounts (n * z / 9 ^ 13) 1 z x = rw e (cell-held k n x r.fine (rw e at l)) in
          let t : amounts (n * z / 9 ^ 13) 1 z x ≡ z = ap (λ (y : Bool). cond y z 0) (between_in (n * z / 9 ^ 13) (n * z / 9 ^ 13 + 1) x a b) in
          omega (arith, r.low x d)

  pub room-filled : 9 ^ 13 ≤ z → Room c (n * z / 9 ^ 13) (z / 9 ^ 13) (9 ^ 13)
  room-filled l =
      let m = cell-ends in
      record { long = r.long; within = omega arith; low = λ x a b. low x a b (omega arith) }
    where
      low : (x : ℕ) → n * z / 9 ^ 13 ≤ x → x < n * z / 9 ^ 13 + z / 9 ^ 13 → x < 486 → get_or c x 0 + 9 ^ 13 ≤ 9 ^ 13
      low x a b d =
          let s : in_counter k n x ≡ amounts (n * z / 9 ^ 13) (z / 9 ^ 13) (9 ^ 13) x = rw e (cell-filled k n x r.fine (rw e at l)) in
          let t : amounts (n * z / 9 ^ 13) (z / 9 ^ 13) (9 ^ 13) x ≡ 9 ^ 13 = ap (λ (y : Bool). cond y (9 ^ 13) 0) (between_in (n * z / 9 ^ 13) (n * z / 9 ^ 13 + z / 9 ^ 13) x a b) in
          omega (arith, r.low x d)

  pub counted-held : z < 9 ^ 13 → raised c (amounts (n * z / 9 ^ 13) 1 z) ≡ raised c (in_counter k n)
  counted-held l = raised-as c (amounts (n * z / 9 ^ 13) 1 z) (in_counter k n) (λ x. sym (rw e (cell-held k n x r.fine (rw e at l))))

  pub counted-filled : 9 ^ 13 ≤ z → raised c (amounts (n * z / 9 ^ 13) (z / 9 ^ 13) (9 ^ 13)) ≡ raised c (in_counter k n)
  counted-filled l = raised-as c (amounts (n * z / 9 ^ 13) (z / 9 ^ 13) (9 ^ 13)) (in_counter k n) (λ x. sym (rw e (cell-filled k n x r.fine (rw e at l))))
