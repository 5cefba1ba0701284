-- Letters and digits counted byte by byte. Assumes nothing.
use mathlib.Core.Path.{◌≡◌, sym, ap, ap₂, ◌∙◌}
use mathlib.Core.Logic.{⊎_elim}
use mathlib.Core.Bool.{Bool, true, cond}
use mathlib.Core.List.{List, [], ◌∷◌}
use Prim.Native.Nat.{ℕ, zero, suc, ◌+◌, ◌-◌, ◌≤◌, ◌<◌}
use native.Mathlib.Omega.{arith}
use lib.ListN.{length, drop, get_or, drop_of_length-le}
use lib.Seq.{drop-drop}
use lib.Dec.{ltb}
use borrow.Author.Tests.{lt-ltb, le-ltb}
use Rattle.logic.specs.Laws.Order.{lt-or}
use Rattle.reading.specs.Letters.{letter_codes, is_letter, letter_count}
use Rattle.reading.specs.TextReading.{nodes_of, is_text, body_start, text_arrangement}
use Rattle.walk.specs.Laws.Walk.{byte_at}
use Rattle.asking.specs.Settle.{not_above, settled_by, settled}
use Rattle.asking.proofs.Internal.CountNodes.{one-most, text-count, text-all}

pub count-step : (t : List ℕ) (i : ℕ) → i < length t → letter_count (drop i t) ≡ cond (is_letter (get_or t i 0)) 1 0 + letter_count (drop (i + 1) t)
unfolding letter_count
count-step t i h = ap letter_count (byte_at t i h)

pub count_none : (t : List ℕ) (i : ℕ) → length t ≤ i → letter_count (drop i t) ≡ 0
unfolding letter_count
count_none t i h = ap letter_count (drop_of_length-le t {i = i} h)

-- n bytes less are at most n letters and digits less
count-drop : (n : ℕ) (bs : List ℕ) → (letter_count (drop n bs) ≤ letter_count bs) × (letter_count bs ≤ letter_count (drop n bs) + n)
unfolding letter_count
count-drop zero bs = (omega arith, omega arith)
count-drop (suc n) [] = (omega arith, omega arith)
count-drop (suc n) (b ∷ bs) = let h = count-drop n bs in let o = one-most (is_letter b) in (omega (arith, h.0), omega (arith, h.1))

count-span : (t : List ℕ) (a b : ℕ) → a ≤ b → (letter_count (drop b t) ≤ letter_count (drop a t)) × (letter_count (drop a t) + a ≤ letter_count (drop b t) + b)
count-span t a b h =
    let e : a + (b - a) ≡ b = omega arith in
    let f : letter_count (drop (b - a) (drop a t)) ≡ letter_count (drop b t) = ap letter_count (drop-drop (b - a) a t ∙ ap (λ (x : ℕ). drop x t) e) in
    let k = count-drop (b - a) (drop a t) in
    (omega (arith, k.0), omega (arith, k.1))

-- ---- what holds before the byte at i, where so many were counted from a place on

pub record Part (t : List ℕ) (from to count i : ℕ) : Type 0 where
  pub tied : count + letter_count (drop i t) ≡ letter_count (drop from t)
  pub few : count + from ≤ i
  pub near : i ≤ to

pub part-start : (t : List ℕ) (from to : ℕ) → from ≤ to → Part t from to 0 from
part-start t from to h = record { tied = omega arith; few = omega arith; near = h }

-- those from i to before j
abbrev pub between : List ℕ → ℕ → ℕ → ℕ
between t i j = letter_count (drop i t) - letter_count (drop j t)

pub between-one : (t : List ℕ) (i : ℕ) {n : ℕ} → i < length t → n ≡ cond (is_letter (get_or t i 0)) 1 0 → n ≡ between t i (i + 1)
between-one t i h e = omega (arith, count-step t i h)

pub between-most : (t : List ℕ) (i j : ℕ) → i ≤ j → between t i j + i ≤ j
between-most t i j h = let k = count-span t i j h in omega (arith, k.0, k.1)

module _ {t : List ℕ} {from to count i : ℕ} (v : Part t from to count i) where
  pub part-on : {n j : ℕ} → i ≤ j → j ≤ to → n ≡ between t i j → Part t from to (count + n) j
  part-on {n} {j} h k e =
      let s = count-span t i j h in
      record { tied = omega (arith, v.tied, s.0); few = omega (arith, v.few, s.0, s.1); near = k }

  pub part_end : to ≤ i → count ≡ between t from to
  part_end h =
      let g : i ≡ to = omega (arith, v.near) in
      let f : letter_count (drop i t) ≡ letter_count (drop to t) = ap (λ (x : ℕ). letter_count (drop x t)) g in
      omega (arith, v.tied)

-- ---- those from the place on are the ones that are above

pub settled_is :
    (t : List ℕ) → is_text t ≡ true → (code at : ℕ) →
    letter_count (drop at t) + not_above code (letter_codes (text_arrangement t) (nodes_of t)) ≡ length (letter_codes (text_arrangement t) (nodes_of t)) →
    between t (body_start t) at + cond (ltb 0 (letter_count (drop at t))) 1 0 ≡ settled (text_arrangement t) code (nodes_of t)
unfolding settled settled_by
settled_is t e code at h =
    let cs : List ℕ = letter_codes (text_arrangement t) (nodes_of t) in
    let n : letter_count (drop (body_start t) t) ≡ length cs = text-count t e ∙ text-all t e in
    let m : between t (body_start t) at ≡ not_above code cs = omega arith in
    ap₂ (λ (x : ℕ) (b : Bool). x + cond b 1 0) m
    (⊎_elim
    (λ k. lt-ltb 0 (letter_count (drop at t)) k ∙ sym (lt-ltb (not_above code cs) (length cs) (omega arith)))
    (λ k. le-ltb 0 (letter_count (drop at t)) k ∙ sym (le-ltb (not_above code cs) (length cs) (omega arith)))
    (lt-or 0 (letter_count (drop at t))))
