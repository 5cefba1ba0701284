-- Bytes moved on, from the last, and back, from the first. Assumes nothing.
use mathlib.Core.Path.{◌≡◌, refl, sym, ap, ap₂, ◌∙◌}
use mathlib.Core.List.{List, [], ◌∷◌, ◌++◌}
use Prim.Native.Nat.{ℕ, suc, ◌+◌, ◌-◌, ◌*◌, ◌≤◌, ◌<◌}
use native.Mathlib.Numerals.{add-one}
use native.Mathlib.Omega.{arith}
use lib.ListN.{length, take, drop, get_or, set, length-set, length-drop, length-append, take-append-drop, drop_of_length-le}
use lib.Seq.{drop-cons, drop_at, take-take, take-set-le, set_split, get_or-take, get_or-drop, get_or-append-add, length-take-le, paste, paste-suc, length-paste}
use lib.Seq.{length_paste_head, sets, length-sets}
use Rattle.logic.specs.Laws.Stores.{sets-append}
use Rattle.walk.specs.Laws.Walk.{byte_at}
use Rattle.adding.specs.Internal.Edit.{nested}
use Rattle.adding.specs.Internal.EditLaws.{nested-count}

-- ---- on

-- the bytes e with those from i to `end` some places on
pub record Opened (e : List ℕ) (end gap : ℕ) (s : List ℕ) (i : ℕ) : Type 0 where
  pub within : i ≤ end
  pub long : length s ≡ length e
  pub front : take (i + gap) s ≡ take (i + gap) e
  pub behind : drop (i + gap) s ≡ take (end - i) (drop i e) ++ drop (end + gap) e

take_none : (n : ℕ) (l : List ℕ) → n ≡ 0 → take n l ≡ []
take_none n l e = ap (λ (x : ℕ). take x l) e

pub opened-start : (e : List ℕ) (end gap : ℕ) → Opened e end gap e end
opened-start e end gap =
    record {
      within = omega arith;
      long = refl;
      front = refl;
      behind = sym (ap (λ (l : List ℕ). l ++ drop (end + gap) e) (take_none (end - end) (drop end e) (omega arith)));
    }

pub opened-more :
    (e : List ℕ) (end gap : ℕ) (s : List ℕ) (i j : ℕ) → i ≡ j + 1 → Opened e end gap s i → end + gap ≤ length e → Opened e end gap (set s (j + gap) (get_or s j 0)) j
opened-more e end gap s i j k m l =
    let v : ℕ = get_or s j 0 in
    let w : i ≤ end = m.within in
    let n : length s ≡ length e = m.long in
    let a : suc j ≡ i = omega arith in
    let b : end - j ≡ suc (end - i) = omega arith in
    let same : v ≡ get_or e j 0 =
    sym (get_or-take (i + gap) s j 0 (omega arith)) ∙ ap (λ (x : List ℕ). get_or x j 0) m.front ∙ get_or-take (i + gap) e j 0 (omega arith) in
    let up : suc (j + gap) ≡ i + gap = omega arith in
    let tail : drop (suc (j + gap)) s ≡ take (end - i) (drop i e) ++ drop (end + gap) e = ap (λ (x : ℕ). drop x s) up ∙ m.behind in
    let put : drop (j + gap) (set s (j + gap) v) ≡ v ∷ drop (suc (j + gap)) s =
    ap (drop (j + gap)) (set_split s (j + gap) v (omega arith)) ∙ drop_at (take (j + gap) s) (v ∷ drop (suc (j + gap)) s) (j + gap) (length-take-le (j + gap) s (omega arith)) in
    let next : take (end - j) (drop j e) ≡ get_or e j 0 ∷ take (end - i) (drop i e) =
    ap₂ take b (drop-cons e j 0 (omega arith) ∙ ap (λ (x : ℕ). get_or e j 0 ∷ drop x e) a) in
    record {
      within = omega arith;
      long = length-set s (j + gap) v ∙ n;
      front =
          take-set-le (j + gap) s (j + gap) v (omega arith)
          ∙ sym (take-take (j + gap) (i + gap) s (omega arith))
          ∙ ap (take (j + gap)) m.front
          ∙ take-take (j + gap) (i + gap) e (omega arith);
      behind = put ∙ ap₂ (λ (x : ℕ) (y : List ℕ). x ∷ y) same tail ∙ sym (ap (λ (x : List ℕ). x ++ drop (end + gap) e) next);
    }

pub opened-all : {e : List ℕ} {end gap : ℕ} {s : List ℕ} {i : ℕ} → Opened e end gap s i → s ≡ take (i + gap) e ++ (take (end - i) (drop i e) ++ drop (end + gap) e)
opened-all {gap = gap} {s = s} {i = i} m = sym (take-append-drop (i + gap) s) ∙ ap₂ ◌++◌ m.front m.behind

-- ---- back

pub record Closed (e : List ℕ) (from to count : ℕ) (s : List ℕ) (i : ℕ) : Type 0 where
  pub within : i ≤ count
  pub is : s ≡ paste e from (drop to e) i

module _ (e : List ℕ) (from to count : ℕ) (a : from ≤ to) (b : to + count ≤ length e) where
  pub closed-long : {s : List ℕ} {i : ℕ} → Closed e from to count s i → length s ≡ length e
  closed-long {s} {i} m = ap length m.is ∙ length-paste e from (drop to e) i (omega (arith, m.within)) (omega (arith, m.within, length-drop to e))

  pub closed-more : (s : List ℕ) (i : ℕ) → i < count → Closed e from to count s i → Closed e from to count (set s (from + i) (get_or s (to + i) 0)) (i + 1)
  closed-more s i h m =
      let p : List ℕ = take from e ++ take i (drop to e) in
      let n : length p ≡ from + i = length_paste_head e from (drop to e) i (omega arith) (omega (arith, length-drop to e)) in
      let f : to + i ≡ length p + (to - from) = omega arith in
      let g : from + i + (to - from) ≡ to + i = omega arith in
      let v : get_or s (to + i) 0 ≡ get_or (drop to e) i 0 =
      ap₂ (λ (x : List ℕ) (y : ℕ). get_or x y 0) m.is f
      ∙ get_or-append-add p (drop (from + i) e) (to - from) 0
      ∙ get_or-drop (from + i) e (to - from) 0 ∙ ap (λ (x : ℕ). get_or e x 0) g
      ∙ sym (get_or-drop to e i 0) in
      record {
        within = omega arith;
        is =
            ap₂ (λ (x : List ℕ) (y : ℕ). set x (from + i) y) m.is v
            ∙ paste-suc e from (drop to e) i 0 (omega arith) (omega (arith, length-drop to e))
            ∙ ap (λ (x : ℕ). paste e from (drop to e) x) (sym (add-one i));
      }

-- ---- each of the bytes in the list of the one before it

module _ (name : List ℕ) (k : ℕ) (h : k < length name) where
  pub nested-length : length (nested (drop k name)) + 2 ≡ 3 * (length name - k)
  nested-length =
      ap (λ (x : List ℕ). length (nested x) + 2) (byte_at name k h) ∙ omega (arith, nested-count (get_or name k 0) (drop (k + 1) name), length-drop (k + 1) name)

  pub nested-last : k + 1 ≡ length name → nested (drop k name) ≡ get_or name k 0 ∷ []
  nested-last e = ap nested (byte_at name k h ∙ ap (λ (x : List ℕ). get_or name k 0 ∷ x) (drop_of_length-le name {i = k + 1} (omega arith)))

  pub nested-more : k + 1 < length name → nested (drop k name) ≡ get_or name k 0 ∷ 40 ∷ (nested (drop (k + 1) name) ++ (41 ∷ []))
  nested-more e =
      let f = byte_at name (k + 1) e in
      ap nested (byte_at name k h ∙ ap (λ (x : List ℕ). get_or name k 0 ∷ x) f)
      ∙ ap (λ (x : List ℕ). get_or name k 0 ∷ 40 ∷ (nested x ++ (41 ∷ []))) (sym f)

  -- the stores
  pub sets_last : (l : List ℕ) (p : ℕ) → k + 1 ≡ length name → set l p (get_or name k 0) ≡ sets l p (nested (drop k name))
  sets_last l p e = sym (ap (sets l p) (nested-last e))

  pub sets_more :
      (l : List ℕ) (p q e : ℕ) (m : List ℕ) → k + 1 < length name → q ≡ p + 2 → m ≡ sets (set (set l p (get_or name k 0)) (p + 1) 40) q (nested (drop (k + 1) name)) →
      e ≡ q + length (nested (drop (k + 1) name)) → set m e 41 ≡ sets l p (nested (drop k name))
  sets_more l p q e m a b f g =
      let x : List ℕ = nested (drop (k + 1) name) in
      let u : q ≡ suc (suc p) = omega arith in
      ap₂ (λ (y : List ℕ) (z : ℕ). set y z 41) f g
      ∙ sym (sets-append (set (set l p (get_or name k 0)) (p + 1) 40) q x (41 ∷ []))
      ∙ ap₂ (λ (y z : ℕ). sets (set (set l p (get_or name k 0)) y 40) z (x ++ (41 ∷ []))) (add-one p) u
      ∙ sym (ap (sets l p) (nested-more a))

pub sets-long : (l : List ℕ) (p b r c q : ℕ) (vs : List ℕ) {m : List ℕ} → m ≡ sets (set (set l p b) r c) q vs → length m ≡ length l
sets-long l p b r c q vs f = ap length f ∙ length-sets (set (set l p b) r c) q vs ∙ length-set (set l p b) r c ∙ length-set l p b

pub opened-long :
    (e : List ℕ) (at end gap : ℕ) {s : List ℕ} → at ≤ end → end + gap ≤ length e → s ≡ take (at + gap) e ++ (take (end - at) (drop at e) ++ drop (end + gap) e) → length s ≡ length e
opened-long e at end gap a b f =
    omega (
      arith,
      ap length f,
      length-append (take (at + gap) e) (take (end - at) (drop at e) ++ drop (end + gap) e),
      length-append (take (end - at) (drop at e)) (drop (end + gap) e),
      length-take-le (at + gap) e (omega arith),
      length-take-le (end - at) (drop at e) (omega (arith, length-drop at e)),
      length-drop (end + gap) e,
    )
