-- A list of codes that is not refused is one of rising cells, none inside another, and neighbouring pairs decide it. Assumes nothing.
use Rattle.std.specs.Prelude.{◌≡◌, Bool, ◌&&◌, ◌↔◌, List, [], ◌∷◌, map, ℕ, ◌+◌, ◌≤◌, ◌<◌, ltb}
use Rattle.std.proofs.Math.Path.{refl, sym}
use Rattle.std.proofs.Common.{ap₂, ◌∙◌, inl, inr}
use Rattle.std.proofs.Math.Bool.{true, false, not}
use native.Mathlib.Omega.{arith}
use Rattle.std.proofs.Math.Dec.{leb}
use borrow.Author.Tests.{lt-ltb, le-leb, lt-leb, ltb-true, not-true, not-false}
use Rattle.logic.specs.Laws.Bools.{and_left, and_right, clash, refuted}
use Rattle.logic.specs.Refusal.{refuse, ◌otherwise◌}
use Rattle.logic.specs.Laws.Refusal.{allowed, both}
use Rattle.cell.specs.declared.Cell.{Cell}
use Rattle.cell.specs.declared.Arrangement.{Arrangement}
use Rattle.cell.specs.Cell.{IsCell}
use Rattle.code.specs.Code.{cell_of, cell_code, is_code, is_of, size_of}
use Rattle.code.proofs.Laws.Code.{code-is-cell, of-arrangement, codes-order}
use Rattle.code.specs.Inside.{Inside, start_of, end_of, lies_within}
use Rattle.code.proofs.Laws.Inside.{size-pos, lies_within_lem, lies-inside, next-before}
use Rattle.reading.specs.Ground.{Cells, All, Rising, Apart}
use Rattle.reading.proofs.Laws.Rising.{code-before, apart-before}
use Rattle.writing.specs.Write.{all_codes, all_of, Stray, Earlier, InTurn, GoodList, ordered, codes_refusal}

-- ---- every code is a cell's

pub codes-cells : (codes : List ℕ) → all_codes codes ≡ true → Cells (map cell_of codes)
unfolding all_codes
codes-cells [] t = tt
codes-cells (c ∷ cs) t = (code-is-cell c (and_left (is_code c) (all_codes cs) t), codes-cells cs (and_right (is_code c) (all_codes cs) t))

pub stray : (codes : List ℕ) → (all_codes codes ≡ false → Stray codes) × (Stray codes → all_codes codes ≡ false)
unfolding all_codes
stray [] = ((λ e. clash e), (λ h. absurd h))
stray (c ∷ cs) = let k = stray cs in (to (is_code c) refl k.0, from (is_code c) refl k.1)
  where
    to : (b : Bool) → is_code c ≡ b → (all_codes cs ≡ false → Stray cs) → (b && all_codes cs) ≡ false → Stray (c ∷ cs)
    to true e f h = inr (f h)
    to false e f h = inl e

    from : (b : Bool) → is_code c ≡ b → (Stray cs → all_codes cs ≡ false) → Stray (c ∷ cs) → (b && all_codes cs) ≡ false
    from true e f (inl h) = clash (sym e ∙ h)
    from true e f (inr h) = f h
    from false e f h = refl

-- ---- two neighbours

is-not : (b : Bool) → (b ≡ true → ⊥) → not b ≡ true
is-not true h = absurd (h refl)
is-not false h = refl

-- the test of two codes that rise
module _ (c x : Cell) (v : IsCell c) (w : IsCell x) where
  pub not-lies : cell_code c < cell_code x → not (lies_within c x) ≡ leb (end_of c) (start_of x)
  unfolding end_of
  not-lies l = go (lies_within c x) refl
    where
      go : (b : Bool) → lies_within c x ≡ b → not b ≡ leb (start_of c + size_of c) (start_of x)
      go true e = let k = lies_within_lem c x e in sym (lt-leb (start_of c + size_of c) (start_of x) (omega (arith, k.to, size-pos x)))
      go false e = sym (le-leb (start_of c + size_of c) (start_of x) (next-before c x v w l e))

-- ---- each cell's finest cells come before those of all later ones

earlier : (m n : ℕ) (xs : List Cell) → m ≤ n → Earlier n xs → Earlier m xs
earlier m n [] h e = tt
earlier m n (x ∷ xs) h e = (omega (arith, e.0), earlier m n xs h e.1)

-- a list of codes of one arrangement, with two at its front
module _ (a : Arrangement) (c x : ℕ) (cs : List ℕ) (t : all_codes (c ∷ x ∷ cs) ≡ true) (o : all_of a (c ∷ x ∷ cs) ≡ true) where
  front : is_code c ≡ true
  unfolding all_codes
  front = and_left (is_code c) (is_code x && all_codes cs) t

  behind : all_codes (x ∷ cs) ≡ true
  unfolding all_codes
  behind = and_right (is_code c) (is_code x && all_codes cs) t

  next : is_code x ≡ true
  unfolding all_codes
  next = and_left (is_code x) (all_codes cs) behind

  own_behind : all_of a (x ∷ cs) ≡ true
  unfolding all_of
  own_behind = and_right (is_of a c) (is_of a x && all_of a cs) o

  -- the codes rise where the cells do
  rise : (c < x) ↔ (cell_code (cell_of c) < cell_code (cell_of x))
  unfolding all_of
  rise =
      codes-order c x front next (of-arrangement a c (and_left (is_of a c) (is_of a x && all_of a cs) o)) (of-arrangement a x (and_left (is_of a x) (all_of a cs) own_behind))

-- "neighbouring pairs decide"
pub ordered-in-turn : (a : Arrangement) (codes : List ℕ) → all_codes codes ≡ true → all_of a codes ≡ true → ordered codes ≡ true → InTurn (map cell_of codes)
unfolding ordered end_of
ordered-in-turn a [] t w o = tt
ordered-in-turn a (c ∷ []) t w o = (tt, tt)
ordered-in-turn a (c ∷ x ∷ cs) t w o =
    let l : c < x = ltb-true c x (and_left (ltb c x) (not (lies_within (cell_of c) (cell_of x)) && ordered (x ∷ cs)) o) in
    let s = and_right (ltb c x) (not (lies_within (cell_of c) (cell_of x)) && ordered (x ∷ cs)) o in
    let n : lies_within (cell_of c) (cell_of x) ≡ false = not-true _ (and_left (not (lies_within (cell_of c) (cell_of x))) (ordered (x ∷ cs)) s) in
    let k = ordered-in-turn a (x ∷ cs) (behind a c x cs t w) (own_behind a c x cs t w) (and_right (not (lies_within (cell_of c) (cell_of x))) (ordered (x ∷ cs)) s) in
    let b : end_of (cell_of c) ≤ start_of (cell_of x) =
    next-before (cell_of c) (cell_of x) (code-is-cell c (front a c x cs t w)) (code-is-cell x (next a c x cs t w)) ((rise a c x cs t w).0 l) n in
    ((b, earlier (end_of (cell_of c)) (end_of (cell_of x)) (map cell_of cs) (omega arith) k.0), k)

earlier-rising : (c : Cell) (xs : List Cell) → IsCell c → Cells xs → Earlier (end_of c) xs → All (λ (x : Cell). cell_code c < cell_code x) xs
earlier-rising c [] v k e = tt
earlier-rising c (x ∷ xs) v k e = (code-before c x v k.0 e.0, earlier-rising c xs v k.1 e.1)

earlier-apart : (c : Cell) (xs : List Cell) → IsCell c → Cells xs → Earlier (end_of c) xs → All (λ (x : Cell). (Inside c x → ⊥) × (Inside x c → ⊥)) xs
earlier-apart c [] v k e = tt
earlier-apart c (x ∷ xs) v k e = (apart-before c x v k.0 e.0, earlier-apart c xs v k.1 e.1)

pub in-turn-list : (xs : List Cell) → Cells xs → InTurn xs → Rising xs × Apart xs
in-turn-list [] k t = (tt, tt)
in-turn-list (c ∷ cs) k t =
    let r = in-turn-list cs k.1 t.1 in
    ((earlier-rising c cs k.0 k.1 t.0, r.0), (earlier-apart c cs k.0 k.1 t.0, r.1))

list-ordered : (a : Arrangement) (codes : List ℕ) → all_codes codes ≡ true → all_of a codes ≡ true → Rising (map cell_of codes) → Apart (map cell_of codes) → ordered codes ≡ true
unfolding ordered
list-ordered a [] t w r p = refl
list-ordered a (c ∷ []) t w r p = refl
list-ordered a (c ∷ x ∷ cs) t w r p =
    let l : c < x = (rise a c x cs t w).1 r.0.0 in
    let n : not (lies_within (cell_of c) (cell_of x)) ≡ true =
    is-not (lies_within (cell_of c) (cell_of x))
    (λ e. p.0.0.0 (lies-inside (cell_of c) (cell_of x) (code-is-cell c (front a c x cs t w)) (code-is-cell x (next a c x cs t w)) e)) in
    ap₂ ◌&&◌ (lt-ltb c x l) (ap₂ ◌&&◌ n (list-ordered a (x ∷ cs) (behind a c x cs t w) (own_behind a c x cs t w) r.1 p.1))

-- ---- "rising codes, none inside another": exactly those are not refused

module _ (a : Arrangement) (codes : List ℕ) where
  -- the three tests
  passed : codes_refusal a codes ≡ 0 → (all_codes codes ≡ true) × (all_of a codes ≡ true) × (ordered codes ≡ true)
  unfolding codes_refusal
  passed e =
      let k = both (refuse (not (all_codes codes)) 4) (refuse (not (all_of a codes)) 14 otherwise refuse (not (ordered codes)) 11) e in
      let m = both (refuse (not (all_of a codes)) 14) (refuse (not (ordered codes)) 11) k.1 in
      (not-false (all_codes codes) (allowed 3 _ k.0), not-false (all_of a codes) (allowed 13 _ m.0), not-false (ordered codes) (allowed 10 _ m.1))

  pub tested :
      {t o r : Bool} → all_codes codes ≡ t → all_of a codes ≡ o → ordered codes ≡ r →
      codes_refusal a codes ≡ refuse (not t) 4 otherwise refuse (not o) 14 otherwise refuse (not r) 11
  unfolding codes_refusal
  tested e f g = rw (e, f, g)

  -- the finest cells of each come before those of the next
  pub in-turn : codes_refusal a codes ≡ 0 → InTurn (map cell_of codes)
  in-turn e = let k = passed e in ordered-in-turn a codes k.0 k.1 k.2

  pub good-list : codes_refusal a codes ≡ 0 → GoodList a codes
  good-list e =
      let k = passed e in
      let r = in-turn-list (map cell_of codes) (codes-cells codes k.0) (in-turn e) in
      record { coded = k.0; own = k.1; rising = r.0; apart = r.1 }

  pub list-good : GoodList a codes → codes_refusal a codes ≡ 0
  unfolding ◌otherwise◌
  list-good g = tested g.coded g.own (list-ordered a codes g.coded g.own g.rising g.apart)

  -- a code that is no cell's comes before all else
  pub four-exactly : (codes_refusal a codes ≡ 4) ↔ (all_codes codes ≡ false)
  unfolding ◌otherwise◌
  four-exactly = ((λ e. refuted (all_codes codes) (λ t. four (all_of a codes) (ordered codes) (sym (tested t refl refl) ∙ e))), (λ t. tested t refl refl))
    where
      four : (o r : Bool) → refuse (not true) 4 otherwise refuse (not o) 14 otherwise refuse (not r) 11 ≡ 4 → ⊥
      four true true e = omega arith
      four true false e = omega arith
      four false r e = omega arith

  pub coded : (codes_refusal a codes ≡ 4 → ⊥) → all_codes codes ≡ true
  coded h = go (all_codes codes) refl
    where
      go : (b : Bool) → all_codes codes ≡ b → b ≡ true
      go true e = refl
      go false e = absurd (h (four-exactly.1 e))

  pub not-four : all_codes codes ≡ true → codes_refusal a codes ≡ 4 → ⊥
  not-four t e = clash (sym t ∙ four-exactly.0 e)
