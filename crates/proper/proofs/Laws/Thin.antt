-- What is left of rising codes is a good list, of the same ground. Assumes nothing.
use Rattle.std.specs.Prelude.{◌≡◌, Bool, false, ◌⊎◌, ℕ, ◌≤◌, ◌<◌, ltb}
use Rattle.std.proofs.Math.Path.{refl, ap₂}
use Rattle.std.proofs.Common.{◌∙◌, arith}
use Rattle.std.proofs.Math.Bool.{true, ◌&&◌, not}
use Rattle.std.proofs.Math.Logic.{inl, inr, ⊎_elim}
use mathlib.Core.List.{List, [], ◌∷◌, map}
use borrow.Author.Tests.{ltb-true, ltb-false, lt-ltb, le-leb}
use Rattle.logic.specs.Refusal.{◌otherwise◌}
use Rattle.logic.specs.Laws.Order.{three_ways}
use Rattle.logic.specs.Laws.Bools.{by_cond}
use Rattle.cell.specs.declared.Cell.{Cell}
use Rattle.cell.specs.declared.Arrangement.{Arrangement}
use Rattle.cell.specs.Cell.{IsCell}
use Rattle.code.specs.Code.{cell_of, cell_code, is_code, arrangement_of}
use Rattle.code.proofs.Laws.Code.{code-is-cell, codes-order, arrangement-of}
use Rattle.code.specs.Inside.{Inside, Within, start_of, end_of, lies_within}
use Rattle.code.proofs.Laws.Inside.{inside-within, within-inside, lies_within_lem, next-before}
use Rattle.reading.specs.Ground.{Covers, SameGround}
use Rattle.reading.proofs.Laws.Rising.{code-before}
use Rattle.writing.specs.Write.{all_codes, all_of, ordered, codes_refusal}
use Rattle.writing.proofs.Laws.List.{not-lies, tested}
use Rattle.sorting.specs.Sorted.{Least, Rising}
use Rattle.proper.specs.Thin.{thinned, Coded}

-- ---- codes of one arrangement

pub coded-all : (a : Arrangement) (cs : List ℕ) → Coded a cs → all_codes cs ≡ true
unfolding all_codes
coded-all a [] d = refl
coded-all a (c ∷ cs) d = ap₂ ◌&&◌ d.0.0 (coded-all a cs d.1)

coded-of : (a : Arrangement) (cs : List ℕ) → Coded a cs → all_of a cs ≡ true
unfolding all_of
coded-of a [] d = refl
coded-of a (c ∷ cs) d = ap₂ ◌&&◌ (arrangement-of a c d.0.1) (coded-of a cs d.1)

-- a later code that starts before an earlier cell ends lies inside it
later-within :
    (a : Arrangement) (k c : ℕ) → (is_code k ≡ true) × (arrangement_of k ≡ a) → (is_code c ≡ true) × (arrangement_of c ≡ a) → k ≤ c →
    start_of (cell_of c) < end_of (cell_of k) → Within (cell_of k) (cell_of c)
later-within a k c i j h l =
    ⊎_elim
    (λ m. go (lies_within (cell_of k) (cell_of c)) refl ((codes-order k c i.0 j.0 i.1 j.1).0 m))
    (λ m. ⊎_elim (λ e. rw e (record { from = omega arith; to = omega arith })) (λ e. absurd (omega arith)) m)
    (three_ways k c)
  where
    go : (b : Bool) → lies_within (cell_of k) (cell_of c) ≡ b → cell_code (cell_of k) < cell_code (cell_of c) → Within (cell_of k) (cell_of c)
    go true e m = lies_within_lem (cell_of k) (cell_of c) e
    go false e m = absurd (omega (arith, next-before (cell_of k) (cell_of c) (code-is-cell k i.0) (code-is-cell c j.0) m e))

-- ---- the list is good

module _ (a : Arrangement) where
  pub thinned-coded : (from : ℕ) (cs : List ℕ) → Coded a cs → Coded a (thinned from cs)
  unfolding thinned
  thinned-coded from [] d = tt
  thinned-coded from (c ∷ cs) d =
      by_cond (Coded a) (ltb (start_of (cell_of c)) from) (λ e. thinned-coded from cs d.1) (λ e. (d.0, thinned-coded (end_of (cell_of c)) cs d.1))

  -- the first one starts at `from` or later
  abbrev Starts : ℕ → List ℕ → Type 0
  Starts from [] = Unit {0}
  Starts from (c ∷ cs) = (from ≤ start_of (cell_of c))

  thinned-starts : (from : ℕ) (cs : List ℕ) → Starts from (thinned from cs)
  unfolding thinned
  thinned-starts from [] = tt
  thinned-starts from (c ∷ cs) =
      by_cond (Starts from) (ltb (start_of (cell_of c)) from) (λ e. thinned-starts from cs) (λ e. ltb-false (start_of (cell_of c)) from e)

  ordered-front : (c : ℕ) (cs : List ℕ) → Coded a (c ∷ cs) → Starts (end_of (cell_of c)) cs → ordered cs ≡ true → ordered (c ∷ cs) ≡ true
  unfolding ordered
  ordered-front c [] d s o = refl
  ordered-front c (x ∷ cs) d s o =
      let v : IsCell (cell_of c) = code-is-cell c d.0.0 in
      let w : IsCell (cell_of x) = code-is-cell x d.1.0.0 in
      let l : cell_code (cell_of c) < cell_code (cell_of x) = code-before (cell_of c) (cell_of x) v w s in
      let n : not (lies_within (cell_of c) (cell_of x)) ≡ true = not-lies (cell_of c) (cell_of x) v w l ∙ le-leb (end_of (cell_of c)) (start_of (cell_of x)) s in
      ap₂ ◌&&◌ (lt-ltb c x ((codes-order c x d.0.0 d.1.0.0 d.0.1 d.1.0.1).1 l)) (ap₂ ◌&&◌ n o)

  thinned-ordered : (from : ℕ) (cs : List ℕ) → Coded a cs → ordered (thinned from cs) ≡ true
  unfolding thinned ordered
  thinned-ordered from [] d = refl
  thinned-ordered from (c ∷ cs) d =
      by_cond (λ (l : List ℕ). ordered l ≡ true) (ltb (start_of (cell_of c)) from) (λ e. thinned-ordered from cs d.1)
      (λ e.
      ordered-front c (thinned (end_of (cell_of c)) cs) (d.0, thinned-coded (end_of (cell_of c)) cs d.1) (thinned-starts (end_of (cell_of c)) cs)
      (thinned-ordered (end_of (cell_of c)) cs d.1))

  -- the writer takes it
  pub thinned-good : (cs : List ℕ) → Coded a cs → codes_refusal a (thinned 0 cs) ≡ 0
  unfolding ◌otherwise◌
  thinned-good cs d =
      let e = thinned-coded 0 cs d in
      tested a (thinned 0 cs) (coded-all a (thinned 0 cs) e) (coded-of a (thinned 0 cs) e) (thinned-ordered 0 cs d)

-- ---- the ground is the same

thinned-inner : (from : ℕ) (cs : List ℕ) (x : Cell) → Covers (map cell_of (thinned from cs)) x → Covers (map cell_of cs) x
unfolding thinned
thinned-inner from [] x h = h
thinned-inner from (c ∷ cs) x h =
    by_cond (λ (l : List ℕ). Covers (map cell_of l) x → Covers (map cell_of (c ∷ cs)) x) (ltb (start_of (cell_of c)) from) (λ e k. inr (thinned-inner from cs x k))
    (λ e. ⊎_elim (λ k. inl k) (λ k. inr (thinned-inner (end_of (cell_of c)) cs x k)))
    h

-- what a cell behind k covers, k covers or what is left covers
module _ (a : Arrangement) (x : Cell) (v : IsCell x) where
  in-larger : (k c : ℕ) → is_code k ≡ true → is_code c ≡ true → Within (cell_of k) (cell_of c) → Inside (cell_of c) x → Inside (cell_of k) x
  in-larger k c i j w h =
      let t : Within (cell_of c) x = inside-within (cell_of c) x (code-is-cell c j) v h in
      within-inside (cell_of k) x (code-is-cell k i) v (record { from = omega (arith, t.from, w.from); to = omega (arith, t.to, w.to) })

  behind :
      (k : ℕ) (cs : List ℕ) → (is_code k ≡ true) × (arrangement_of k ≡ a) → Coded a cs → Least k cs → Rising cs → Covers (map cell_of cs) x →
      Inside (cell_of k) x ⊎ Covers (map cell_of (thinned (end_of (cell_of k)) cs)) x
  unfolding thinned
  behind k [] i d l r h = absurd h
  behind k (c ∷ cs) i d l r h =
      by_cond (λ (m : List ℕ). Inside (cell_of k) x ⊎ Covers (map cell_of m) x) (ltb (start_of (cell_of c)) (end_of (cell_of k)))
      (λ e.
      let w : Within (cell_of k) (cell_of c) = later-within a k c i d.0 l.0 (ltb-true (start_of (cell_of c)) (end_of (cell_of k)) e) in
      ⊎_elim (λ p. inl (in-larger k c i.0 d.0.0 w p)) (λ p. behind k cs i d.1 l.1 r.1 p) h)
      (λ e. ⊎_elim (λ p. inr (inl p)) (λ p. inr (behind c cs d.0 d.1 r.0 r.1 p)) h)

  pub outer : (cs : List ℕ) → Coded a cs → Rising cs → Covers (map cell_of cs) x → Covers (map cell_of (thinned 0 cs)) x
  unfolding thinned
  outer [] d r h = h
  outer (c ∷ cs) d r h =
      by_cond (λ (m : List ℕ). Covers (map cell_of m) x) (ltb (start_of (cell_of c)) 0) (λ e. absurd (omega (arith, ltb-true (start_of (cell_of c)) 0 e)))
      (λ e. ⊎_elim (λ p. inl p) (λ p. behind c cs d.0 d.1 r.0 r.1 p) h)

pub thinned-ground : (a : Arrangement) (cs : List ℕ) → Coded a cs → Rising cs → SameGround (map cell_of cs) (map cell_of (thinned 0 cs))
thinned-ground a cs d r x f = ((λ h. outer a x f.cell cs d r h), (λ h. thinned-inner 0 cs x h))
