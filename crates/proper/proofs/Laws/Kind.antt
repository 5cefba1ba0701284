-- How kinds 1 and 4 are found by looking a cell up in two rising lists: the whole cells that lie in no other, and the cells of the answer. Assumes nothing.
use Rattle.std.specs.Prelude.{◌≡◌, refl, Bool, true, false, ◌&&◌, ◌||◌, not, List, [], ◌∷◌, eqb}
use Rattle.std.proofs.Common.{sym, ap₂, ◌∙◌, inl, inr, arith, eqb-true, eq-eqb}
use Rattle.logic.specs.Laws.Bools.{same_truth, clash, and_left, and_right}
use Rattle.reading.specs.declared.Level.TheVariants.{Faces}
use Rattle.reading.specs.Reading.{Nodes, Good, names}
use Rattle.reading.specs.Prefix.{Name, Prefix, SameNames, IsName, Ahead, AheadAll, InOrder}
use Rattle.reading.proofs.Laws.Ground.{covered_whole}
use Rattle.reading.proofs.Laws.Rising.{names-rise}
use Rattle.reading.proofs.Laws.Fewest.{mem-covered, prefix_trans}
use Rattle.reading.proofs.Laws.Built.{built-good, built-ground}
use Rattle.reading.specs.Loose.{Loose}
use Rattle.loose.proofs.Laws.Names.{names-loose}
use Rattle.proper.specs.Proper.{answer}
use Rattle.proper.specs.Changes.{Item, items, same, larger, any, has, names-whole, names-larger, stands-for, kind_1, kind-4}
use Rattle.logic.specs.Lists.{Mem}
use Rattle.logic.specs.Laws.Lists.{mem-all}
use Rattle.proper.proofs.Laws.Lists.{IMem, same_true, same_self, covered-mem, any_some, some-any, has-mem, mem-has}
use Rattle.proper.proofs.Laws.Change.{own_name, name-own}

-- the whole cells that lie in no other whole cell
pub record Largest (ms ns : List Name) : Type 0 where
  pub among : (m : Name) → Mem m ms → Mem m ns
  pub holds : (q : Name) → Mem q ns → (m : Name) × Mem m ms × Prefix m q
  pub apart : (m q : Name) → Mem m ms → Mem q ms → Prefix m q → m ≡ q

pub larger-prefix : (q p : Name) → larger q p ≡ true → Prefix q p × (Prefix p q → ⊥)
unfolding larger
larger-prefix [] [] e = clash (sym e)
larger-prefix [] (b ∷ p) e = (tt, (λ h. h))
larger-prefix (a ∷ q) [] e = clash (sym e)
larger-prefix (a ∷ q) (b ∷ p) e = let k = larger-prefix q p (and_right (eqb a b) _ e) in ((eqb-true a b (and_left (eqb a b) _ e), k.0), (λ h. k.1 h.1))

pub prefix-larger : (q p : Name) → Prefix q p → (q ≡ p → ⊥) → larger q p ≡ true
unfolding larger
prefix-larger [] [] h n = absurd (n refl)
prefix-larger [] (b ∷ p) h n = refl
prefix-larger (a ∷ q) [] h n = absurd h
prefix-larger (a ∷ q) (b ∷ p) h n = rw (eq-eqb a b h.0) (prefix-larger q p h.1 (λ e. n (ap₂ ◌∷◌ h.0 e)))

pub prefix-self : (q : Name) → Prefix q q
prefix-self [] = tt
prefix-self (a ∷ q) = (refl, prefix-self q)

pub prefix-both : (w q : Name) → Prefix w q → Prefix q w → w ≡ q
prefix-both [] [] h k = refl
prefix-both [] (b ∷ q) h k = absurd k
prefix-both (a ∷ w) [] h k = absurd h
prefix-both (a ∷ w) (b ∷ q) h k = ap₂ ◌∷◌ h.0 (prefix-both w q h.1 k.1)

ahead-not : (q p : Name) → Ahead q p → (Prefix q p → ⊥) × (Prefix p q → ⊥)
ahead-not [] p f = absurd f
ahead-not (a ∷ q) [] f = absurd f
ahead-not (a ∷ q) (b ∷ p) (inl f) = ((λ h. omega (arith, h.0)), (λ h. omega (arith, h.0)))
ahead-not (a ∷ q) (b ∷ p) (inr f) = let k = ahead-not q p f.1 in ((λ h. k.0 h.1), (λ h. k.1 h.1))

ahead-all-not : (q : Name) (ps : List Name) (p : Name) → AheadAll q ps → Mem p ps → (Prefix q p → ⊥) × (Prefix p q → ⊥)
ahead-all-not q [] p f m = absurd m
ahead-all-not q (x ∷ ps) p f (inl m) = ahead-not q p (rw m at f.0)
ahead-all-not q (x ∷ ps) p f (inr m) = ahead-all-not q ps p f.1 m

pub rise-apart : (ps : List Name) → InOrder ps → (m q : Name) → Mem m ps → Mem q ps → Prefix m q → m ≡ q
rise-apart [] r m q i j h = absurd i
rise-apart (x ∷ ps) r m q (inl i) (inl j) h = sym i ∙ j
rise-apart (x ∷ ps) r m q (inl i) (inr j) h = absurd ((ahead-all-not x ps q r.0 j).0 (rw i h))
rise-apart (x ∷ ps) r m q (inr i) (inl j) h = absurd ((ahead-all-not x ps m r.0 i).1 (rw j h))
rise-apart (x ∷ ps) r m q (inr i) (inr j) h = rise-apart ps r.1 m q i j h

opposite : (a b : Bool) → (a ≡ true → b ≡ true → ⊥) → ((b ≡ true → ⊥) → a ≡ true) → a ≡ not b
opposite true true f g = absurd (f refl refl)
opposite true false f g = refl
opposite false true f g = refl
opposite false false f g = g (λ e. clash (sym e))

module _ (root : Nodes) (g : Loose Faces 15 root) (ms : List Name) (l : Largest ms (names root)) where
  abbrev all : List Item
  all = items 7 [] 0 root

  named : (q : Name) → Mem q (names root) → (e : Item) × IMem e all × (e.own ≡ true) × (e.name ≡ q)
  named q m = own_name root 7 [] 0 q m

  whole_mem : (e : Item) → IMem e all → e.own ≡ true → Mem e.name (names root)
  whole_mem e m o = let k = name-own root 7 [] 0 e m o in rw k.2 k.1

  -- "one inside a larger whole cell named anywhere": one that is none of the largest
  pub in-larger : (q : Name) → Mem q (names root) → any (names-larger q) all ≡ not (has q ms)
  in-larger q i =
      opposite (any (names-larger q) all) (has q ms)
      (λ a b.
      let x = some-any (names-larger q) all a in
      let p = larger-prefix x.0.name q (and_right x.0.own _ x.2) in
      let m = l.holds x.0.name (whole_mem x.0 x.1 (and_left x.0.own _ x.2)) in
      let e : m.0 ≡ q = l.apart m.0 q m.1 (mem-has q ms b) (prefix_trans m.0 x.0.name q m.2 p.0) in
      p.1 (rw e at m.2))
      (λ b.
      let m = l.holds q i in
      let n : m.0 ≡ q → ⊥ = λ e. b (has-mem q ms (rw e at m.1)) in
      let k = named m.0 (l.among m.0 m.1) in
      let t : (k.0.own && larger k.0.name q) ≡ true = rw (k.2, k.3) (prefix-larger m.0 q m.2 n) in
      any_some (names-larger q) all k.0 k.1 t)

  good-answer : Good Faces 15 0 (answer root)
  unfolding answer
  good-answer = built-good (names root) (names-loose root Faces 15 g)

  ground : SameNames 6 15 (names root) (names (answer root))
  unfolding answer
  ground = built-ground (names root) (names-loose root Faces 15 g)

  -- a cell of the answer is named whole exactly where it is one of the largest
  pub answer-named : (q : Name) → Mem q (names (answer root)) → any (names-whole q) all ≡ has q ms
  answer-named q i =
      same_truth (any (names-whole q) all) (has q ms)
      (λ a.
      let x = some-any (names-whole q) all a in
      let s : x.0.name ≡ q = same_true x.0.name q (and_right x.0.own _ x.2) in
      let j : Mem q (names root) = rw s at (whole_mem x.0 x.1 (and_left x.0.own _ x.2)) in
      let m = l.holds q j in
      let n : Mem m.0 (names root) = l.among m.0 m.1 in
      let c = covered-mem (names (answer root)) m.0
      (covered_whole (answer root) Faces 15 15 6 m.0 good-answer (omega arith) (mem-all (IsName 6 15) (names root) m.0 (names-loose root Faces 15 g) n)
      (λ p f h. (ground p f).0 (mem-covered (names root) m.0 p n h))) in
      let e : c.0 ≡ q = rise-apart (names (answer root)) (names-rise (answer root) Faces 15 0 good-answer) c.0 q c.1 i (prefix_trans c.0 m.0 q c.2 m.2) in
      let d : m.0 ≡ q = prefix-both m.0 q m.2 (rw e at c.2) in
      has-mem q ms (rw d at m.1))
      (λ b.
      let k = named q (l.among q (mem-has q ms b)) in
      let t : (k.0.own && same k.0.name q) ≡ true = rw (k.2, k.3) (same_self q) in
      any_some (names-whole q) all k.0 k.1 t)

  -- so the two kinds are these tests
  pub first_kind_lem : (earlier : List Item) (e : Item) → IMem e all → kind_1 all earlier e ≡ (e.own && (any (names-whole e.name) earlier || not (has e.name ms)))
  first_kind_lem earlier e m = go e.own refl
    where
      go : (t : Bool) → e.own ≡ t → kind_1 all earlier e ≡ (e.own && (any (names-whole e.name) earlier || not (has e.name ms)))
      go true o = rw (in-larger e.name (whole_mem e m o)) refl
      go false o = rw o refl

  pub fourth-kind :
      (earlier : List Item) (e : Item) →
      kind-4 (names (answer root)) all earlier e ≡ (has e.name (names (answer root)) && (not (has e.name ms) && not (any (stands-for e.name) earlier)))
  fourth-kind earlier e = go (has e.name (names (answer root))) refl
    where
      go :
          (t : Bool) → has e.name (names (answer root)) ≡ t →
          kind-4 (names (answer root)) all earlier e ≡ (has e.name (names (answer root)) && (not (has e.name ms) && not (any (stands-for e.name) earlier)))
      go true h = rw (answer-named e.name (mem-has e.name (names (answer root)) h)) refl
      go false h = rw h refl
