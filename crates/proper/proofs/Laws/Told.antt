-- The four kinds of change as 02 says them: by places in the text, with no list of what stands earlier. Assumes nothing.
use Rattle.std.specs.Prelude.{◌≡◌, Bool, true, false, ◌&&◌, not, ◌↔◌, ◌⊎◌, ℕ, suc, ◌+◌, ◌≤◌, ◌<◌, ltb, length}
use Rattle.std.proofs.Math.Path.{refl, subst}
use Rattle.std.proofs.Common.{sym, ap, ◌∙◌, arith, ltb-true, lt-ltb}
use Rattle.std.proofs.Math.Logic.{inl, inr, ⊎_elim}
use mathlib.Core.List.{List, [], ◌∷◌, ◌++◌}
use Rattle.logic.specs.Lists.{Mem}
use Rattle.logic.specs.Laws.Bools.{clash, and_left, and_right, or-either, or-left-true, or-right-true}
use Rattle.logic.specs.Laws.Lists.{any_left, any-right, any-or}
use Rattle.logic.specs.Laws.Order.{lt-or}
use Rattle.reading.specs.declared.Level.TheVariants.{Digits}
use Rattle.reading.specs.Reading.{Nodes, end, whole, listed, render, names}
use Rattle.reading.specs.Prefix.{Name, Prefix}
use Rattle.proper.specs.Proper.{answer}
use Rattle.proper.specs.Changes.{Item, Change, is_end, items, same, any, has, names-whole, names-larger, stands-for}
use Rattle.proper.specs.Changes.{kind_1, kind_2, kind_3, kind-4, when, changes_at, changes_from, changes}
use Rattle.proper.proofs.Laws.Lists.{IMem, same_true, same_self, imem-left, imem-right, imem-or, any_some, some-any, has-mem, mem-has}
use Rattle.proper.proofs.Laws.Given.{at}
use Rattle.proper.proofs.Laws.Change.{own_name, name-own}
use Rattle.proper.proofs.Laws.Kind.{larger-prefix, prefix-larger, prefix-self}
use Rattle.proper.proofs.Laws.Order.{Spaced, items-spaced, when-mem}

-- ---- what stands earlier is what stands at a lower place

abbrev Front : (all front : List Item) → Item → Type 0
Front all front e =
    (d : Item) → (IMem d front → IMem d all × (d.place < e.place)) × (IMem d all → d.place < e.place → IMem d front)

-- all the items: some earlier, and some that follow
record Parts (all earlier es : List Item) : Type 0 where
  spaced : Spaced es
  parts : (d : Item) → IMem d all → IMem d earlier ⊎ IMem d es
  old : (d : Item) → IMem d earlier → IMem d all
  new : (d : Item) → IMem d es → IMem d all
  apart : (d y : Item) → IMem d earlier → IMem y es → d.place < y.place

not-later : (e : Item) (es : List Item) → Spaced (e ∷ es) → (d : Item) → d.place < e.place → IMem d (e ∷ es) → ⊥
not-later e es s d h (inl m) = let z : e.place ≡ d.place = ap (λ (x : Item). x.place) m in omega arith
not-later e es s d h (inr m) = omega (arith, (s.0 d m).0)

module _ (all : List Item) where
  in-front : (earlier : List Item) (e : Item) (es : List Item) → Parts all earlier (e ∷ es) → Front all earlier e
  in-front earlier e es v d = (
    (λ m. (v.old d m, v.apart d e m (inl refl))),
    (λ m h. ⊎_elim (λ k. k) (λ k. absurd (not-later e es v.spaced d h k)) (v.parts d m)),
  )

  on : (earlier : List Item) (e : Item) (es : List Item) → Parts all earlier (e ∷ es) → Parts all (e ∷ earlier) es
  on earlier e es v =
      record {
        spaced = v.spaced.1;
        parts = λ d m. ⊎_elim (λ k. inl (inr k)) (λ k. ⊎_elim (λ j. inl (inl j)) (λ j. inr j) k) (v.parts d m);
        old = λ d m. ⊎_elim (λ k. v.new d (inl k)) (λ k. v.old d k) m;
        new = λ d m. v.new d (inr m);
        apart = λ d y m n. ⊎_elim (λ k. moved d y k (v.spaced.0 y n).0) (λ k. v.apart d y k (inr n)) m;
      }
    where
      moved : (d y : Item) → e ≡ d → e.place + 1 ≤ y.place → d.place < y.place
      moved d y k h = let z : e.place ≡ d.place = ap (λ (x : Item). x.place) k in omega arith

  module _ (cells : List Name) where
    -- a change is told at an item, with those before it in front
    told-by :
        (es earlier : List Item) → Parts all earlier es → (y : Change) → Mem y (changes_from cells all earlier es) →
        (e : Item) × (front : List Item) × IMem e es × Front all front e × Mem y (changes_at cells all front e)
    unfolding changes_from
    told-by [] earlier v y m = absurd m
    told-by (e ∷ es) earlier v y m =
        ⊎_elim (λ k. (e, earlier, inl refl, in-front earlier e es v, k))
        (λ k. let i = told-by es (e ∷ earlier) (on earlier e es v) y k in (i.0, i.1, inr i.2, i.3, i.4))
        (any-or (λ (x : Change). x ≡ y) (changes_at cells all earlier e) (changes_from cells all (e ∷ earlier) es) m)

    -- and so at each item
    tells :
        (es earlier : List Item) → Parts all earlier es → (e : Item) → IMem e es →
        (front : List Item) × Front all front e × ((y : Change) → Mem y (changes_at cells all front e) → Mem y (changes_from cells all earlier es))
    unfolding changes_from
    tells [] earlier v e m = absurd m
    tells (x ∷ es) earlier v e (inl m) = (
      earlier,
      subst (Front all earlier) m (in-front earlier x es v),
      (λ y k.
          any_left (λ (z : Change). z ≡ y) (changes_at cells all earlier x) (changes_from cells all (x ∷ earlier) es)
          (subst (λ (z : Item). Mem y (changes_at cells all earlier z)) (sym m) k)),
    )
    tells (x ∷ es) earlier v e (inr m) =
        let i = tells es (x ∷ earlier) (on earlier x es v) e m in (
          i.0,
          i.1,
          (λ y k. any-right (λ (z : Change). z ≡ y) (changes_at cells all earlier x) (changes_from cells all (x ∷ earlier) es) (i.2 y k)),
        )

-- ---- what is told at one item

when-at : (t : Bool) (q k p j : ℕ) → Mem (at p j) (when t (at q k)) → (t ≡ true) × (q ≡ p) × (k ≡ j)
when-at t q k p j m =
    let h = when-mem t (at q k) (at p j) m in (h.0, ap (λ (x : Change). x.place) h.1, ap (λ (x : Change). x.kind) h.1)

when_true : (t : Bool) (x : Change) → t ≡ true → Mem x (when t x)
when_true true x e = inl refl
when_true false x e = clash (sym e)

module _ (a b c d : Bool) (q : ℕ) where
  abbrev four : List Change
  four = when a (at q 1) ++ (when b (at q 2) ++ (when c (at q 4) ++ when d (at (q + 1) 3)))

  abbrev Of : (p j : ℕ) → Type 0
  Of p j =
      ((a ≡ true) × (q ≡ p) × (1 ≡ j)) ⊎
      (((b ≡ true) × (q ≡ p) × (2 ≡ j)) ⊎ (((c ≡ true) × (q ≡ p) × (4 ≡ j)) ⊎ ((d ≡ true) × (q + 1 ≡ p) × (3 ≡ j))))

  four-of : (p j : ℕ) → Mem (at p j) four → Of p j
  four-of p j m =
      ⊎_elim (λ h. inl (when-at a q 1 p j h))
      (λ h.
      ⊎_elim (λ i. inr (inl (when-at b q 2 p j i)))
      (λ i.
      ⊎_elim (λ k. inr (inr (inl (when-at c q 4 p j k)))) (λ k. inr (inr (inr (when-at d (q + 1) 3 p j k))))
      (any-or (λ (x : Change). x ≡ at p j) (when c (at q 4)) (when d (at (q + 1) 3)) i))
      (any-or (λ (x : Change). x ≡ at p j) (when b (at q 2)) (when c (at q 4) ++ when d (at (q + 1) 3)) h))
      (any-or (λ (x : Change). x ≡ at p j) (when a (at q 1)) (when b (at q 2) ++ (when c (at q 4) ++ when d (at (q + 1) 3))) m)

  is-1 : (p : ℕ) → Of p 1 → (a ≡ true) × (q ≡ p)
  is-1 p (inl h) = (h.0, h.1)
  is-1 p (inr (inl h)) = absurd (omega (arith, h.2))
  is-1 p (inr (inr (inl h))) = absurd (omega (arith, h.2))
  is-1 p (inr (inr (inr h))) = absurd (omega (arith, h.2))

  is-2 : (p : ℕ) → Of p 2 → (b ≡ true) × (q ≡ p)
  is-2 p (inl h) = absurd (omega (arith, h.2))
  is-2 p (inr (inl h)) = (h.0, h.1)
  is-2 p (inr (inr (inl h))) = absurd (omega (arith, h.2))
  is-2 p (inr (inr (inr h))) = absurd (omega (arith, h.2))

  is-4 : (p : ℕ) → Of p 4 → (c ≡ true) × (q ≡ p)
  is-4 p (inl h) = absurd (omega (arith, h.2))
  is-4 p (inr (inl h)) = absurd (omega (arith, h.2))
  is-4 p (inr (inr (inl h))) = (h.0, h.1)
  is-4 p (inr (inr (inr h))) = absurd (omega (arith, h.2))

  is-3 : (p : ℕ) → Of p 3 → (d ≡ true) × (q + 1 ≡ p)
  is-3 p (inl h) = absurd (omega (arith, h.2))
  is-3 p (inr (inl h)) = absurd (omega (arith, h.2))
  is-3 p (inr (inr (inl h))) = absurd (omega (arith, h.2))
  is-3 p (inr (inr (inr h))) = (h.0, h.1)

  put_1 : a ≡ true → Mem (at q 1) four
  put_1 e = any_left (λ (x : Change). x ≡ at q 1) (when a (at q 1)) _ (when_true a (at q 1) e)

  put_2 : b ≡ true → Mem (at q 2) four
  put_2 e =
      any-right (λ (x : Change). x ≡ at q 2) (when a (at q 1)) _
      (any_left (λ (x : Change). x ≡ at q 2) (when b (at q 2)) _ (when_true b (at q 2) e))

  put_4 : c ≡ true → Mem (at q 4) four
  put_4 e =
      any-right (λ (x : Change). x ≡ at q 4) (when a (at q 1)) _
      (any-right (λ (x : Change). x ≡ at q 4) (when b (at q 2)) _
      (any_left (λ (x : Change). x ≡ at q 4) (when c (at q 4)) _ (when_true c (at q 4) e)))

  put_3 : d ≡ true → Mem (at (q + 1) 3) four
  put_3 e =
      any-right (λ (x : Change). x ≡ at (q + 1) 3) (when a (at q 1)) _
      (any-right (λ (x : Change). x ≡ at (q + 1) 3) (when b (at q 2)) _
      (any-right (λ (x : Change). x ≡ at (q + 1) 3) (when c (at q 4)) _ (when_true d (at (q + 1) 3) e)))

-- ---- the kinds

-- "names a whole cell named whole earlier"
abbrev pub NamedEarlier : List Item → Item → Type 0
NamedEarlier all e = (d : Item) × IMem d all × (d.own ≡ true) × (d.name ≡ e.name) × (d.place < e.place)

-- "or one inside a larger whole cell named anywhere"
abbrev pub InLarger : List Item → Item → Type 0
InLarger all e = (d : Item) × IMem d all × (d.own ≡ true) × Prefix d.name e.name × (Prefix e.name d.name → ⊥)

module _ (ns : Nodes) where
  abbrev all : List Item
  all = items 7 [] 0 ns

  start : Parts all [] all
  start = record { spaced = items-spaced ns 7 [] 0; parts = λ d m. inr m; old = λ d m. absurd m; new = λ d m. m; apart = λ d y m n. absurd m }

  -- a change stands in the list exactly where an item tells it
  by : (y : Change) → Mem y (changes ns) → (e : Item) × (front : List Item) × IMem e all × Front all front e × Mem y (changes_at (names (answer ns)) all front e)
  unfolding changes
  by y m = told-by all (names (answer ns)) all [] start y m

  tell :
      (e : Item) → IMem e all →
      (front : List Item) × Front all front e × ((y : Change) → Mem y (changes_at (names (answer ns)) all front e) → Mem y (changes ns))
  unfolding changes
  tell e m = tells all (names (answer ns)) all [] start e m

  one : (front : List Item) (e : Item) → Front all front e → kind_1 all front e ≡ true → (e.own ≡ true) × (NamedEarlier all e ⊎ InLarger all e)
  one front e f h = (
    and_left e.own _ h,
    ⊎_elim
        (λ k.
        let x = some-any (names-whole e.name) front k in
        let i = (f x.0).0 x.1 in
        inl (x.0, i.0, and_left x.0.own _ x.2, same_true x.0.name e.name (and_right x.0.own _ x.2), i.1))
        (λ k.
        let x = some-any (names-larger e.name) all k in
        let i = larger-prefix x.0.name e.name (and_right x.0.own _ x.2) in
        inr (x.0, x.1, and_left x.0.own _ x.2, i.0, i.1))
        (or-either (any (names-whole e.name) front) _ (and_right e.own _ h)),
  )

  both : (a b : Bool) → a ≡ true → b ≡ true → (a && b) ≡ true
  both true b e f = f
  both false b e f = clash (sym e)

  earlier-so : (front : List Item) (e : Item) → Front all front e → e.own ≡ true → NamedEarlier all e → kind_1 all front e ≡ true
  earlier-so front e f o x =
      let s : same x.0.name e.name ≡ true = subst (λ (q : Name). same q e.name ≡ true) (sym x.3) (same_self e.name) in
      both e.own _ o
      (or-left-true (any (names-whole e.name) front) _
      (any_some (names-whole e.name) front x.0 ((f x.0).1 x.1 x.4) (both x.0.own _ x.2 s)))

  larger-so : (front : List Item) (e : Item) → e.own ≡ true → InLarger all e → kind_1 all front e ≡ true
  larger-so front e o x =
      let n : x.0.name ≡ e.name → ⊥ = λ z. x.4 (subst (λ (q : Name). Prefix e.name q) (sym z) (prefix-self e.name)) in
      both e.own _ o
      (or-right-true (any (names-whole e.name) front) _
      (any_some (names-larger e.name) all x.0 x.1 (both x.0.own _ x.2 (prefix-larger x.0.name e.name x.3 n))))

  -- "Kind 1 is a letter or digit that names a whole cell named whole earlier, or one inside a larger whole cell named anywhere."
  pub told-1 : (p : ℕ) → Mem (at p 1) (changes ns) ↔ ((e : Item) × IMem e all × (e.place ≡ p) × (e.own ≡ true) × (NamedEarlier all e ⊎ InLarger all e))
  told-1 p = (
    (λ m.
        let x = by (at p 1) m in
        let k = is-1 (kind_1 all x.1 x.0) (kind_2 x.0) (kind-4 (names (answer ns)) all x.1 x.0) (kind_3 x.0) x.0.place p
        (four-of (kind_1 all x.1 x.0) (kind_2 x.0) (kind-4 (names (answer ns)) all x.1 x.0) (kind_3 x.0) x.0.place p 1 x.4) in
        let i = one x.1 x.0 x.3 k.0 in
        (x.0, x.2, k.1, i.0, i.1)),
    (λ x.
        let t = tell x.0 x.1 in
        let k : kind_1 all t.0 x.0 ≡ true = ⊎_elim (λ h. earlier-so t.0 x.0 t.1 x.3 h) (λ h. larger-so t.0 x.0 x.3 h) x.4 in
        subst (λ (q : ℕ). Mem (at q 1) (changes ns)) x.2 (t.2 (at x.0.place 1)
        (put_1 (kind_1 all t.0 x.0) (kind_2 x.0) (kind-4 (names (answer ns)) all t.0 x.0) (kind_3 x.0) x.0.place k))),
  )

  -- "Kind 3 is the opening bracket of an empty list."
  pub told-void : (p : ℕ) → Mem (at p 3) (changes ns) ↔ ((e : Item) × IMem e all × (e.place + 1 ≡ p) × (e.void ≡ true))
  told-void p = (
    (λ m.
        let x = by (at p 3) m in
        let k = is-3 (kind_1 all x.1 x.0) (kind_2 x.0) (kind-4 (names (answer ns)) all x.1 x.0) (kind_3 x.0) x.0.place p
        (four-of (kind_1 all x.1 x.0) (kind_2 x.0) (kind-4 (names (answer ns)) all x.1 x.0) (kind_3 x.0) x.0.place p 3 x.4) in
        (x.0, x.2, k.1, k.0)),
    (λ x.
        let t = tell x.0 x.1 in
        subst (λ (q : ℕ). Mem (at q 3) (changes ns)) x.2 (t.2 (at (x.0.place + 1) 3)
        (put_3 (kind_1 all t.0 x.0) (kind_2 x.0) (kind-4 (names (answer ns)) all t.0 x.0) (kind_3 x.0) x.0.place x.3))),
  )

  -- "for each cell whole in the answer and nowhere named whole, the first letter or digit standing for it"
  abbrev pub FirstFor : Item → Type 0
  FirstFor e =
      Mem e.name (names (answer ns)) × (Mem e.name (names ns) → ⊥) × ((d : Item) → IMem d all → d.name ≡ e.name → e.place ≤ d.place)

  not-true : (b : Bool) → not b ≡ true → b ≡ false
  not-true true e = clash (sym e)
  not-true false e = refl

  true-not : (b : Bool) → (b ≡ true → ⊥) → not b ≡ true
  true-not true h = absurd (h refl)
  true-not false h = refl

  named-whole : (q : Name) → Mem q (names ns) → any (names-whole q) all ≡ true
  named-whole q m =
      let k = own_name ns 7 [] 0 q m in
      let s : same k.0.name q ≡ true = subst (λ (z : Name). same z q ≡ true) (sym k.3) (same_self q) in
      any_some (names-whole q) all k.0 k.1 (both k.0.own _ k.2 s)

  whole-named : (q : Name) → any (names-whole q) all ≡ true → Mem q (names ns)
  whole-named q h =
      let x = some-any (names-whole q) all h in
      let k = name-own ns 7 [] 0 x.0 x.1 (and_left x.0.own _ x.2) in
      subst (λ (z : Name). Mem z (names ns)) (sym k.2 ∙ same_true x.0.name q (and_right x.0.own _ x.2)) k.1

  four-first : (front : List Item) (e : Item) → Front all front e → kind-4 (names (answer ns)) all front e ≡ true → FirstFor e
  four-first front e f h =
      let r = and_right (has e.name (names (answer ns))) _ h in
      let w : any (names-whole e.name) all ≡ false = not-true _ (and_left (not (any (names-whole e.name) all)) _ r) in
      let s : any (stands-for e.name) front ≡ false = not-true _ (and_right (not (any (names-whole e.name) all)) _ r) in (
        mem-has e.name (names (answer ns)) (and_left (has e.name (names (answer ns))) _ h),
        (λ m. clash (sym (named-whole e.name m) ∙ w)),
        (λ d m n.
            ⊎_elim
            (λ k.
            let z : same d.name e.name ≡ true = subst (λ (q : Name). same q e.name ≡ true) (sym n) (same_self e.name) in
            clash (sym (any_some (stands-for e.name) front d ((f d).1 m k) z) ∙ s))
            (λ k. k) (lt-or d.place e.place)),
      )

  first-four : (front : List Item) (e : Item) → Front all front e → FirstFor e → kind-4 (names (answer ns)) all front e ≡ true
  first-four front e f x =
      both (has e.name (names (answer ns))) _ (has-mem e.name (names (answer ns)) x.0)
      (both (not (any (names-whole e.name) all)) _ (true-not _ (λ h. x.1 (whole-named e.name h)))
      (true-not _
      (λ h.
      let y = some-any (stands-for e.name) front h in
      let i = (f y.0).0 y.1 in
      omega (arith, i.1, x.2 y.0 i.0 (same_true y.0.name e.name y.2)))))

  -- "Kind 4 is, for each cell whole in the answer and nowhere named whole, the first letter or digit standing for it."
  pub told-4 : (p : ℕ) → Mem (at p 4) (changes ns) ↔ ((e : Item) × IMem e all × (e.place ≡ p) × FirstFor e)
  told-4 p = (
    (λ m.
        let x = by (at p 4) m in
        let k = is-4 (kind_1 all x.1 x.0) (kind_2 x.0) (kind-4 (names (answer ns)) all x.1 x.0) (kind_3 x.0) x.0.place p
        (four-of (kind_1 all x.1 x.0) (kind_2 x.0) (kind-4 (names (answer ns)) all x.1 x.0) (kind_3 x.0) x.0.place p 4 x.4) in
        (x.0, x.2, k.1, four-first x.1 x.0 x.3 k.0)),
    (λ x.
        let t = tell x.0 x.1 in
        let k = first-four t.0 x.0 t.1 x.3 in
        subst (λ (q : ℕ). Mem (at q 4) (changes ns)) x.2 (t.2 (at x.0.place 4)
        (put_4 (kind_1 all t.0 x.0) (kind_2 x.0) (kind-4 (names (answer ns)) all t.0 x.0) (kind_3 x.0) x.0.place k))),
  )

-- ---- the one right before in the same list or body

-- the first number of these nodes
abbrev pub Heads : Nodes → ℕ → Type 0
Heads end c = ⊥
Heads (whole a ns) c = a ≡ c
Heads (listed a is ns) c = a ≡ c

-- of nodes from the place p on: c stands at the place q, and b right before it in the same list or body
abbrev pub Beside : (p : ℕ) → Nodes → (q b c : ℕ) → Type 0
Beside p end q b c = ⊥
Beside p (whole a ns) q b c = (Heads ns c × (a ≡ b) × (p + 1 ≡ q)) ⊎ Beside (p + 1) ns q b c
Beside p (listed a is ns) q b c =
    (Heads ns c × (a ≡ b) × (p + 3 + length (render Digits is) ≡ q)) ⊎
    (Beside (p + 2) is q b c ⊎ Beside (p + 3 + length (render Digits is)) ns q b c)

abbrev Below : (p lo : ℕ) → Nodes → Item → Type 0
Below p lo ns e = (c : ℕ) × Heads ns c × (c < lo) × (p ≡ e.place)

abbrev Falls : (p : ℕ) → Nodes → ℕ → Type 0
Falls p ns q = (b : ℕ) × (c : ℕ) × Beside p ns q b c × (c ≤ b)

late-falls :
    (ns : Nodes) (p : ℕ) (w : Name) (lo : ℕ) (e : Item) → IMem e (items p w lo ns) → e.late ≡ true → Below p lo ns e ⊎ Falls p ns e.place
late-falls end p w lo e m h = absurd m
late-falls (whole a ns) p w lo e (inl m) h =
    inl (a, refl, ltb-true a lo (ap (λ (x : Item). x.late) m ∙ h), ap (λ (x : Item). x.place) m)
late-falls (whole a ns) p w lo e (inr m) h =
    ⊎_elim (λ k. inr (a, k.0, inl (k.1, refl, k.3), omega (arith, k.2))) (λ k. inr (k.0, k.1, inr k.2, k.3))
    (late-falls ns (p + 1) w (suc a) e m h)
late-falls (listed a is ns) p w lo e (inl m) h =
    inl (a, refl, ltb-true a lo (ap (λ (x : Item). x.late) m ∙ h), ap (λ (x : Item). x.place) m)
late-falls (listed a is ns) p w lo e (inr m) h =
    ⊎_elim
    (λ i.
    ⊎_elim (λ k. absurd (omega (arith, k.2))) (λ k. inr (k.0, k.1, inr (inl k.2), k.3))
    (late-falls is (p + 2) (w ++ (a ∷ [])) 0 e i h))
    (λ i.
    ⊎_elim (λ k. inr (a, k.0, inl (k.1, refl, k.3), omega (arith, k.2))) (λ k. inr (k.0, k.1, inr (inr k.2), k.3))
    (late-falls ns (p + 3 + length (render Digits is)) w (suc a) e i h))
    (imem-or e (items (p + 2) (w ++ (a ∷ [])) 0 is) _ m)

-- an item at this place that is not above the one right before it
abbrev LateAt : List Item → ℕ → Type 0
LateAt es q = (e : Item) × IMem e es × (e.place ≡ q) × (e.late ≡ true)

first-late : (ns : Nodes) (p : ℕ) (w : Name) (lo c : ℕ) → Heads ns c → c < lo → LateAt (items p w lo ns) p
first-late end p w lo c h l = absurd h
first-late (whole a ns) p w lo c h l =
    (record { place = p; name = w ++ (a ∷ []); own = true; late = ltb a lo; void = false }, inl refl, refl, lt-ltb a lo (omega arith))
first-late (listed a is ns) p w lo c h l =
    (record { place = p; name = w ++ (a ∷ []); own = false; late = ltb a lo; void = is_end is }, inl refl, refl, lt-ltb a lo (omega arith))

falls-late : (ns : Nodes) (p : ℕ) (w : Name) (lo q b c : ℕ) → Beside p ns q b c → c ≤ b → LateAt (items p w lo ns) q
falls-late end p w lo q b c h l = absurd h
falls-late (whole a ns) p w lo q b c (inl h) l =
    let k = first-late ns (p + 1) w (suc a) c h.0 (omega (arith, h.1)) in (k.0, inr k.1, k.2 ∙ h.2, k.3)
falls-late (whole a ns) p w lo q b c (inr h) l = let k = falls-late ns (p + 1) w (suc a) q b c h l in (k.0, inr k.1, k.2, k.3)
falls-late (listed a is ns) p w lo q b c (inl h) l =
    let k = first-late ns (p + 3 + length (render Digits is)) w (suc a) c h.0 (omega (arith, h.1)) in
    (k.0, inr (imem-right k.0 (items (p + 2) (w ++ (a ∷ [])) 0 is) _ k.1), k.2 ∙ h.2, k.3)
falls-late (listed a is ns) p w lo q b c (inr (inl h)) l =
    let k = falls-late is (p + 2) (w ++ (a ∷ [])) 0 q b c h l in
    (k.0, inr (imem-left k.0 (items (p + 2) (w ++ (a ∷ [])) 0 is) _ k.1), k.2, k.3)
falls-late (listed a is ns) p w lo q b c (inr (inr h)) l =
    let k = falls-late ns (p + 3 + length (render Digits is)) w (suc a) q b c h l in
    (k.0, inr (imem-right k.0 (items (p + 2) (w ++ (a ∷ [])) 0 is) _ k.1), k.2, k.3)

-- "Kind 2 is a letter or digit not above the one right before it in the same list or body."
pub told-2 : (ns : Nodes) (q : ℕ) → Mem (at q 2) (changes ns) ↔ ((b : ℕ) × (c : ℕ) × Beside 7 ns q b c × (c ≤ b))
told-2 ns q = (
  (λ m.
      let x = by ns (at q 2) m in
      let k = is-2 (kind_1 (all ns) x.1 x.0) (kind_2 x.0) (kind-4 (names (answer ns)) (all ns) x.1 x.0) (kind_3 x.0) x.0.place q
      (four-of (kind_1 (all ns) x.1 x.0) (kind_2 x.0) (kind-4 (names (answer ns)) (all ns) x.1 x.0) (kind_3 x.0) x.0.place q 2 x.4) in
      subst (Falls 7 ns) k.1 (⊎_elim (λ h. absurd (omega (arith, h.2))) (λ h. h) (late-falls ns 7 [] 0 x.0 x.2 k.0))),
  (λ x.
      let e = falls-late ns 7 [] 0 q x.0 x.1 x.2 x.3 in
      let t = tell ns e.0 e.1 in
      subst (λ (p : ℕ). Mem (at p 2) (changes ns)) e.2 (t.2 (at e.0.place 2)
      (put_2 (kind_1 (all ns) t.0 e.0) (kind_2 e.0) (kind-4 (names (answer ns)) (all ns) t.0 e.0) (kind_3 e.0) e.0.place e.3))),
)
