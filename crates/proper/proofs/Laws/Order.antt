-- The changes stand "by place in the whole text, from 0, and then kind". Assumes nothing.
use Rattle.std.specs.Prelude.{◌≡◌, refl, Bool, true, false, ◌⊎◌, ℕ, suc, ◌+◌, ◌≤◌, ◌<◌, length}
use Rattle.std.proofs.Common.{sym, ◌∙◌, arith, length-append}
use Rattle.std.proofs.Math.Path.{ap}
use Rattle.std.proofs.Math.Logic.{inl, inr, ⊎_elim}
use mathlib.Core.List.{List, [], ◌∷◌, ◌++◌}
use Rattle.logic.specs.Lists.{Mem}
use Rattle.logic.specs.Laws.Bools.{clash}
use Rattle.logic.specs.Laws.Lists.{any-or}
use Rattle.reading.specs.declared.Level.TheVariants.{Digits}
use Rattle.reading.specs.Reading.{Nodes, end, whole, listed, render, names}
use Rattle.reading.specs.Prefix.{Name}
use Rattle.proper.specs.Proper.{answer}
use Rattle.proper.specs.Changes.{Item, Change, items, kind_1, kind_2, kind_3, kind-4, when, changes_at, changes_from, changes}
use Rattle.proper.proofs.Laws.Lists.{IMem, imem-or}

-- ---- where items stand

-- this far, its empty list's bracket included
abbrev Within : (p n : ℕ) → Item → Type 0
Within p n e = (p ≤ e.place) × (e.place + 1 ≤ n) × (e.void ≡ true → e.place + 2 ≤ n)

wider : (p q m n : ℕ) (e : Item) → q ≤ p → m ≤ n → Within p m e → Within q n e
wider p q m n e a b h = (omega (arith, h.0), omega (arith, h.1), (λ v. omega (arith, h.2 v)))

items-within : (ns : Nodes) (p : ℕ) (w : Name) (lo : ℕ) (e : Item) → IMem e (items p w lo ns) → Within p (p + length (render Digits ns)) e
items-within end p w lo e m = absurd m
items-within (whole c ns) p w lo e (inl m) =
    let z : p ≡ e.place = ap (λ (x : Item). x.place) m in
    (omega arith, omega arith, (λ v. clash (sym (ap (λ (x : Item). x.void) m ∙ v))))
items-within (whole c ns) p w lo e (inr m) = wider (p + 1) p _ _ e (omega arith) (omega arith) (items-within ns (p + 1) w (suc c) e m)
items-within (listed c is ns) p w lo e (inl m) =
    let z : p ≡ e.place = ap (λ (x : Item). x.place) m in
    let k = length-append (render Digits is) (41 ∷ render Digits ns) in
    (omega arith, omega arith, (λ v. omega arith))
items-within (listed c is ns) p w lo e (inr m) =
    let k = length-append (render Digits is) (41 ∷ render Digits ns) in
    ⊎_elim (λ h. wider (p + 2) p _ _ e (omega arith) (omega arith) (items-within is (p + 2) (w ++ (c ∷ [])) 0 e h))
    (λ h. wider (p + 3 + length (render Digits is)) p _ _ e (omega arith) (omega arith) (items-within ns (p + 3 + length (render Digits is)) w (suc c) e h))
    (imem-or e (items (p + 2) (w ++ (c ∷ [])) 0 is) _ m)

-- each stands before all that come later
abbrev pub Ahead : Item → Item → Type 0
Ahead e y = (e.place + 1 ≤ y.place) × (e.void ≡ true → e.place + 2 ≤ y.place)

abbrev pub Spaced : List Item → Type 0
Spaced [] = Unit {0}
Spaced (e ∷ es) = ((y : Item) → IMem y es → Ahead e y) × Spaced es

spaced-append : (a b : List Item) → Spaced a → Spaced b → ((x y : Item) → IMem x a → IMem y b → Ahead x y) → Spaced (a ++ b)
spaced-append [] b g h f = h
spaced-append (x ∷ a) b g h f =
    ((λ y m. ⊎_elim (λ k. g.0 y k) (λ k. f x y (inl refl) k) (imem-or y a b m)), spaced-append a b g.1 h (λ z y m n. f z y (inr m) n))

pub items-spaced : (ns : Nodes) (p : ℕ) (w : Name) (lo : ℕ) → Spaced (items p w lo ns)
items-spaced end p w lo = tt
items-spaced (whole c ns) p w lo = (
  (λ y m. let k = items-within ns (p + 1) w (suc c) y m in (k.0, (λ v. clash (sym v)))),
  items-spaced ns (p + 1) w (suc c),
)
items-spaced (listed c is ns) p w lo = (
  (λ y m.
      ⊎_elim (λ h. let k = items-within is (p + 2) (w ++ (c ∷ [])) 0 y h in (omega (arith, k.0), (λ v. k.0)))
      (λ h. let k = items-within ns (p + 3 + length (render Digits is)) w (suc c) y h in (omega (arith, k.0), (λ v. omega (arith, k.0))))
      (imem-or y (items (p + 2) (w ++ (c ∷ [])) 0 is) _ m)),
  spaced-append (items (p + 2) (w ++ (c ∷ [])) 0 is) (items (p + 3 + length (render Digits is)) w (suc c) ns) (items-spaced is (p + 2) (w ++ (c ∷ [])) 0)
      (items-spaced ns (p + 3 + length (render Digits is)) w (suc c))
      (λ x y m n.
      let i = items-within is (p + 2) (w ++ (c ∷ [])) 0 x m in
      let j = items-within ns (p + 3 + length (render Digits is)) w (suc c) y n in
      (omega (arith, i.1, j.0), (λ v. omega (arith, i.2 v, j.0)))),
)

-- ---- the changes

-- "by place .. and then kind"
abbrev pub Before : Change → Change → Type 0
Before x y = (x.place < y.place) ⊎ ((x.place ≡ y.place) × (x.kind < y.kind))

abbrev pub InOrder : List Change → Type 0
InOrder [] = Unit {0}
InOrder (x ∷ xs) = ((y : Change) → Mem y xs → Before x y) × InOrder xs

mem-or : (x : Change) (a b : List Change) → Mem x (a ++ b) → Mem x a ⊎ Mem x b
mem-or x a b = any-or (λ (y : Change). y ≡ x) a b

order-append : (a b : List Change) → InOrder a → InOrder b → ((x y : Change) → Mem x a → Mem y b → Before x y) → InOrder (a ++ b)
order-append [] b g h f = h
order-append (x ∷ a) b g h f =
    ((λ y m. ⊎_elim (λ k. g.0 y k) (λ k. f x y (inl refl) k) (mem-or y a b m)), order-append a b g.1 h (λ z y m n. f z y (inr m) n))

when-order : (t : Bool) (x : Change) → InOrder (when t x)
when-order true x = ((λ y m. absurd m), tt)
when-order false x = tt

pub when-mem : (t : Bool) (x y : Change) → Mem y (when t x) → (t ≡ true) × (x ≡ y)
when-mem true x y (inl m) = (refl, m)
when-mem true x y (inr m) = absurd m
when-mem false x y m = absurd m

-- of one item: its own place and kinds 1, 2 and 4 in this order, or the place behind it
abbrev At : Item → ℕ → Change → Type 0
At e k y = ((y.place ≡ e.place) × (k ≤ y.kind)) ⊎ ((y.place ≡ e.place + 1) × (e.void ≡ true))

one_at : (e : Item) (t : Bool) (k : ℕ) (y : Change) → Mem y (when t (record { place = e.place; kind = k })) → (y.place ≡ e.place) × (y.kind ≡ k)
one_at e t k y m = let h = when-mem t _ y m in (ap (λ (x : Change). x.place) (sym h.1), ap (λ (x : Change). x.kind) (sym h.1))

module _ (e : Item) (a b c d : Bool) (v : d ≡ true → e.void ≡ true) where
  last : List Change
  last = when d (record { place = e.place + 1; kind = 3 })

  third : List Change
  unfolding last
  third = when c (record { place = e.place; kind = 4 }) ++ last

  second : List Change
  unfolding third
  second = when b (record { place = e.place; kind = 2 }) ++ third

  last-at : (y : Change) → Mem y last → At e 4 y
  unfolding last
  last-at y m = let h = when-mem d _ y m in inr (ap (λ (x : Change). x.place) (sym h.1), v h.0)

  third_at : (y : Change) → Mem y third → At e 4 y
  unfolding third
  third_at y m =
      ⊎_elim (λ k. let h = one_at e c 4 y k in inl (h.0, omega (arith, h.1))) (λ k. last-at y k) (mem-or y (when c (record { place = e.place; kind = 4 })) last m)

  second_at : (y : Change) → Mem y second → At e 2 y
  unfolding second
  second_at y m =
      ⊎_elim (λ k. let h = one_at e b 2 y k in inl (h.0, omega (arith, h.1)))
      (λ k. ⊎_elim (λ h. inl (h.0, omega (arith, h.1))) (λ h. inr h) (third_at y k))
      (mem-or y (when b (record { place = e.place; kind = 2 })) third m)

  before : (k : ℕ) (x y : Change) → (x.place ≡ e.place) × (x.kind ≡ k) → At e (suc k) y → Before x y
  before k x y h (inl g) = inr (h.0 ∙ sym g.0, omega (arith, h.1, g.1))
  before k x y h (inr g) = inl (omega (arith, h.0, g.0))

  third-order : InOrder third
  unfolding third last
  third-order =
      order-append (when c (record { place = e.place; kind = 4 })) last (when-order c _) (when-order d _)
      (λ x y m n. let h = one_at e c 4 x m in let g = when-mem d _ y n in inl (omega (arith, h.0, ap (λ (z : Change). z.place) g.1)))

  second-order : InOrder second
  unfolding second
  second-order =
      order-append (when b (record { place = e.place; kind = 2 })) third (when-order b _) third-order
      (λ x y m n. before 2 x y (one_at e b 2 x m) (⊎_elim (λ h. inl (h.0, omega (arith, h.1))) (λ h. inr h) (third_at y n)))

  all-order : InOrder (when a (record { place = e.place; kind = 1 }) ++ second)
  all-order =
      order-append (when a (record { place = e.place; kind = 1 })) second (when-order a _) second-order
      (λ x y m n. before 1 x y (one_at e a 1 x m) (second_at y n))

  all-at : (y : Change) → Mem y (when a (record { place = e.place; kind = 1 }) ++ second) → At e 1 y
  all-at y m =
      ⊎_elim (λ k. let h = one_at e a 1 y k in inl (h.0, omega (arith, h.1)))
      (λ k. ⊎_elim (λ h. inl (h.0, omega (arith, h.1))) (λ h. inr h) (second_at y k))
      (mem-or y (when a (record { place = e.place; kind = 1 })) second m)

module _ (cells : List Name) (all : List Item) where
  at-order : (earlier : List Item) (e : Item) → InOrder (changes_at cells all earlier e)
  unfolding second third last
  at-order earlier e = all-order e (kind_1 all earlier e) (kind_2 e) (kind-4 cells all earlier e) (kind_3 e) (λ h. h)

  at_place : (earlier : List Item) (e : Item) (y : Change) → Mem y (changes_at cells all earlier e) → At e 1 y
  unfolding second third last
  at_place earlier e = all-at e (kind_1 all earlier e) (kind_2 e) (kind-4 cells all earlier e) (kind_3 e) (λ h. h)

  later-place : (es earlier : List Item) (e : Item) → ((y : Item) → IMem y es → Ahead e y) → (x y : Change) → At e 1 x → Mem y (changes_from cells all earlier es) → x.place < y.place
  unfolding changes_from
  later-place [] earlier e f x y h m = absurd m
  later-place (i ∷ es) earlier e f x y h m =
      ⊎_elim
      (λ k.
      let g = f i (inl refl) in
      ⊎_elim (λ p. ⊎_elim (λ q. omega (arith, p.0, q.0, g.0)) (λ q. omega (arith, p.0, q.0, g.1 q.1)) h)
      (λ p. ⊎_elim (λ q. omega (arith, p.0, q.0, g.0)) (λ q. omega (arith, p.0, q.0, g.1 q.1)) h)
      (at_place earlier i y k))
      (λ k. later-place es (i ∷ earlier) e (λ z n. f z (inr n)) x y h k)
      (mem-or y (changes_at cells all earlier i) (changes_from cells all (i ∷ earlier) es) m)

  from-order : (es earlier : List Item) → Spaced es → InOrder (changes_from cells all earlier es)
  unfolding changes_from
  from-order [] earlier s = tt
  from-order (e ∷ es) earlier s =
      order-append (changes_at cells all earlier e) (changes_from cells all (e ∷ earlier) es) (at-order earlier e) (from-order es (e ∷ earlier) s.1)
      (λ x y m n. inl (later-place es (e ∷ earlier) e s.0 x y (at_place earlier e x m) n))

pub changes-order : (ns : Nodes) → InOrder (changes ns)
unfolding changes
changes-order ns = from-order (names (answer ns)) (items 7 [] 0 ns) (items 7 [] 0 ns) [] (items-spaced ns 7 [] 0)

-- ---- there are four kinds

abbrev IsKind : Change → Type 0
IsKind x = (1 ≤ x.kind) × (x.kind ≤ 4)

when-kind : (t : Bool) (p k : ℕ) (x : Change) → 1 ≤ k → k ≤ 4 → Mem x (when t (record { place = p; kind = k })) → IsKind x
when-kind t p k x a b m = let h : k ≡ x.kind = ap (λ (y : Change). y.kind) (when-mem t _ x m).1 in (omega arith, omega arith)

four-kinds :
    (a b c d : Bool) (p q : ℕ) (x : Change) →
    Mem x
    (when a (record { place = p; kind = 1 }) ++
    (when b (record { place = p; kind = 2 }) ++ (when c (record { place = p; kind = 4 }) ++ when d (record { place = q; kind = 3 })))) →
    IsKind x
four-kinds a b c d p q x m =
    ⊎_elim (λ h. when-kind a p 1 x (omega arith) (omega arith) h)
    (λ i.
    ⊎_elim (λ h. when-kind b p 2 x (omega arith) (omega arith) h)
    (λ j.
    ⊎_elim (λ h. when-kind c p 4 x (omega arith) (omega arith) h) (λ h. when-kind d q 3 x (omega arith) (omega arith) h)
    (mem-or x (when c (record { place = p; kind = 4 })) (when d (record { place = q; kind = 3 })) j))
    (mem-or x (when b (record { place = p; kind = 2 })) (when c (record { place = p; kind = 4 }) ++ when d (record { place = q; kind = 3 })) i))
    (mem-or x (when a (record { place = p; kind = 1 }))
    (when b (record { place = p; kind = 2 }) ++ (when c (record { place = p; kind = 4 }) ++ when d (record { place = q; kind = 3 }))) m)

from-kinds : (cells : List Name) (all es earlier : List Item) (x : Change) → Mem x (changes_from cells all earlier es) → IsKind x
unfolding changes_from
from-kinds cells all [] earlier x m = absurd m
from-kinds cells all (e ∷ es) earlier x m =
    ⊎_elim (λ h. four-kinds (kind_1 all earlier e) (kind_2 e) (kind-4 cells all earlier e) (kind_3 e) e.place (e.place + 1) x h)
    (λ h. from-kinds cells all es (e ∷ earlier) x h)
    (mem-or x (changes_at cells all earlier e) (changes_from cells all (e ∷ earlier) es) m)

pub kinds-are : (ns : Nodes) (x : Change) → Mem x (changes ns) → (1 ≤ x.kind) × (x.kind ≤ 4)
unfolding changes
kinds-are ns x m = from-kinds (names (answer ns)) (items 7 [] 0 ns) (items 7 [] 0 ns) [] x m
