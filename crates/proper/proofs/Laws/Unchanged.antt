-- "The list is empty exactly for a proper text, which comes back unchanged": of a proper text nothing is changed. Assumes nothing.
use Rattle.std.specs.Prelude.{◌≡◌, Bool, true, ◌&&◌, not, ◌⊎◌, ℕ, suc, ◌+◌, ◌-◌, ◌≤◌, ◌<◌, eqb, length}
use Rattle.std.proofs.Math.Path.{refl, ap}
use Rattle.std.proofs.Common.{sym, ◌∙◌, inl, inr, arith, le-ltb, eqb-true}
use Rattle.std.proofs.Math.Bool.{false}
use Rattle.std.proofs.Math.Logic.{⊎_elim}
use mathlib.Core.List.{List, [], ◌∷◌, ◌++◌, append_assoc}
use Rattle.logic.specs.Laws.Bools.{clash, and_left, and_right, or-either}
use Rattle.reading.specs.declared.Level.{Level}
use Rattle.reading.specs.declared.Level.TheVariants.{Faces, Digits}
use Rattle.reading.specs.Reading.{Nodes, end, whole, listed, room, render, Some, Good, names}
use Rattle.reading.specs.Prefix.{Name, AreNames, Ahead}
use Rattle.reading.proofs.Laws.Ground.{same_names}
use Rattle.reading.proofs.Laws.Fewest.{names-good}
use Rattle.reading.specs.declared.Profile.TheVariants.{Full}
use Rattle.reading.specs.Text.{heading, ReadsAs}
use Rattle.reading.specs.Written.{built}
use Rattle.reading.proofs.Laws.Built.{built-good, built-ground}
use Rattle.reading.specs.Loose.{Loose}
use Rattle.proper.specs.Proper.{answer, rescued}
use Rattle.proper.specs.Changes.{Item, Change, is_end, items, same, larger, any, has, names-whole, names-larger, kind_1, kind-4, changes_at, changes_from, changes}
use Rattle.proper.proofs.Laws.Lists.{IMem, same_true, same_self, imem-or, any_some, some-any, mem-has}
use Rattle.proper.proofs.Laws.Change.{own_name, empty-proper}

-- ---- the answer of a proper reading is itself

pub answer-same : (ns : Nodes) → Good Faces 15 0 ns → answer ns ≡ ns
unfolding answer
answer-same ns g =
    let n : AreNames 6 15 (names ns) = names-good ns Faces 15 0 15 g (omega arith) in
    sym (same_names ns (built 15 6 (names ns)) Faces 15 15 g (built-good (names ns) n) (omega arith) (built-ground (names ns) n))

-- ---- names ahead

ahead-self : (q : Name) → Ahead q q → ⊥
ahead-self [] h = h
ahead-self (a ∷ q) (inl h) = omega arith
ahead-self (a ∷ q) (inr h) = ahead-self q h.1

ahead-not-larger : (q p : Name) → Ahead q p → larger q p ≡ true → ⊥
unfolding larger
ahead-not-larger [] p h e = h
ahead-not-larger (a ∷ q) [] h e = h
ahead-not-larger (a ∷ q) (b ∷ p) (inl h) e = let k = eqb-true a b (and_left (eqb a b) _ e) in omega arith
ahead-not-larger (a ∷ q) (b ∷ p) (inr h) e = ahead-not-larger q p h.1 (and_right (eqb a b) _ e)

ahead-not-smaller : (q p : Name) → Ahead q p → larger p q ≡ true → ⊥
unfolding larger
ahead-not-smaller [] p h e = h
ahead-not-smaller (a ∷ q) [] h e = h
ahead-not-smaller (a ∷ q) (b ∷ p) (inl h) e = let k = eqb-true b a (and_left (eqb b a) _ e) in omega arith
ahead-not-smaller (a ∷ q) (b ∷ p) (inr h) e = ahead-not-smaller q p h.1 (and_right (eqb b a) _ e)

not-larger-self : (q : Name) → larger q q ≡ true → ⊥
unfolding larger
not-larger-self [] e = clash (sym e)
not-larger-self (a ∷ q) e = not-larger-self q (and_right (eqb a a) _ e)

ahead-behind : (w : Name) (a b : ℕ) (q p : Name) → a < b → Ahead (w ++ (a ∷ q)) (w ++ (b ∷ p))
ahead-behind [] a b q p h = inl h
ahead-behind (x ∷ w) a b q p h = inr (refl, ahead-behind w a b q p h)

-- ---- items of a good reading

-- in the list of w, from the number lo on
abbrev From : Name → ℕ → Item → Type 0
From w lo e = (b : ℕ) × (r : Name) × (lo ≤ b) × (e.name ≡ w ++ (b ∷ r))

items-from : (ns : Nodes) (l : Level) (d p lo : ℕ) (w : Name) → Good l d lo ns → (e : Item) → IMem e (items p w lo ns) → From w lo e
items-from end l d p lo w g e m = absurd m
items-from (whole c ns) l d p lo w g e (inl m) = (c, [], g.0, ap (λ (x : Item). x.name) (sym m))
items-from (whole c ns) l d p lo w g e (inr m) =
    let k = items-from ns l d (p + 1) (suc c) w g.2 e m in (k.0, k.1, omega (arith, k.2, g.0), k.3)
items-from (listed c is ns) l d p lo w g e (inl m) = (c, [], g.0, ap (λ (x : Item). x.name) (sym m))
items-from (listed c is ns) l d p lo w g e (inr m) =
    ⊎_elim
    (λ h.
    let k = items-from is Digits (room l c d - 1) (p + 2) 0 (w ++ (c ∷ [])) g.5 e h in
    (c, k.0 ∷ k.1, g.0, k.3 ∙ append_assoc w (c ∷ []) (k.0 ∷ k.1)))
    (λ h. let k = items-from ns l d (p + 3 + length (render Digits is)) (suc c) w g.6 e h in (k.0, k.1, omega (arith, k.2, g.0), k.3))
    (imem-or e (items (p + 2) (w ++ (c ∷ [])) 0 is) _ m)

some-not-end : (ns : Nodes) → Some ns → is_end ns ≡ false
some-not-end end h = absurd h
some-not-end (whole c ns) h = refl
some-not-end (listed c is ns) h = refl

items-plain : (ns : Nodes) (l : Level) (d p lo : ℕ) (w : Name) → Good l d lo ns → (e : Item) → IMem e (items p w lo ns) → (e.late ≡ false) × (e.void ≡ false)
items-plain end l d p lo w g e m = absurd m
items-plain (whole c ns) l d p lo w g e (inl m) =
    (ap (λ (x : Item). x.late) (sym m) ∙ le-ltb c lo g.0, ap (λ (x : Item). x.void) (sym m))
items-plain (whole c ns) l d p lo w g e (inr m) = items-plain ns l d (p + 1) (suc c) w g.2 e m
items-plain (listed c is ns) l d p lo w g e (inl m) =
    (ap (λ (x : Item). x.late) (sym m) ∙ le-ltb c lo g.0, ap (λ (x : Item). x.void) (sym m) ∙ some-not-end is g.3)
items-plain (listed c is ns) l d p lo w g e (inr m) =
    ⊎_elim (λ h. items-plain is Digits (room l c d - 1) (p + 2) 0 (w ++ (c ∷ [])) g.5 e h)
    (λ h. items-plain ns l d (p + 3 + length (render Digits is)) (suc c) w g.6 e h)
    (imem-or e (items (p + 2) (w ++ (c ∷ [])) 0 is) _ m)

-- each that names a cell whole is ahead of all such that come later
abbrev RiseItems : List Item → Type 0
RiseItems [] = Unit {0}
RiseItems (e ∷ es) = ((y : Item) → IMem y es → e.own ≡ true → y.own ≡ true → Ahead e.name y.name) × RiseItems es

rise-append : (a b : List Item) → RiseItems a → RiseItems b → ((x y : Item) → IMem x a → IMem y b → Ahead x.name y.name) → RiseItems (a ++ b)
rise-append [] b g h f = h
rise-append (x ∷ a) b g h f = (
  (λ y m o u. ⊎_elim (λ k. g.0 y k o u) (λ k. f x y (inl refl) k) (imem-or y a b m)),
  rise-append a b g.1 h (λ z y m n. f z y (inr m) n),
)

items-rise : (ns : Nodes) (l : Level) (d p lo : ℕ) (w : Name) → Good l d lo ns → RiseItems (items p w lo ns)
items-rise end l d p lo w g = tt
items-rise (whole c ns) l d p lo w g = (
  (λ y m o u.
      let k = items-from ns l d (p + 1) (suc c) w g.2 y m in
      rw k.3 (ahead-behind w c k.0 [] k.1 k.2)),
  items-rise ns l d (p + 1) (suc c) w g.2,
)
items-rise (listed c is ns) l d p lo w g = (
  (λ y m o u. clash (sym o)),
  rise-append (items (p + 2) (w ++ (c ∷ [])) 0 is) (items (p + 3 + length (render Digits is)) w (suc c) ns)
      (items-rise is Digits (room l c d - 1) (p + 2) 0 (w ++ (c ∷ [])) g.5)
      (items-rise ns l d (p + 3 + length (render Digits is)) (suc c) w g.6)
      (λ x y m n.
      let i = items-from is Digits (room l c d - 1) (p + 2) 0 (w ++ (c ∷ [])) g.5 x m in
      let j = items-from ns l d (p + 3 + length (render Digits is)) (suc c) w g.6 y n in
      let e : x.name ≡ w ++ (c ∷ i.0 ∷ i.1) = i.3 ∙ append_assoc w (c ∷ []) (i.0 ∷ i.1) in
      rw (e, j.3) (ahead-behind w c j.0 (i.0 ∷ i.1) j.1 j.2)),
)

two_items :
    (es : List Item) → RiseItems es → (x y : Item) → IMem x es → IMem y es → x.own ≡ true → y.own ≡ true →
    (x.name ≡ y.name) ⊎ (Ahead x.name y.name ⊎ Ahead y.name x.name)
two_items [] r x y m n o u = absurd m
two_items (e ∷ es) r x y (inl m) (inl n) o u = inl (ap (λ (z : Item). z.name) (sym m ∙ n))
two_items (e ∷ es) r x y (inl m) (inr n) o u =
    inr (inl (rw (ap (λ (z : Item). z.name) m) at (r.0 y n (ap (λ (z : Item). z.own) m ∙ o) u)))
two_items (e ∷ es) r x y (inr m) (inl n) o u =
    inr (inr (rw (ap (λ (z : Item). z.name) n) at (r.0 x m (ap (λ (z : Item). z.own) n ∙ u) o)))
two_items (e ∷ es) r x y (inr m) (inr n) o u = two_items es r.1 x y m n o u

-- ---- nothing is changed

false-by : (t : Bool) → (t ≡ true → ⊥) → t ≡ false
false-by true h = absurd (h refl)
false-by false h = refl

module _ (root : Nodes) (g : Good Faces 15 0 root) where
  abbrev all : List Item
  all = items 7 [] 0 root

  rise : RiseItems all
  rise = items-rise root Faces 15 7 0 [] g

  first-no : (e : Item) (earlier : List Item) → IMem e all → ((x : Item) → IMem x earlier → x.own ≡ true → e.own ≡ true → Ahead x.name e.name) → kind_1 all earlier e ≡ false
  first-no e earlier m f =
      false-by (kind_1 all earlier e)
      (λ h.
      let o : e.own ≡ true = and_left e.own _ h in
      ⊎_elim
      (λ k.
      let x = some-any (names-whole e.name) earlier k in
      let s : x.0.name ≡ e.name = same_true x.0.name e.name (and_right x.0.own _ x.2) in
      ahead-self e.name (rw s at (f x.0 x.1 (and_left x.0.own _ x.2) o)))
      (λ k.
      let x = some-any (names-larger e.name) all k in
      let p : x.0.own ≡ true = and_left x.0.own _ x.2 in
      let s : larger x.0.name e.name ≡ true = and_right x.0.own _ x.2 in
      ⊎_elim (λ i. not-larger-self e.name (rw i at s))
      (λ i. ⊎_elim (λ j. ahead-not-larger x.0.name e.name j s) (λ j. ahead-not-smaller e.name x.0.name j s) i)
      (two_items all rise x.0 e x.1 m p o))
      (or-either (any (names-whole e.name) earlier) _ (and_right e.own _ h)))

  fourth-no : (e : Item) (earlier : List Item) → kind-4 (names (answer root)) all earlier e ≡ false
  fourth-no e earlier =
      false-by (kind-4 (names (answer root)) all earlier e)
      (λ h.
      let i : has e.name (names (answer root)) ≡ true = and_left (has e.name (names (answer root))) _ h in
      let j : has e.name (names root) ≡ true = rw (answer-same root g) at i in
      let k = own_name root 7 [] 0 e.name (mem-has e.name (names root) j) in
      let w : (k.0.own && same k.0.name e.name) ≡ true = rw (k.2, k.3) (same_self e.name) in
      let t : any (names-whole e.name) all ≡ true = any_some (names-whole e.name) all k.0 k.1 w in
      let n : not (any (names-whole e.name) all) ≡ true = and_left (not (any (names-whole e.name) all)) _ (and_right (has e.name (names (answer root))) _ h) in
      clash (sym (rw t at n)))

  moved : (e x y : Item) → e ≡ x → (e.own ≡ true → y.own ≡ true → Ahead e.name y.name) → x.own ≡ true → y.own ≡ true → Ahead x.name y.name
  moved e x y j f o u = let q : e.name ≡ x.name = ap (λ (z : Item). z.name) j in rw q at (f (ap (λ (z : Item). z.own) j ∙ o) u)

  none_from :
      (es earlier : List Item) → ((e : Item) → IMem e es → IMem e all) → RiseItems es →
      ((x y : Item) → IMem x earlier → IMem y es → x.own ≡ true → y.own ≡ true → Ahead x.name y.name) →
      changes_from (names (answer root)) all earlier es ≡ []
  unfolding changes_from
  none_from [] earlier i r f = refl
  none_from (e ∷ es) earlier i r f =
      let m : IMem e all = i e (inl refl) in
      let p = items-plain root Faces 15 7 0 [] g e m in
      let a : kind_1 all earlier e ≡ false = first-no e earlier m (λ x n o u. f x e n (inl refl) o u) in
      let b : kind-4 (names (answer root)) all earlier e ≡ false = fourth-no e earlier in
      let c : changes_at (names (answer root)) all earlier e ≡ [] = rw (a, p.0, b, p.1) refl in
      ap (λ (z : List Change). z ++ changes_from (names (answer root)) all (e ∷ earlier) es) c
      ∙ none_from es (e ∷ earlier) (λ x n. i x (inr n)) r.1
      (λ x y n k o u. ⊎_elim (λ j. moved e x y j (r.0 y k) o u) (λ j. f x y j (inr k) o u) n)

  pub proper-empty : changes root ≡ []
  unfolding changes
  proper-empty = none_from all [] (λ e m. m) rise (λ x y m n o u. absurd m)

-- ---- both ways, and the text

pub exactly : (ns : Nodes) → Loose Faces 15 ns → (changes ns ≡ [] → Good Faces 15 0 ns) × (Good Faces 15 0 ns → changes ns ≡ [])
exactly ns l = ((λ h. empty-proper ns l h), (λ g. proper-empty ns g))

-- "which comes back unchanged"
pub unchanged : {n s : ℕ} {t : List ℕ} {ns : Nodes} → ReadsAs Full n s t ns → rescued n s ns ≡ t
unfolding rescued
unchanged {n} {s} {t} {ns} r = ap (λ (z : Nodes). heading Full n s ++ render Faces z) (answer-same ns r.body.good) ∙ sym r.body.all
