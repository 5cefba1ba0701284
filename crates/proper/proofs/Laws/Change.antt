-- "The list is empty exactly for a proper text": where nothing is changed, the reading is proper. Assumes nothing.
use Rattle.std.specs.Prelude.{◌≡◌, Bool, ◌&&◌, ◌||◌, not, ◌⊎◌, ℕ, zero, suc, ◌+◌, ◌-◌, ◌≤◌, ◌<◌, ltb, length}
use Rattle.std.proofs.Math.Path.{refl}
use Rattle.std.proofs.Common.{sym, ap, ap₂, ◌∙◌, inl, inr, ⊎_elim, arith, length-append, ltb-false}
use Rattle.std.proofs.Math.Bool.{true, false}
use mathlib.Core.List.{List, [], ◌∷◌, ◌++◌, map, append_assoc}
use Rattle.logic.specs.Laws.Order.{lt-or}
use Rattle.logic.specs.Laws.Bools.{clash, and_left, and_right, or_right}
use Rattle.ternary.specs.Digits.{Below}
use Rattle.reading.specs.declared.Level.{Level}
use Rattle.reading.specs.declared.Level.TheVariants.{Faces, Belt, Digits}
use Rattle.reading.specs.Reading.{Nodes, end, whole, listed, many, room, wholes, render, Some, Good, names}
use Rattle.reading.proofs.Laws.Reading.{wholes-most}
use Rattle.reading.specs.Prefix.{Name, Prefix, Covered, Digs, FinestName, SameNames, IsName, AreNames}
use Rattle.reading.proofs.Laws.Ground.{covered_whole}
use Rattle.reading.proofs.Laws.Fewest.{names-good, mem-covered}
use Rattle.reading.proofs.Laws.Built.{built-good, built-ground}
use Rattle.reading.specs.Loose.{Loose}
use Rattle.loose.proofs.Laws.Names.{names-loose}
use Rattle.proper.specs.Proper.{answer}
use Rattle.proper.specs.Changes.{Item, is_end, items, same, larger, any, has, names-whole, names-larger, stands-for, kind_1, kind_2, kind_3, kind-4, when, changes_at, changes_from, changes}
use Rattle.logic.specs.Lists.{Mem}
use Rattle.logic.specs.Laws.Lists.{mem-all}
use Rattle.proper.proofs.Laws.Lists.{IMem, same_true, same_self, larger-below, imem-left, imem-right, imem-or, mem-left, mem-right, mem-or, mem-map, map-mem, covered-mem}
use Rattle.proper.proofs.Laws.Lists.{any_some, some-any, has-mem, none_left, when-none}

-- ---- nothing is changed at an item

pub record Quiet (cells : List Name) (all earlier : List Item) (e : Item) : Type 0 where
  pub first : kind_1 all earlier e ≡ false
  pub second : kind_2 e ≡ false
  pub third : kind_3 e ≡ false
  pub fourth : kind-4 cells all earlier e ≡ false

quiet : (cells : List Name) (all earlier : List Item) (e : Item) → changes_at cells all earlier e ≡ [] → Quiet cells all earlier e
quiet cells all earlier e h =
    let a = none_left (when (kind_1 all earlier e) (record { place = e.place; kind = 1 })) _ h in
    let b = none_left (when (kind_2 e) (record { place = e.place; kind = 2 })) _ a.1 in
    let c = none_left (when (kind-4 cells all earlier e) (record { place = e.place; kind = 4 })) _ b.1 in
    record {
      first = when-none _ _ a.0;
      second = when-none _ _ b.0;
      third = when-none _ _ c.1;
      fourth = when-none _ _ c.0;
    }

-- of each item, apart from what stands earlier
pub record Proper (all : List Item) (e : Item) : Type 0 where
  pub above : e.late ≡ false
  pub filled : e.void ≡ false
  pub outside : e.own ≡ true → any (names-larger e.name) all ≡ false

and-false : (a b : Bool) → (a && b) ≡ false → a ≡ true → b ≡ false
and-false true b e f = e
and-false false b e f = clash (sym f)

each-proper : (cells : List Name) (all es earlier : List Item) → changes_from cells all earlier es ≡ [] → (e : Item) → IMem e es → Proper all e
unfolding changes_from
each-proper cells all [] earlier h e m = absurd m
each-proper cells all (x ∷ es) earlier h e (inl m) =
    let k = none_left (changes_at cells all earlier x) _ h in
    let q = quiet cells all earlier x k.0 in
    let p : Proper all x =
    record { above = q.second; filled = q.third; outside = λ o. or_right (any (names-whole x.name) earlier) _ (and-false x.own _ q.first o) } in
    rw m at p
each-proper cells all (x ∷ es) earlier h e (inr m) =
    each-proper cells all es (x ∷ earlier) (none_left (changes_at cells all earlier x) _ h).1 e m

-- a cell of the answer that is nowhere named whole is stood for by nothing
or-both : (a b : Bool) → a ≡ false → b ≡ false → (a || b) ≡ false
or-both true b e f = clash e
or-both false b e f = f

no-first :
    (cells : List Name) (all : List Item) (a : Name) → has a cells ≡ true → any (names-whole a) all ≡ false → (es earlier : List Item) →
    any (stands-for a) earlier ≡ false → changes_from cells all earlier es ≡ [] → any (stands-for a) es ≡ false
unfolding changes_from any
no-first cells all a h n [] earlier f c = refl
no-first cells all a h n (x ∷ es) earlier f c =
    let k = none_left (changes_at cells all earlier x) _ c in
    let s : same x.name a ≡ false = go (same x.name a) refl (quiet cells all earlier x k.0).fourth in
    or-both _ _ s (no-first cells all a h n es (x ∷ earlier) (or-both _ _ s f) k.1)
  where
    go : (t : Bool) → same x.name a ≡ t → kind-4 cells all earlier x ≡ false → same x.name a ≡ false
    go false e q = e
    go true e q =
        let i : x.name ≡ a = same_true x.name a e in
        let z : (has a cells && (not (any (names-whole a) all) && not (any (stands-for a) earlier))) ≡ false = rw i at q in
        clash (rw (h, n, f) at z)

-- ---- the whole names of the items are the names of the reading

pub own_name : (ns : Nodes) (p : ℕ) (w : Name) (lo : ℕ) (q : Name) → Mem q (names ns) → (e : Item) × IMem e (items p w lo ns) × (e.own ≡ true) × (e.name ≡ w ++ q)
own_name end p w lo q m = absurd m
own_name (whole c ns) p w lo q (inl m) =
    (record { place = p; name = w ++ (c ∷ []); own = true; late = ltb c lo; void = false }, inl refl, refl, ap (λ (x : Name). w ++ x) m)
own_name (whole c ns) p w lo q (inr m) = let k = own_name ns (p + 1) w (suc c) q m in (k.0, inr k.1, k.2, k.3)
own_name (listed c is ns) p w lo q m =
    ⊎_elim
    (λ h.
    let i = map-mem c q (names is) h in
    let k = own_name is (p + 2) (w ++ (c ∷ [])) 0 i.0 i.1 in
    (k.0, inr (imem-left k.0 (items (p + 2) (w ++ (c ∷ [])) 0 is) _ k.1), k.2, k.3 ∙ append_assoc w (c ∷ []) i.0 ∙ ap (λ (x : Name). w ++ x) (sym i.2)))
    (λ h.
    let k = own_name ns (p + 3 + length (render Digits is)) w (suc c) q h in
    (k.0, inr (imem-right k.0 (items (p + 2) (w ++ (c ∷ [])) 0 is) _ k.1), k.2, k.3))
    (mem-or q (map (λ (x : Name). c ∷ x) (names is)) (names ns) m)

pub name-own : (ns : Nodes) (p : ℕ) (w : Name) (lo : ℕ) (e : Item) → IMem e (items p w lo ns) → e.own ≡ true → (q : Name) × Mem q (names ns) × (e.name ≡ w ++ q)
name-own end p w lo e m o = absurd m
name-own (whole c ns) p w lo e (inl m) o = (c ∷ [], inl refl, ap (λ (x : Item). x.name) (sym m))
name-own (whole c ns) p w lo e (inr m) o = let k = name-own ns (p + 1) w (suc c) e m o in (k.0, inr k.1, k.2)
name-own (listed c is ns) p w lo e (inl m) o = clash (sym (ap (λ (x : Item). x.own) m ∙ o))
name-own (listed c is ns) p w lo e (inr m) o =
    ⊎_elim
    (λ h.
    let k = name-own is (p + 2) (w ++ (c ∷ [])) 0 e h o in
    (c ∷ k.0, mem-left (c ∷ k.0) (map (λ (x : Name). c ∷ x) (names is)) (names ns) (mem-map c k.0 (names is) k.1), k.2 ∙ append_assoc w (c ∷ []) k.0))
    (λ h.
    let k = name-own ns (p + 3 + length (render Digits is)) w (suc c) e h o in
    (k.0, mem-right k.0 (map (λ (x : Name). c ∷ x) (names is)) (names ns) k.1, k.2))
    (imem-or e (items (p + 2) (w ++ (c ∷ [])) 0 is) _ m)

-- ---- a finest name goes on behind a shorter one

one_more : (r : ℕ) (ds p : Name) → Digs r p → Prefix ds p → length ds < r → (y : ℕ) × (y < 9) × Prefix (ds ++ (y ∷ [])) p
one_more zero ds p u h l = absurd (omega arith)
one_more (suc r) [] [] u h l = absurd u
one_more (suc r) [] (y ∷ p) u h l = (y, u.0, (refl, tt))
one_more (suc r) (a ∷ ds) [] u h l = absurd h
one_more (suc r) (a ∷ ds) (b ∷ p) u h l = let k = one_more r ds p u.1 h.1 (omega arith) in (k.0, k.1, (h.0, k.2))

finest-more : (v p : Name) → FinestName 6 15 p → Prefix v p → (v ≡ [] → ⊥) → length v ≤ 15 → (y : ℕ) × (y < 9) × Prefix (v ++ (y ∷ [])) p
finest-more [] p f h n l = absurd (n refl)
finest-more (x ∷ ds) [] f h n l = absurd h
finest-more (x ∷ ds) (b ∷ p) f h n l = let k = one_more 15 ds p f.1 h.1 (omega arith) in (k.0, k.1, (h.0, k.2))

-- of nine whole nodes in rising order, each number is one
nine-whole : (ns : Nodes) (d lo y : ℕ) → Good Digits d lo ns → wholes ns + lo ≡ 9 → lo ≤ y → y < 9 → Mem (y ∷ []) (names ns)
nine-whole end d lo y g e a b = absurd (omega arith)
nine-whole (whole c ns) d lo y g e a b =
    let k : wholes ns + suc c ≤ 9 = wholes-most ns Digits d (suc c) g.2 g.1 in
    let z : c ≡ lo = omega (arith, g.0) in
    ⊎_elim (λ h. inr (nine-whole ns d (suc c) y g.2 (omega arith) h b)) (λ h. let w : c ≡ y = omega arith in inl (ap (λ (x : ℕ). x ∷ []) w)) (lt-or c y)
nine-whole (listed c is ns) d lo y g e a b = absurd (omega (arith, wholes-most ns Digits d (suc c) g.6 g.1, g.0))

-- ---- where nothing is changed

module _ (root : Nodes) (g : Loose Faces 15 root) (none : changes root ≡ []) where
  abbrev all : List Item
  all = items 7 [] 0 root

  quiet_all : changes_from (names (answer root)) all [] all ≡ []
  unfolding changes
  quiet_all = none

  proper : (e : Item) → IMem e all → Proper all e
  proper = each-proper (names (answer root)) all all [] quiet_all

  named : AreNames 6 15 (names root)
  named = names-loose root Faces 15 g

  good-answer : Good Faces 15 0 (answer root)
  unfolding answer
  good-answer = built-good (names root) named

  ground : SameNames 6 15 (names root) (names (answer root))
  unfolding answer
  ground = built-ground (names root) named

  module _
      (v : Name) (nv : IsName 6 15 v) (lv : length v ≤ 15) (d p : ℕ) (is : Nodes) (gi : Good Digits d 0 is)
      (inside : (e : Item) → IMem e (items p v 0 is) → IMem e all)
      (stood : (a : Name) → Prefix a v → (a ≡ [] → ⊥) → any (stands-for a) all ≡ true)
      (nine : wholes is ≡ 9)
    where
      not-empty : v ≡ [] → ⊥
      not-empty e = rw e at nv

      -- a child of v is named whole
      child : (y : ℕ) → y < 9 → (e : Item) × IMem e all × (e.own ≡ true) × (e.name ≡ v ++ (y ∷ []))
      child y h =
          let k = own_name is p v 0 (y ∷ []) (nine-whole is d 0 y gi (omega arith) (omega arith) h) in
          (k.0, inside k.0 k.1, k.2, k.3)

      covered : (q : Name) → FinestName 6 15 q → Prefix v q → Covered (names (answer root)) q
      covered q f h =
          let k = finest-more v q f h not-empty lv in
          let c = child k.0 k.1 in
          let o = name-own root 7 [] 0 c.0 c.1 c.2 in
          let e : v ++ (k.0 ∷ []) ≡ o.0 = sym c.3 ∙ o.2 in
          (ground q f).0 (mem-covered (names root) o.0 q o.1 (rw e at k.2))

      no_nine : ⊥
      unfolding any
      no_nine =
          let a = covered-mem (names (answer root)) v (covered_whole (answer root) Faces 15 15 6 v good-answer (omega arith) nv covered) in
          let i : IsName 6 15 a.0 = mem-all (IsName 6 15) (names (answer root)) a.0 (names-good (answer root) Faces 15 0 15 good-answer (omega arith)) a.1 in
          go a.0 a.1 a.2 i (any (names-whole a.0) all) refl
        where
          go : (a : Name) → Mem a (names (answer root)) → Prefix a v → IsName 6 15 a → (b : Bool) → any (names-whole a) all ≡ b → ⊥
          go a m h i true e =
              let x = some-any (names-whole a) all e in
              let c = child 0 (omega arith) in
              let s : x.0.name ≡ a = same_true x.0.name a (and_right x.0.own _ x.2) in
              let o : x.0.own ≡ true = and_left x.0.own _ x.2 in
              let t : (x.0.own && larger x.0.name c.0.name) ≡ true = rw (o, s, c.3) (larger-below a v 0 h) in
              clash (sym (any_some (names-larger c.0.name) all x.0 x.1 t) ∙ (proper c.0 c.1).outside c.2)
          go a m h i false e =
              let n = no-first (names (answer root)) all a (has-mem a (names (answer root)) m) e all [] refl quiet_all in
              clash (sym (stood a h (λ z. rw z at i)) ∙ n)

  -- the name of a list's cell: none around the faces
  abbrev NameAt : Level → Name → Type 0
  NameAt Faces w = w ≡ []
  NameAt Belt w = ⊥
  NameAt Digits w = IsName 6 15 w

  below-snoc : (ds : Name) (c : ℕ) → Below 9 ds → c < 9 → Below 9 (ds ++ (c ∷ []))
  below-snoc [] c h k = (k, tt)
  below-snoc (x ∷ ds) c h k = (h.0, below-snoc ds c h.1 k)

  name-snoc : (l : Level) (w : Name) (c : ℕ) → NameAt l w → c < many l → length w ≤ 15 → IsName 6 15 (w ++ (c ∷ []))
  name-snoc Faces [] c n h l = (h, omega arith, tt)
  name-snoc Faces (x ∷ w) c n h l = let k : ◌≡◌ {A = ℕ} (suc (length w)) 0 = ap length n in absurd (omega arith)
  name-snoc Belt w c n h l = absurd n
  name-snoc Digits [] c n h l = absurd n
  name-snoc Digits (x ∷ w) c n h l = (n.0, omega (arith, length-append w (c ∷ [])), below-snoc w c n.2 h)

  same-room : (l : Level) (w : Name) → NameAt l w → (c d : ℕ) → room l c d ≡ d
  same-room Faces w n c d = refl
  same-room Belt w n c d = absurd n
  same-room Digits w n c d = refl

  -- what begins w and one number more begins w, or is all of it
  prefix-snoc : (a w : Name) (c : ℕ) → Prefix a (w ++ (c ∷ [])) → Prefix a w ⊎ (a ≡ w ++ (c ∷ []))
  prefix-snoc [] w c h = inl tt
  prefix-snoc (x ∷ []) [] c h = inr (ap (λ (y : ℕ). y ∷ []) h.0)
  prefix-snoc (x ∷ y ∷ a) [] c h = absurd h.1
  prefix-snoc (x ∷ a) (z ∷ w) c h =
      ⊎_elim (λ k. inl (h.0, k)) (λ k. inr (ap₂ ◌∷◌ h.0 k)) (prefix-snoc a w c h.1)

  not_end : (ns : Nodes) → is_end ns ≡ false → Some ns
  not_end end e = clash e
  not_end (whole c ns) e = tt
  not_end (listed c is ns) e = tt

  good-from :
      (ns : Nodes) (l : Level) (d p lo : ℕ) (w : Name) → Loose l d ns → NameAt l w → length w + suc d ≡ 16 →
      ((e : Item) → IMem e (items p w lo ns) → IMem e all) → ((a : Name) → Prefix a w → (a ≡ [] → ⊥) → any (stands-for a) all ≡ true) → Good l d lo ns
  good-from end l d p lo w h n k i s = tt
  good-from (whole c ns) l d p lo w h n k i s =
      let e : Item = record { place = p; name = w ++ (c ∷ []); own = true; late = ltb c lo; void = false } in
      let q : Proper all e = proper e (i e (inl refl)) in
      (ltb-false c lo q.above, h.0, good-from ns l d (p + 1) (suc c) w h.1 n k (λ x m. i x (inr m)) s)
  good-from (listed c is ns) l d p lo w h n k i s =
      let v : Name = w ++ (c ∷ []) in
      let e : Item = record { place = p; name = v; own = false; late = ltb c lo; void = is_end is } in
      let me : IMem e all = i e (inl refl) in
      let q : Proper all e = proper e me in
      let nv : IsName 6 15 v = name-snoc l w c n h.0 (omega arith) in
      let lv : length v + suc (d - 1) ≡ 16 = omega (arith, length-append w (c ∷ []), h.1) in
      let inner : (x : Item) → IMem x (items (p + 2) v 0 is) → IMem x all = λ x m. i x (inr (imem-left x (items (p + 2) v 0 is) _ m)) in
      let stood : (a : Name) → Prefix a v → (a ≡ [] → ⊥) → any (stands-for a) all ≡ true =
      λ a f z. ⊎_elim (λ j. s a j z) (λ j. any_some (stands-for a) all e me (rw (← j) (same_self a))) (prefix-snoc a w c f) in
      let gi : Good Digits (d - 1) 0 is = good-from is Digits (d - 1) (p + 2) 0 v h.2 nv lv inner stood in
      let r : room l c d ≡ d = same-room l w n c d in (
        ltb-false c lo q.above,
        h.0,
        rw r h.1,
        not_end is q.filled,
        no_nine v nv (omega arith) (d - 1) (p + 2) is gi inner stood,
        rw r gi,
        good-from ns l d (p + 3 + length (render Digits is)) (suc c) w h.3 n k (λ x m. i x (inr (imem-right x (items (p + 2) v 0 is) _ m))) s,
      )

  -- "The list is empty exactly for a proper text": an empty list is of a proper text
  pub empty-proper : Good Faces 15 0 root
  empty-proper = good-from root Faces 15 7 0 [] g refl refl (λ e m. m) (λ a h n. absurd (go a h n))
    where
      go : (a : Name) → Prefix a [] → (a ≡ [] → ⊥) → ⊥
      go [] h n = n refl
      go (x ∷ a) h n = h
