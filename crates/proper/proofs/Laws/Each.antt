-- Kind 4 is told "for each cell whole in the answer and nowhere named whole". Assumes nothing.
use Rattle.std.specs.Prelude.{◌≡◌, refl, Bool, true, false, ◌⊎◌, List, [], ◌∷◌, ◌++◌, map, ℕ, zero, suc, ◌+◌, ◌≤◌, length}
use Rattle.std.proofs.Common.{sym, ap, subst, ◌∙◌, inl, inr, ⊎_elim, append_assoc, arith}
use Rattle.logic.specs.Lists.{Mem}
use Rattle.logic.specs.Laws.Bools.{clash}
use Rattle.logic.specs.Laws.Lists.{mem-all}
use Rattle.ternary.specs.Digits.{Below}
use Rattle.reading.specs.declared.Level.TheVariants.{Faces, Digits}
use Rattle.reading.specs.Reading.{Nodes, end, whole, listed, render, names, Good}
use Rattle.reading.specs.Prefix.{Name, Prefix, Digs, FinestName, SameNames, IsName}
use Rattle.reading.proofs.Laws.Ground.{covered_whole}
use Rattle.reading.proofs.Laws.Rising.{names-rise}
use Rattle.reading.proofs.Laws.Fewest.{names-good, mem-covered, prefix_trans}
use Rattle.reading.proofs.Laws.Built.{built-ground}
use Rattle.reading.specs.Loose.{Loose}
use Rattle.loose.proofs.Laws.Names.{names-loose}
use Rattle.proper.specs.Proper.{answer}
use Rattle.proper.specs.Changes.{Item, items, same, changes}
use Rattle.proper.proofs.Laws.Lists.{IMem, same_true, same_self, imem-left, imem-right, mem-or, map-mem, covered-mem}
use Rattle.proper.proofs.Laws.Order.{Spaced, items-spaced}
use Rattle.proper.proofs.Laws.Proper.{answer-good}
use Rattle.proper.proofs.Laws.Kind.{prefix-both, rise-apart}
use Rattle.proper.proofs.Laws.Given.{at}
use Rattle.proper.proofs.Laws.Told.{told-4}

-- ---- a name and finest names below it

fill : (r : ℕ) (ds : Name) → Below 9 ds → length ds ≤ r → (p : Name) × Digs r p × Prefix ds p
fill zero [] b l = ([], tt, tt)
fill zero (x ∷ ds) b l = absurd (omega arith)
fill (suc r) [] b l = let k = fill r [] tt (omega arith) in (0 ∷ k.0, (omega arith, k.1), tt)
fill (suc r) (x ∷ ds) b l = let k = fill r ds b.1 (omega arith) in (x ∷ k.0, (b.0, k.1), (refl, k.2))

finest-below : (q : Name) → IsName 6 15 q → (p : Name) × FinestName 6 15 p × Prefix q p
finest-below [] n = absurd n
finest-below (x ∷ q) n = let k = fill 15 q n.2 n.1 in (x ∷ k.0, (n.0, k.1), (refl, k.2))

-- of two that begin one name, one begins the other
one-begins : (m q p : Name) → Prefix m p → Prefix q p → Prefix m q ⊎ Prefix q m
one-begins [] q p h k = inl tt
one-begins (a ∷ m) [] p h k = inr tt
one-begins (a ∷ m) (b ∷ q) [] h k = absurd h
one-begins (a ∷ m) (b ∷ q) (c ∷ p) h k =
    ⊎_elim (λ i. inl (h.0 ∙ sym k.0, i)) (λ i. inr (k.0 ∙ sym h.0, i)) (one-begins m q p h.1 k.1)

-- ---- letters and digits standing for a cell

abbrev StandsFor : List Item → Name → Type 0
StandsFor es q = (e : Item) × IMem e es × (e.name ≡ q)

-- what begins a whole cell's name is stood for
stood :
    (ns : Nodes) (p : ℕ) (w : Name) (lo : ℕ) (m : Name) → Mem m (names ns) → (x : ℕ) (q : Name) → Prefix (x ∷ q) m →
    StandsFor (items p w lo ns) (w ++ (x ∷ q))
stood end p w lo m i x q h = absurd i
stood (whole c ns) p w lo [] (inl i) x q h = absurd h
stood (whole c ns) p w lo (y ∷ m) (inl i) x q h = (_, inl refl, ap (λ (z : Name). w ++ z) (only c y m i x q h))
  where
    only : (c y : ℕ) (m : Name) → c ∷ [] ≡ y ∷ m → (x : ℕ) (q : Name) → Prefix (x ∷ q) (y ∷ m) → c ∷ [] ≡ x ∷ q
    only c y m i x [] h = i ∙ ap (λ (z : Name). y ∷ z) (sym (none m i)) ∙ ap (λ (z : ℕ). z ∷ []) (sym h.0)
      where
        none : (m : Name) → c ∷ [] ≡ y ∷ m → [] ≡ m
        none [] e = refl
        none (z ∷ m) e = let k : ◌≡◌ {A = ℕ} 1 (suc (suc (length m))) = ap length e in absurd (omega arith)
    only c y [] i x (z ∷ q) h = absurd h.1
    only c y (v ∷ m) i x (z ∷ q) h = let k : ◌≡◌ {A = ℕ} 1 (suc (suc (length m))) = ap length i in absurd (omega arith)
stood (whole c ns) p w lo m (inr i) x q h = let k = stood ns (p + 1) w (suc c) m i x q h in (k.0, inr k.1, k.2)
stood (listed c is ns) p w lo m i x q h =
    ⊎_elim
    (λ j.
    let k = map-mem c m (names is) j in
    let b : Prefix (x ∷ q) (c ∷ k.0) = subst (Prefix (x ∷ q)) k.2 h in
    inner k.0 (λ y u v. stood is (p + 2) (w ++ (c ∷ [])) 0 k.0 k.1 y u v) q b.0 b.1)
    (λ j.
    let k = stood ns (p + 3 + length (render Digits is)) w (suc c) m j x q h in
    (k.0, inr (imem-right k.0 (items (p + 2) (w ++ (c ∷ [])) 0 is) _ k.1), k.2))
    (mem-or m (map (λ (z : Name). c ∷ z) (names is)) (names ns) i)
  where
    inner :
        (m : Name) → ((y : ℕ) (q : Name) → Prefix (y ∷ q) m → StandsFor (items (p + 2) (w ++ (c ∷ [])) 0 is) ((w ++ (c ∷ [])) ++ (y ∷ q))) →
        (q : Name) → x ≡ c → Prefix q m → StandsFor (items p w lo (listed c is ns)) (w ++ (x ∷ q))
    inner m f [] e b = (_, inl refl, ap (λ (z : ℕ). w ++ (z ∷ [])) (sym e))
    inner m f (y ∷ q) e b =
        let k = f y q b in (
          k.0,
          inr (imem-left k.0 (items (p + 2) (w ++ (c ∷ [])) 0 is) _ k.1),
          k.2 ∙ append_assoc w (c ∷ []) (y ∷ q) ∙ ap (λ (z : ℕ). w ++ (z ∷ y ∷ q)) (sym e),
        )

-- the first of them
abbrev First : List Item → Name → Type 0
First es q = (e : Item) × IMem e es × (e.name ≡ q) × ((d : Item) → IMem d es → d.name ≡ q → e.place ≤ d.place)

first_of : (es : List Item) → Spaced es → (q : Name) → StandsFor es q → First es q
first_of [] s q x = absurd x.1
first_of (y ∷ es) s q x = go (same y.name q) refl (λ z. first_of es s.1 q z)
  where
    go : (t : Bool) → same y.name q ≡ t → (StandsFor es q → First es q) → First (y ∷ es) q
    go true z f = (
      y,
      inl refl,
      same_true y.name q z,
      (λ d m n. ⊎_elim (λ k. let i : y.place ≡ d.place = ap (λ (u : Item). u.place) k in omega arith) (λ k. omega (arith, (s.0 d k).0)) m),
    )
    go false z f =
        let other : y.name ≡ q → ⊥ = λ e. clash (sym (subst (λ (u : Name). same u q ≡ true) (sym e) (same_self q)) ∙ z) in
        let later : IMem x.0 es = ⊎_elim (λ k. absurd (other (ap (λ (u : Item). u.name) k ∙ x.2))) (λ k. k) x.1 in
        let i = f (x.0, later, x.2) in (
          i.0,
          inr i.1,
          i.2,
          (λ d m n. ⊎_elim (λ k. absurd (other (ap (λ (u : Item). u.name) k ∙ n))) (λ k. i.3 d k n) m),
        )

module _ (ns : Nodes) (g : Loose Faces 15 ns) where
  abbrev all : List Item
  all = items 7 [] 0 ns

  good : Good Faces 15 0 (answer ns)
  good = answer-good ns g

  ground : SameNames 6 15 (names ns) (names (answer ns))
  unfolding answer
  ground = built-ground (names ns) (names-loose ns Faces 15 g)

  -- a cell of the answer that is not named whole has whole cells inside
  smaller : (q : Name) → Mem q (names (answer ns)) → (Mem q (names ns) → ⊥) → (m : Name) × Mem m (names ns) × Prefix q m
  smaller q i n =
      let f = finest-below q (mem-all (IsName 6 15) (names (answer ns)) q (names-good (answer ns) Faces 15 0 15 good (omega arith)) i) in
      let m = covered-mem (names ns) f.0 ((ground f.0 f.1).1 (mem-covered (names (answer ns)) q f.0 i f.2)) in
      ⊎_elim (λ h. absurd (n (subst (λ (z : Name). Mem z (names ns)) (same-as m.0 m.1 h) m.1))) (λ h. (m.0, m.1, h))
      (one-begins m.0 q f.0 m.2 f.2)
    where
      same-as : (m : Name) → Mem m (names ns) → Prefix m q → m ≡ q
      same-as m j h =
          let c =
          covered-mem (names (answer ns)) m
          (covered_whole (answer ns) Faces 15 15 6 m good (omega arith) (mem-all (IsName 6 15) (names ns) m (names-loose ns Faces 15 g) j)
          (λ p f k. (ground p f).0 (mem-covered (names ns) m p j k))) in
          let e : c.0 ≡ q = rise-apart (names (answer ns)) (names-rise (answer ns) Faces 15 0 good) c.0 q c.1 i (prefix_trans c.0 m q c.2 h) in
          prefix-both m q h (subst (λ (z : Name). Prefix z m) e c.2)

  -- "for each cell whole in the answer and nowhere named whole": one of its letters or digits is told
  pub each-4 : (q : Name) → Mem q (names (answer ns)) → (Mem q (names ns) → ⊥) → (e : Item) × IMem e all × (e.name ≡ q) × Mem (at e.place 4) (changes ns)
  each-4 [] i n = absurd (mem-all (IsName 6 15) (names (answer ns)) [] (names-good (answer ns) Faces 15 0 15 good (omega arith)) i)
  each-4 (x ∷ q) i n =
      let m = smaller (x ∷ q) i n in
      let f = first_of all (items-spaced ns 7 [] 0) (x ∷ q) (stood ns 7 [] 0 m.0 m.1 x q m.2) in
      let a : Mem f.0.name (names (answer ns)) = subst (λ (z : Name). Mem z (names (answer ns))) (sym f.2) i in
      let b : Mem f.0.name (names ns) → ⊥ = λ h. n (subst (λ (z : Name). Mem z (names ns)) f.2 h) in
      (f.0, f.1, f.2, (told-4 ns f.0.place).1 (f.0, f.1, refl, (a, b, (λ d m e. f.3 d m (e ∙ f.2)))))
