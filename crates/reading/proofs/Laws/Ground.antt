-- What the names of a reading cover: a name that is covered whole begins with one of them, and two readings that cover the same are the same.
-- Assumes nothing.
use Rattle.std.specs.Prelude.{◌≡◌, refl, ◌⊎◌, List, [], ◌∷◌, map, ℕ, zero, suc, ◌+◌, ◌-◌, ◌≤◌, ◌<◌, length, replicate}
use Rattle.std.proofs.Common.{sym, ap, ap₂, ◌∙◌, inl, inr, ⊎_elim, arith}
use Rattle.logic.specs.Laws.Order.{lt-or}
use Rattle.logic.specs.Laws.Lists.{any_left, any-right, any-or, any-map}
use Rattle.ternary.specs.Digits.{Below}
use Rattle.reading.specs.declared.Level.{Level}
use Rattle.reading.specs.declared.Level.TheVariants.{Digits}
use Rattle.reading.specs.Reading.{Nodes, end, whole, listed, many, room, wholes, Some, Good, names}
use Rattle.reading.proofs.Laws.Reading.{eq-or, room-le, wholes-most}
use Rattle.reading.specs.Prefix.{Name, Prefix, Covered, Digs, FinestName, SameNames, IsName}

-- ---- what lists of names cover

covered-map : (c : ℕ) (a : List Name) (x : ℕ) (p : Name) → Covered (map (λ (q : Name). c ∷ q) a) (x ∷ p) → (c ≡ x) × Covered a p
covered-map c [] x p h = absurd h
covered-map c (q ∷ a) x p (inl h) = (h.0, inl h.1)
covered-map c (q ∷ a) x p (inr h) = let k = covered-map c a x p h in (k.0, inr k.1)

-- ---- what nodes cover: the node of number x is whole, or holds a list that covers p

abbrev pub In : Nodes → ℕ → Name → Type 0
In end x p = ⊥
In (whole c ns) x p = (c ≡ x) ⊎ In ns x p
In (listed c is ns) x p = ((c ≡ x) × Covered (names is) p) ⊎ In ns x p

pub in→covered : (ns : Nodes) (x : ℕ) (p : Name) → In ns x p → Covered (names ns) (x ∷ p)
in→covered end x p h = absurd h
in→covered (whole c ns) x p (inl e) = inl (e, tt)
in→covered (whole c ns) x p (inr h) = inr (in→covered ns x p h)
in→covered (listed c is ns) x p (inl h) =
    any_left (λ (q : Name). Prefix q (x ∷ p)) (map (λ (q : Name). c ∷ q) (names is)) (names ns)
    (any-map (λ (q : Name). Prefix q p) (λ (q : Name). Prefix q (x ∷ p)) (λ q. c ∷ q) (λ q k. (h.0, k)) (names is) h.1)
in→covered (listed c is ns) x p (inr h) =
    any-right (λ (q : Name). Prefix q (x ∷ p)) (map (λ (q : Name). c ∷ q) (names is)) (names ns) (in→covered ns x p h)

pub covered→in : (ns : Nodes) (x : ℕ) (p : Name) → Covered (names ns) (x ∷ p) → In ns x p
covered→in end x p h = absurd h
covered→in (whole c ns) x p (inl h) = inl h.0
covered→in (whole c ns) x p (inr h) = inr (covered→in ns x p h)
covered→in (listed c is ns) x p h =
    ⊎_elim (λ k. inl (covered-map c (names is) x p k)) (λ k. inr (covered→in ns x p k))
    (any-or (λ (q : Name). Prefix q (x ∷ p)) (map (λ (q : Name). c ∷ q) (names is)) (names ns) h)

-- what nodes from lo on cover begins at lo or later
pub in-from : (ns : Nodes) (l : Level) (d lo x : ℕ) (p : Name) → Good l d lo ns → In ns x p → lo ≤ x
in-from end l d lo x p g h = absurd h
in-from (whole c ns) l d lo x p g (inl e) = omega arith
in-from (whole c ns) l d lo x p g (inr h) = omega (arith, in-from ns l d (suc c) x p g.2 h)
in-from (listed c is ns) l d lo x p g (inl h) = omega arith
in-from (listed c is ns) l d lo x p g (inr h) = omega (arith, in-from ns l d (suc c) x p g.6 h)

-- so the node of number c covers only by itself
own-whole : (l : Level) (d : ℕ) (ns : Nodes) (c x : ℕ) (p : Name) → Good l d (suc c) ns → x ≤ c → In (whole c ns) x p → c ≡ x
own-whole l d ns c x p g k (inl e) = e
own-whole l d ns c x p g k (inr h) = absurd (omega (arith, in-from ns l d (suc c) x p g h))

own-list : (l : Level) (d : ℕ) (is ns : Nodes) (c x y : ℕ) (p : Name) → Good l d (suc c) ns → x ≤ c → In (listed c is ns) x (y ∷ p) → In is y p
own-list l d is ns c x y p g k (inl h) = covered→in is y p h.1
own-list l d is ns c x y p g k (inr h) = absurd (omega (arith, in-from ns l d (suc c) x (y ∷ p) g h))

-- ---- nodes that cover everything from lo on are all whole

pub zeros : (r : ℕ) → Digs r (replicate r 0)
zeros zero = tt
zeros (suc r) = (omega arith, zeros r)

full :
    (ns : Nodes) (d lo r : ℕ) → Good Digits d lo ns → d ≤ r → lo ≤ 9 → ((x : ℕ) (p : Name) → lo ≤ x → x < 9 → Digs r p → In ns x p) →
    wholes ns + lo ≡ 9
full end d lo r g h k f = ⊎_elim (λ a. absurd (f lo (replicate r 0) (omega arith) a (zeros r))) (λ a. omega arith) (lt-or lo 9)
full (whole c ns) d lo r g h k f =
    let a : c ≡ lo = own-whole Digits d ns c lo (replicate r 0) g.2 g.0 (f lo (replicate r 0) (omega arith) (omega arith) (zeros r)) in
    omega (arith, full ns d (suc c) r g.2 h g.1 (λ x p b b' i. ⊎_elim (λ e. absurd (omega arith)) (λ j. j) (f x p (omega arith) b' i)))
full (listed c is ns) d lo zero g h k f = absurd (omega arith)
full (listed c is ns) d lo (suc r) g h k f =
    absurd
    (g.4
    (omega (
      arith,
      full is (d - 1) 0 r g.5 (omega arith) (omega arith)
          (λ x p b b' i. own-list Digits d is ns c lo x p g.6 g.0 (f lo (x ∷ p) (omega arith) (omega arith) (b', i))),
    )))

-- nine whole nodes cover all: "nine whole children are the whole cell"
pub nine-cover : (ns : Nodes) (d lo x : ℕ) (p : Name) → Good Digits d lo ns → wholes ns + lo ≡ 9 → lo ≤ x → x < 9 → In ns x p
nine-cover end d lo x p g e a b = absurd (omega arith)
nine-cover (whole c ns) d lo x p g e a b =
    let k : wholes ns + suc c ≤ 9 = wholes-most ns Digits d (suc c) g.2 g.1 in
    ⊎_elim (λ h. inr (nine-cover ns d (suc c) x p g.2 (omega arith) h b)) (λ h. inl (omega arith)) (lt-or c x)
nine-cover (listed c is ns) d lo x p g e a b = absurd (omega (arith, wholes-most ns Digits d (suc c) g.6 g.1))

-- ---- a name that is covered whole begins with one name of the reading

pub below-digs : (q : Name) → Below 9 q → Digs (length q) q
below-digs [] h = tt
below-digs (b ∷ q) h = (h.0, below-digs q h.1)

pub digs-below : (k : ℕ) (q : Name) → Digs k q → (length q ≡ k) × Below 9 q
digs-below zero [] h = (refl, tt)
digs-below zero (b ∷ q) h = absurd h
digs-below (suc k) [] h = absurd h
digs-below (suc k) (b ∷ q) h = let e = digs-below k q h.1 in (ap suc e.0, (h.0, e.1))

-- a name of k digits, made one of r
pub extend : (k r : ℕ) (q : Name) → Digs k q → k ≤ r → (p : Name) × Digs r p × Prefix q p
extend zero r [] h a = (replicate r 0, zeros r, tt)
extend zero r (b ∷ q) h a = absurd h
extend (suc k) r [] h a = absurd h
extend (suc k) zero (b ∷ q) h a = absurd (omega arith)
extend (suc k) (suc r) (b ∷ q) h a = let e = extend k r q h.1 (omega arith) in (b ∷ e.0, (h.0, e.1), (refl, e.2))

one_name :
    (ns : Nodes) (l : Level) (d lo r k x : ℕ) (q : Name) → Good l d lo ns → d ≤ r → Digs k q → k ≤ r →
    ((p : Name) → Digs r p → Prefix q p → In ns x p) → In ns x q
one_name end l d lo r k x q g h u a f = let e = extend k r q u a in f e.0 e.1 e.2
one_name (whole c ns) l d lo r k x q g h u a f =
    ⊎_elim (λ e. inl e)
    (λ n. inr (one_name ns l d (suc c) r k x q g.2 h u a (λ p i j. ⊎_elim (λ e. absurd (n e)) (λ w. w) (f p i j))))
    (eq-or c x)
one_name (listed c is ns) l d lo zero k x q g h u a f = absurd (omega (arith, room-le l c d))
one_name (listed c is ns) l d lo (suc r) k x [] g h u a f =
    ⊎_elim
    (λ e.
    absurd
    (g.4
    (omega (
      arith,
      full is (room l c d - 1) 0 r g.5 (omega (arith, room-le l c d)) (omega arith)
          (λ y p b b' i. own-list l d is ns c x y p g.6 (omega arith) (f (y ∷ p) (b', i) tt)),
    ))))
    (λ n. inr (one_name ns l d (suc c) (suc r) k x [] g.6 h u a (λ p i j. ⊎_elim (λ w. absurd (n w.0)) (λ w. w) (f p i j))))
    (eq-or c x)
one_name (listed c is ns) l d lo (suc r) zero x (y ∷ q) g h u a f = absurd u
one_name (listed c is ns) l d lo (suc r) (suc k) x (y ∷ q) g h u a f =
    ⊎_elim
    (λ e.
    inl (
      e,
      in→covered is y q
          (one_name is Digits (room l c d - 1) 0 r k y q g.5 (omega (arith, room-le l c d)) u.1 (omega arith)
          (λ p i j. own-list l d is ns c x y p g.6 (omega arith) (f (y ∷ p) (u.0, i) (refl, j)))),
    ))
    (λ n. inr (one_name ns l d (suc c) (suc r) (suc k) x (y ∷ q) g.6 h u a (λ p i j. ⊎_elim (λ w. absurd (n w.0)) (λ w. w) (f p i j))))
    (eq-or c x)

pub covered_whole :
    (ns : Nodes) (l : Level) (d r m : ℕ) (q : Name) → Good l d 0 ns → d ≤ r → IsName m r q →
    ((p : Name) → FinestName m r p → Prefix q p → Covered (names ns) p) → Covered (names ns) q
covered_whole ns l d r m [] g h n f = absurd n
covered_whole ns l d r m (x ∷ q) g h n f =
    in→covered ns x q
    (one_name ns l d 0 r (length q) x q g h (below-digs q n.2) n.1 (λ p u v. covered→in ns x p (f (x ∷ p) (n.0, u) (refl, v))))

-- ---- two readings that cover the same are the same

-- nodes cover something
some_in : (ns : Nodes) (l : Level) (d lo r : ℕ) → Good l d lo ns → d ≤ r → Some ns → (x : ℕ) × (p : Name) × (x < many l) × Digs r p × In ns x p
some_in end l d lo r g h s = absurd s
some_in (whole c ns) l d lo r g h s = (c, replicate r 0, g.1, zeros r, inl refl)
some_in (listed c is ns) l d lo zero g h s = absurd (omega (arith, room-le l c d))
some_in (listed c is ns) l d lo (suc r) g h s =
    let w = some_in is Digits (room l c d - 1) 0 r g.5 (omega (arith, room-le l c d)) g.3 in
    (c, w.0 ∷ w.1, g.1, (w.2, w.3), inl (refl, in→covered is w.0 w.1 w.4))

-- what nodes cover of the finest names, others cover too
abbrev NoMore : Level → ℕ → Nodes → Nodes → Type 0
NoMore l r a b = (x : ℕ) (p : Name) → x < many l → Digs r p → In a x p → In b x p

-- what nodes of a later reading cover begins no earlier
lead :
    (a b : Nodes) (l : Level) (d c lo r : ℕ) → Good l d c a → (g : Good l d lo b) (h : d ≤ r) (s : Some b) → NoMore l r b a →
    c ≤ (some_in b l d lo r g h s).0
lead a b l d c lo r k g h s f =
    let w = some_in b l d lo r g h s in in-from a l d c w.0 w.1 k (f w.0 w.1 w.2 w.3 w.4)

-- the same holds in-from a later number on
later :
    (l : Level) (d r c : ℕ) (a b a' b' : Nodes) → Good l d (suc c) a' → ((x : ℕ) (p : Name) → In a' x p → In a x p) →
    ((x : ℕ) (p : Name) → In b x p → (c ≡ x) ⊎ In b' x p) → NoMore l r a b → NoMore l r a' b'
later l d r c a b a' b' g i j f x p u v w = ⊎_elim (λ e. absurd (omega (arith, in-from a' l d (suc c) x p g w))) (λ k. k) (j x p (f x p u v (i x p w)))

-- a whole node and one with a list do not cover the same
not-both :
    (l : Level) (d lo r c c' : ℕ) (a is b : Nodes) → Good l d lo (whole c a) → Good l d lo (listed c' is b) → d ≤ r →
    NoMore l r (whole c a) (listed c' is b) → NoMore l r (listed c' is b) (whole c a) → ⊥
unfolding some_in
not-both l d lo zero c c' a is b ga gb h f g = absurd (omega (arith, room-le l c' d))
not-both l d lo (suc r) c c' a is b ga gb h f g =
    let e : c ≤ c' = lead (whole c a) (listed c' is b) l d c lo (suc r) (omega arith, ga.1, ga.2) gb h tt g in
    gb.4
    (omega (
      arith,
      full is (room l c' d - 1) 0 r gb.5 (omega (arith, room-le l c' d)) (omega arith)
          (λ y p u v i. own-list l d is b c' c y p gb.6 e (f c (y ∷ p) ga.1 (v, i) (inl refl))),
    ))

same : (a b : Nodes) (l : Level) (d lo r : ℕ) → Good l d lo a → Good l d lo b → d ≤ r → NoMore l r a b → NoMore l r b a → a ≡ b
unfolding some_in
same end end l d lo r ga gb h f g = refl
same end (whole c b) l d lo r ga gb h f g = absurd (g c (replicate r 0) gb.1 (zeros r) (inl refl))
same end (listed c is b) l d lo r ga gb h f g =
    let w = some_in (listed c is b) l d lo r gb h tt in absurd (g w.0 w.1 w.2 w.3 w.4)
same (whole c a) end l d lo r ga gb h f g = absurd (f c (replicate r 0) ga.1 (zeros r) (inl refl))
same (whole c a) (whole c' b) l d lo r ga gb h f g =
    let i : c ≤ c' = lead (whole c a) (whole c' b) l d c lo r (omega arith, ga.1, ga.2) gb h tt g in
    let j : c' ≤ c = lead (whole c' b) (whole c a) l d c' lo r (omega arith, gb.1, gb.2) ga h tt f in
    let e : c ≡ c' = omega arith in
    ap₂ whole e
    (same a b l d (suc c) r ga.2 (rw e gb.2) h
    (later l d r c (whole c a) (whole c' b) a b ga.2 (λ x p i. inr i) (λ x p i. rw e i) f)
    (later l d r c' (whole c' b) (whole c a) b a gb.2 (λ x p i. inr i) (λ x p i. rw (← e) i) g))
same (whole c a) (listed c' is b) l d lo r ga gb h f g = absurd (not-both l d lo r c c' a is b ga gb h f g)
same (listed c is a) end l d lo r ga gb h f g =
    let w = some_in (listed c is a) l d lo r ga h tt in absurd (f w.0 w.1 w.2 w.3 w.4)
same (listed c is a) (whole c' b) l d lo r ga gb h f g = absurd (not-both l d lo r c' c b is a gb ga h g f)
same (listed c is a) (listed c' js b) l d lo zero ga gb h f g = absurd (omega (arith, room-le l c d))
same (listed c is a) (listed c' js b) l d lo (suc r) ga gb h f g =
    let i : c ≤ c' = lead (listed c is a) (listed c' js b) l d c lo (suc r) (omega arith, ga.1, ga.2, ga.3, ga.4, ga.5, ga.6) gb h tt g in
    let j : c' ≤ c = lead (listed c' js b) (listed c is a) l d c' lo (suc r) (omega arith, gb.1, gb.2, gb.3, gb.4, gb.5, gb.6) ga h tt f in
    let e : c ≡ c' = omega arith in
    let inner : is ≡ js =
    same is js Digits (room l c d - 1) 0 r ga.5 (rw e gb.5) (omega (arith, room-le l c d))
    (λ x p u v i. own-list l d js b c' c x p gb.6 (omega arith) (f c (x ∷ p) ga.1 (u, v) (inl (refl, in→covered is x p i))))
    (λ x p u v i. own-list l d is a c c' x p ga.6 (omega arith) (g c' (x ∷ p) gb.1 (u, v) (inl (refl, in→covered js x p i)))) in
    let further : a ≡ b =
    same a b l d (suc c) (suc r) ga.6 (rw e gb.6) h
    (later l d (suc r) c (listed c is a) (listed c' js b) a b ga.6 (λ x p i. inr i) (λ x p i. ⊎_elim (λ y. inl (e ∙ y.0)) (λ y. inr y) i) f)
    (later l d (suc r) c' (listed c' js b) (listed c is a) b a gb.6 (λ x p i. inr i) (λ x p i. ⊎_elim (λ y. inl (sym e ∙ y.0)) (λ y. inr y) i) g) in
    cc

pub same_names : (a b : Nodes) (l : Level) (d r : ℕ) → Good l d 0 a → Good l d 0 b → d ≤ r → SameNames (many l) r (names a) (names b) → a ≡ b
same_names a b l d r g k h f =
    same a b l d 0 r g k h
    (λ x p i j c. covered→in b x p ((f (x ∷ p) (i, j)).0 (in→covered a x p c)))
    (λ x p i j c. covered→in a x p ((f (x ∷ p) (i, j)).1 (in→covered b x p c)))
