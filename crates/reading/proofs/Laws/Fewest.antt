-- The names of a reading lie apart; no list of names that covers the same is shorter; and one that is no longer and in rising order is the reading's.
-- Assumes nothing.
use Rattle.std.specs.Prelude.{◌≡◌, refl, ◌⊎◌, List, [], ◌∷◌, map, ℕ, zero, suc, ◌-◌, ◌≤◌, ◌<◌, length, replicate}
use Rattle.std.proofs.Common.{sym, ap, ap₂, ◌∙◌, inl, inr, ⊎_elim, arith}
use Rattle.logic.specs.Lists.{All, Any, Mem, Pairwise}
use Rattle.logic.specs.Laws.Lists.{all_append, all_map, any-each, any-mem, mem-any, mem-all, all-mem}
use Rattle.ternary.specs.Digits.{Below}
use Rattle.reading.specs.declared.Level.{Level}
use Rattle.reading.specs.declared.Level.TheVariants.{Digits}
use Rattle.reading.specs.Reading.{Nodes, end, whole, listed, many, room, Good, names}
use Rattle.reading.proofs.Laws.Reading.{room-le}
use Rattle.reading.specs.Prefix.{Name, Prefix, Covered, Digs, FinestName, SameNames, IsName, AreNames, Ahead, AheadAll, InOrder}
use Rattle.reading.proofs.Laws.Ground.{below-digs, zeros, extend, covered_whole}
use Rattle.reading.proofs.Laws.Rising.{names-rise}

-- ---- no name begins with two of names in rising order

ahead-longer : (w v p q : Name) → Ahead w v → Prefix w p → Prefix v q → Ahead p q
ahead-longer [] v p q f h k = absurd f
ahead-longer (a ∷ w) [] p q f h k = absurd f
ahead-longer (a ∷ w) (b ∷ v) [] q f h k = absurd h
ahead-longer (a ∷ w) (b ∷ v) (c ∷ p) [] f h k = absurd k
ahead-longer (a ∷ w) (b ∷ v) (c ∷ p) (d ∷ q) (inl f) h k = inl (omega (arith, h.0, k.0))
ahead-longer (a ∷ w) (b ∷ v) (c ∷ p) (d ∷ q) (inr f) h k = inr (sym h.0 ∙ f.0 ∙ k.0, ahead-longer w v p q f.1 h.1 k.1)

ahead-covered : (w : Name) (ws : List Name) (p q : Name) → AheadAll w ws → Prefix w p → Covered ws q → Ahead p q
ahead-covered w [] p q f h k = absurd k
ahead-covered w (v ∷ ws) p q f h (inl k) = ahead-longer w v p q f.0 h k
ahead-covered w (v ∷ ws) p q f h (inr k) = ahead-covered w ws p q f.1 h k

not-ahead : (p : Name) → Ahead p p → ⊥
not-ahead [] f = f
not-ahead (x ∷ p) (inl f) = omega arith
not-ahead (x ∷ p) (inr f) = not-ahead p f.1

pub apart : (q : Name) (ws : List Name) (p : Name) → AheadAll q ws → Prefix q p → Covered ws p → ⊥
apart q ws p f h k = not-ahead p (ahead-covered q ws p p f h k)

-- ---- names in rising order, each with one of a list inside, are no more than the list

-- a name of the list begins with w
abbrev pub Has : Name → List Name → Type 0
Has w qs = Any (Prefix w) qs

abbrev pub Each : List Name → List Name → Type 0
Each ws qs = All (λ (w : Name). Has w qs) ws

-- the list without that name
abbrev pub less : (w : Name) (qs : List Name) → Has w qs → List Name
less w [] h = absurd h
less w (q ∷ qs) (inl h) = qs
less w (q ∷ qs) (inr h) = q ∷ less w qs h

pub less-length : (w : Name) (qs : List Name) (h : Has w qs) → length qs ≡ suc (length (less w qs h))
less-length w [] h = absurd h
less-length w (q ∷ qs) (inl h) = refl
less-length w (q ∷ qs) (inr h) = ap suc (less-length w qs h)

kept : (v w : Name) (qs : List Name) (h : Has w qs) → ((p : Name) → Prefix w p → Prefix v p → ⊥) → Has v qs → Has v (less w qs h)
kept v w [] h f k = absurd h
kept v w (q ∷ qs) (inl h) f (inl k) = absurd (f q h k)
kept v w (q ∷ qs) (inl h) f (inr k) = k
kept v w (q ∷ qs) (inr h) f (inl k) = inl k
kept v w (q ∷ qs) (inr h) f (inr k) = inr (kept v w qs h f k)

pub each-kept : (ws : List Name) (w : Name) (qs : List Name) (h : Has w qs) → ((p : Name) → Prefix w p → Covered ws p → ⊥) → Each ws qs → Each ws (less w qs h)
each-kept [] w qs h f e = tt
each-kept (v ∷ ws) w qs h f e = (kept v w qs h (λ p i j. f p i (inl j)) e.0, each-kept ws w qs h (λ p i j. f p i (inr j)) e.1)

pub no_more : (ws qs : List Name) → InOrder ws → Each ws qs → length ws ≤ length qs
no_more [] qs a e = omega arith
no_more (w ∷ ws) qs a e =
    omega (arith, less-length w qs e.0, no_more ws (less w qs e.0) a.1 (each-kept ws w qs e.0 (λ p. apart w ws p a.0) e.1))

-- ---- the names of a reading are names

pub name-longer : (c m r : ℕ) → c < m → (q : Name) → IsName 9 r q → IsName m (suc r) (c ∷ q)
name-longer c m r h [] n = absurd n
name-longer c m r h (y ∷ q) n = (h, omega (arith, n.1), (n.0, n.2))

pub names-good : (ns : Nodes) (l : Level) (d lo r : ℕ) → Good l d lo ns → d ≤ r → AreNames (many l) r (names ns)
names-good end l d lo r g h = tt
names-good (whole c ns) l d lo r g h = ((g.1, omega arith, tt), names-good ns l d (suc c) r g.2 h)
names-good (listed c is ns) l d lo zero g h = absurd (omega (arith, room-le l c d))
names-good (listed c is ns) l d lo (suc r) g h =
    all_append (IsName (many l) (suc r)) (map (λ (q : Name). c ∷ q) (names is)) (names ns)
    (all_map (IsName 9 r) (IsName (many l) (suc r)) (λ q. c ∷ q) (name-longer c (many l) r g.1) (names is)
    (names-good is Digits (room l c d - 1) 0 r g.5 (omega (arith, room-le l c d))))
    (names-good ns l d (suc c) (suc r) g.6 h)

-- ---- names that begin one another

pub prefix_trans : (a b c : Name) → Prefix a b → Prefix b c → Prefix a c
prefix_trans [] b c h k = tt
prefix_trans (x ∷ a) [] c h k = absurd h
prefix_trans (x ∷ a) (y ∷ b) [] h k = absurd k
prefix_trans (x ∷ a) (y ∷ b) (z ∷ c) h k = (h.0 ∙ k.0, prefix_trans a b c h.1 k.1)

pub covered-wider : (vs : List Name) (q p : Name) → Covered vs q → Prefix q p → Covered vs p
covered-wider vs q p h i = any-each (λ (v : Name). Prefix v q) (λ (v : Name). Prefix v p) (λ v k. prefix_trans v q p k i) vs h

-- what begins with a member of them begins with one of them
pub mem-covered : (vs : List Name) (w p : Name) → Mem w vs → Prefix w p → Covered vs p
mem-covered vs w p = mem-any (λ (v : Name). Prefix v p) vs w

-- of names in rising order, the one that p begins with is the one that q begins with, if p begins with q
pub pin : (vs : List Name) (w q p : Name) → InOrder vs → Mem w vs → Covered vs q → Prefix q p → Prefix w p → Prefix w q
pin [] w q p a m h i j = absurd m
pin (v ∷ vs) w q p a (inl e) (inl h) i j = rw (← e) h
pin (v ∷ vs) w q p a (inl e) (inr h) i j = absurd (apart v vs p a.0 (rw e j) (covered-wider vs q p h i))
pin (v ∷ vs) w q p a (inr m) (inl h) i j = absurd (apart v vs p a.0 (prefix_trans v q p h i) (mem-covered vs w p m j))
pin (v ∷ vs) w q p a (inr m) (inr h) i j = pin vs w q p a.1 m h i j

-- ---- a list in rising order that is no longer than those, and covers the same, is those

-- no later one is ahead of an earlier one
abbrev pub Ordered : List Name → Type 0
Ordered qs = Pairwise (λ (q p : Name). Ahead p q → ⊥) qs

-- digits that begin all that others begin, and no fewer, are those
same_digits : (r : ℕ) (w q : Name) → length q ≤ r → Below 9 w → Prefix w q → ((p : Name) → Digs r p → Prefix w p → Prefix q p) → q ≡ w
same_digits r [] [] l b h f = refl
same_digits zero [] (x ∷ q) l b h f = absurd (omega arith)
same_digits (suc r) [] (x ∷ q) l b h f =
    let i = f (0 ∷ replicate r 0) (omega arith, zeros r) tt in
    let j = f (1 ∷ replicate r 0) (omega arith, zeros r) tt in
    absurd (omega (arith, i.0, j.0))
same_digits r (y ∷ w) [] l b h f = absurd h
same_digits zero (y ∷ w) (x ∷ q) l b h f = absurd (omega arith)
same_digits (suc r) (y ∷ w) (x ∷ q) l b h f =
    ap₂ ◌∷◌ (sym h.0) (same_digits r w q (omega arith) b.1 h.1 (λ p u v. (f (y ∷ p) (b.0, u) (refl, v)).1))

same_name : (m r : ℕ) (w q : Name) → IsName m r w → IsName m r q → Prefix w q → ((p : Name) → FinestName m r p → Prefix w p → Prefix q p) → q ≡ w
same_name m r [] q n o h f = absurd n
same_name m r (y ∷ w) [] n o h f = absurd h
same_name m r (y ∷ w) (x ∷ q) n o h f =
    ap₂ ◌∷◌ (sym h.0) (same_digits r w q o.1 n.2 h.1 (λ p u v. (f (y ∷ p) (n.0, u) (refl, v)).1))

covered-all : (qs ws : List Name) (p : Name) → ((q : Name) → Mem q qs → Covered ws q) → Covered qs p → Covered ws p
covered-all qs ws p f h = let k = any-mem (λ (q : Name). Prefix q p) qs h in covered-wider ws k.0 p (f k.0 k.1) k.2

one_list :
    (m r : ℕ) (ws qs : List Name) → AreNames m r ws → AreNames m r qs → InOrder ws → Each ws qs → ((q : Name) → Mem q qs → Covered ws q) → Ordered qs →
    length qs ≤ length ws → ((w p : Name) → Mem w ws → FinestName m r p → Prefix w p → Covered qs p) → qs ≡ ws
one_list m r [] [] nw nq a e f o l c = refl
one_list m r [] (q ∷ qs) nw nq a e f o l c = absurd (omega arith)
one_list m r (w ∷ ws) [] nw nq a e f o l c = absurd e.0
one_list m r (w ∷ ws) (q ∷ qs) nw nq a e f o l c =
    ap₂ ◌∷◌ first (one_list m r ws qs nw.1 nq.1 a.1 each others o.1 (omega arith) onward)
  where
    begins : Prefix w q
    begins =
        ⊎_elim (λ h. h)
        (λ h. ⊎_elim (λ k. k) (λ k. let i = any-mem (Prefix w) qs k in absurd (mem-all (λ (p : Name). Ahead p q → ⊥) qs i.0 o.0 i.1
        (ahead-covered w ws i.0 q a.0 i.2 h))) e.0)
        (f q (inl refl))

    each : Each ws qs
    each = each-kept ws w (q ∷ qs) (inl begins) (λ p. apart w ws p a.0) e.1

    others : (p : Name) → Mem p qs → Covered ws p
    others p i =
        ⊎_elim
        (λ h.
        let k : Has w qs = mem-any (Prefix w) qs p i h in
        absurd (omega (arith, less-length w qs k, no_more ws (less w qs k) a.1 (each-kept ws w qs k (λ p. apart w ws p a.0) each))))
        (λ h. h) (f p (inr i))

    onward : (v p : Name) → Mem v ws → FinestName m r p → Prefix v p → Covered qs p
    onward v p i u h = ⊎_elim (λ k. absurd (apart w ws p a.0 (prefix_trans w q p begins k) (mem-covered ws v p i h))) (λ k. k) (c v p (inr i) u h)

    first : q ≡ w
    first =
        same_name m r w q nw.0 nq.0 begins
        (λ p u h. ⊎_elim (λ k. k) (λ k. absurd (apart w ws p a.0 h (covered-all qs ws p others k))) (c w p (inl refl) u h))

-- ---- of a reading: every list of names that covers exactly what it covers has at least as many

module _ (ns : Nodes) (l : Level) (d r : ℕ) (qs : List Name) (g : Good l d 0 ns) (h : d ≤ r) (n : AreNames (many l) r qs) (f : SameNames (many l) r qs (names ns)) where
  rise : InOrder (names ns)
  rise = names-rise ns l d 0 g

  named : AreNames (many l) r (names ns)
  named = names-good ns l d 0 r g h

  -- a name of the list is covered whole
  covers-each : (q : Name) → Mem q qs → Covered (names ns) q
  covers-each q i =
      covered_whole ns l d r (many l) q g h (mem-all (IsName (many l) r) qs q n i) (λ p u v. (f p u).0 (mem-covered qs q p i v))

  -- a name of the reading begins one of the list
  has_one : (w : Name) → Mem w (names ns) → IsName (many l) r w → Has w qs
  has_one [] m c = absurd c
  has_one (x ∷ w) m c =
      let e = extend (length w) r w (below-digs w c.2) c.1 in
      let p : Name = x ∷ e.0 in
      let k = any-mem (λ (q : Name). Prefix q p) qs ((f p (c.0, e.1)).1 (mem-covered (names ns) (x ∷ w) p m (refl, e.2))) in
      mem-any (Prefix (x ∷ w)) qs k.0 k.1
      (pin (names ns) (x ∷ w) k.0 p rise m (covers-each k.0 k.1) k.2 (refl, e.2))

  each-one : Each (names ns) qs
  each-one = all-mem (λ (w : Name). Has w qs) (names ns) (λ w m. has_one w m (mem-all (IsName (many l) r) (names ns) w named m))

  pub fewest-names : length (names ns) ≤ length qs
  fewest-names = no_more (names ns) qs rise each-one

  pub one-names : Ordered qs → length qs ≤ length (names ns) → qs ≡ names ns
  one-names o k =
      one_list (many l) r (names ns) qs named n rise each-one covers-each o k (λ w p m u i. (f p u).1 (mem-covered (names ns) w p m i))
