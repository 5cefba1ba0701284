-- The proper text is never longer than the looser one, so 13 is never asked of it. Assumes nothing.
use Rattle.std.specs.Prelude.{◌≡◌, refl, Bool, true, false, ◌||◌, cond, ◌⊎◌, List, [], ◌∷◌, ◌++◌, map, ℕ, zero, suc, ◌+◌, ◌-◌, ◌≤◌, ◌<◌, eqb, length}
use Rattle.std.proofs.Common.{sym, ap, ◌∙◌, inl, inr, ⊎_elim, append-nil, arith, length-append, eqb-true, eq-eqb, ne_eqb}
use Rattle.logic.specs.Laws.Order.{lt-or}
use Rattle.logic.specs.Laws.Bools.{by_cond, clash, or-either}
use Rattle.reading.specs.declared.Level.{Level}
use Rattle.reading.specs.declared.Level.TheVariants.{Faces, Digits}
use Rattle.reading.specs.Reading.{Nodes, end, whole, listed, wholes, render, names}
use Rattle.reading.specs.Prefix.{Name}
use Rattle.reading.specs.Written.{tails, any_ends, node_of, side, under}
use Rattle.reading.proofs.Laws.Built.{built-side}
use Rattle.reading.specs.Loose.{Loose}
use Rattle.proper.specs.Proper.{answer}

-- ---- names put together

tails-append : (c : ℕ) (a b : List Name) → tails c (a ++ b) ≡ tails c a ++ tails c b
unfolding tails
tails-append c [] b = refl
tails-append c ([] ∷ a) b = tails-append c a b
tails-append c ((x ∷ q) ∷ a) b = go (eqb x c) (tails-append c a b)
  where
    go : (t : Bool) → tails c (a ++ b) ≡ tails c a ++ tails c b → cond t (q ∷ tails c (a ++ b)) (tails c (a ++ b)) ≡ cond t (q ∷ tails c a) (tails c a) ++ tails c b
    go true e = ap (λ (z : List Name). q ∷ z) e
    go false e = e

ends-append : (a b : List Name) → any_ends (a ++ b) ≡ (any_ends a || any_ends b)
unfolding any_ends
ends-append [] b = refl
ends-append ([] ∷ a) b = refl
ends-append ((x ∷ q) ∷ a) b = ends-append a b

-- ---- a node is whole

unfoldable is_whole : (List Name → Nodes) → List Name → Bool
is_whole below ts = any_ends ts || eqb (wholes (below ts)) 9

-- how many whole nodes, and how many bytes, the node of these names adds
unfoldable one : (List Name → Nodes) → List Name → ℕ
unfolding is_whole
one below [] = 0
one below (t ∷ ts) = cond (is_whole below (t ∷ ts)) 1 0

unfoldable cost : (List Name → Nodes) → List Name → ℕ
unfolding is_whole
cost below [] = 0
cost below (t ∷ ts) = cond (is_whole below (t ∷ ts)) 1 (3 + length (render Digits (below (t ∷ ts))))

node-one : (below : List Name → Nodes) (c : ℕ) (ts : List Name) (rest : Nodes) → wholes (node_of below c ts rest) ≡ one below ts + wholes rest
unfolding node_of one is_whole
node-one below c [] rest = omega arith
node-one below c (t ∷ ts) rest = go (any_ends (t ∷ ts) || eqb (wholes (below (t ∷ ts))) 9)
  where
    go : (b : Bool) → wholes (cond b (whole c rest) (listed c (below (t ∷ ts)) rest)) ≡ cond b 1 0 + wholes rest
    go true = omega arith
    go false = omega arith

node-cost : (below : List Name → Nodes) (l : Level) (c : ℕ) (ts : List Name) (rest : Nodes) → length (render l (node_of below c ts rest)) ≡ cost below ts + length (render l rest)
unfolding node_of cost is_whole
node-cost below l c [] rest = omega arith
node-cost below l c (t ∷ ts) rest = go (any_ends (t ∷ ts) || eqb (wholes (below (t ∷ ts))) 9)
  where
    go : (b : Bool) → length (render l (cond b (whole c rest) (listed c (below (t ∷ ts)) rest))) ≡ cond b 1 (3 + length (render Digits (below (t ∷ ts)))) + length (render l rest)
    go true = omega arith
    go false = omega (arith, length-append (render Digits (below (t ∷ ts))) (41 ∷ render l rest))

one-most : (below : List Name → Nodes) (ts : List Name) → one below ts ≤ 1
unfolding one is_whole
one-most below [] = omega arith
one-most below (t ∷ ts) = by_cond (λ (n : ℕ). n ≤ 1) (any_ends (t ∷ ts) || eqb (wholes (below (t ∷ ts))) 9) (λ e. omega arith) (λ e. omega arith)

side-most : (below : List Name → Nodes) (n c : ℕ) (qs : List Name) → wholes (side below n c qs) ≤ n
unfolding side
side-most below zero c qs = omega arith
side-most below (suc n) c qs = omega (arith, node-one below c (tails c qs) (side below n (suc c) qs), one-most below (tails c qs), side-most below n (suc c) qs)

-- ---- more names leave whole what is whole

abbrev Keeps : (List Name → Nodes) → Type 0
Keeps below = (a m b : List Name) → one below m ≤ one below (a ++ (m ++ b))

tails-around : (c : ℕ) (a m b : List Name) → tails c (a ++ (m ++ b)) ≡ tails c a ++ (tails c m ++ tails c b)
tails-around c a m b = tails-append c a (m ++ b) ∙ ap (λ (z : List Name). tails c a ++ z) (tails-append c m b)

side-keeps : (below : List Name → Nodes) → Keeps below → (n c : ℕ) (a m b : List Name) → wholes (side below n c m) ≤ wholes (side below n c (a ++ (m ++ b)))
unfolding side
side-keeps below k zero c a m b = omega arith
side-keeps below k (suc n) c a m b =
    let e : one below (tails c (a ++ (m ++ b))) ≡ one below (tails c a ++ (tails c m ++ tails c b)) = ap (one below) (tails-around c a m b) in
    omega (
      arith,
      node-one below c (tails c m) (side below n (suc c) m),
      node-one below c (tails c (a ++ (m ++ b))) (side below n (suc c) (a ++ (m ++ b))),
      k (tails c a) (tails c m) (tails c b),
      side-keeps below k n (suc c) a m b,
    )

or-true : (a b : Bool) → (a ≡ true) ⊎ (b ≡ true) → (a || b) ≡ true
or-true true b h = refl
or-true false b (inl h) = clash (sym h)
or-true false b (inr h) = h

ends-around : (a m b : List Name) → any_ends m ≡ true → any_ends (a ++ (m ++ b)) ≡ true
ends-around a m b e =
    ends-append a (m ++ b) ∙ or-true (any_ends a) (any_ends (m ++ b)) (inr (ends-append m b ∙ or-true (any_ends m) (any_ends b) (inl e)))

-- where a cell is whole, it is whole with more names
abbrev Stays : (List Name → Nodes) → Type 0
Stays below = (a m b : List Name) → wholes (below m) ≡ 9 → wholes (below (a ++ (m ++ b))) ≡ 9

whole-keeps : (below : List Name → Nodes) → Stays below → (a m b : List Name) → is_whole below m ≡ true → is_whole below (a ++ (m ++ b)) ≡ true
unfolding is_whole
whole-keeps below f a m b h =
    ⊎_elim
    (λ e. or-true (any_ends (a ++ (m ++ b))) _ (inl (ends-around a m b e)))
    (λ e. or-true (any_ends (a ++ (m ++ b))) _ (inr (eq-eqb _ 9 (f a m b (eqb-true _ _ e)))))
    (or-either (any_ends m) _ h)

one-is : (below : List Name → Nodes) (ts : List Name) → (one below ts ≡ 0) ⊎ ((is_whole below ts ≡ true) × (one below ts ≡ 1))
unfolding one
one-is below [] = inl refl
one-is below (t ∷ ts) =
    go (is_whole below (t ∷ ts)) refl
  where
    go : (x : Bool) → is_whole below (t ∷ ts) ≡ x → ◌≡◌ {A = ℕ} (cond (is_whole below (t ∷ ts)) 1 0) 0 ⊎ ((is_whole below (t ∷ ts) ≡ true) × ◌≡◌ {A = ℕ} (cond (is_whole below (t ∷ ts)) 1 0) 1)
    go true e = inr (e, rw e refl)
    go false e = inl (rw e refl)

abbrev More : List Name → Type 0
More [] = ⊥
More (q ∷ qs) = Unit {0}

whole-one : (below : List Name → Nodes) (ts : List Name) → More ts → is_whole below ts ≡ true → one below ts ≡ 1
unfolding one
whole-one below [] m e = absurd m
whole-one below (t ∷ ts) m e = rw e refl

more-around : (a m b : List Name) → More m → More (a ++ (m ++ b))
more-around [] [] b h = absurd h
more-around [] (q ∷ m) b h = tt
more-around (p ∷ a) m b h = tt

one_more : (below : List Name → Nodes) (ts : List Name) → one below ts ≡ 1 → More ts
unfolding one
one_more below [] e = omega arith
one_more below (t ∷ ts) e = tt

one-keeps : (below : List Name → Nodes) → Stays below → Keeps below
one-keeps below f a m b =
    ⊎_elim (λ e. omega arith)
    (λ e.
    let z = whole-one below (a ++ (m ++ b)) (more-around a m b (one_more below m e.1)) (whole-keeps below f a m b e.0) in
    omega (arith, e.1))
    (one-is below m)

under-keeps : (r : ℕ) → Stays (under r)
under-keeps zero a m b h = absurd (omega arith)
under-keeps (suc r) a m b h =
    let k : Keeps (under r) = one-keeps (under r) (under-keeps r) in
    let i : wholes (side (under r) 9 0 m) ≡ 9 = ap wholes (sym (built-side r 9 m)) ∙ h in
    ap wholes (built-side r 9 (a ++ (m ++ b)))
    ∙ (let z = side-keeps (under r) k 9 0 a m b in let y = side-most (under r) 9 0 (a ++ (m ++ b)) in omega arith)

-- ---- names put together cost no more than each by itself

abbrev Shares : (List Name → Nodes) → Type 0
Shares below = (a b : List Name) → cost below (a ++ b) ≤ cost below a + cost below b

side-shares : (below : List Name → Nodes) → Shares below → (l : Level) (n c : ℕ) (a b : List Name) →
    length (render l (side below n c (a ++ b))) ≤ length (render l (side below n c a)) + length (render l (side below n c b))
unfolding side
side-shares below k l zero c a b = omega arith
side-shares below k l (suc n) c a b =
    let e : cost below (tails c (a ++ b)) ≡ cost below (tails c a ++ tails c b) = ap (cost below) (tails-append c a b) in
    omega (
      arith,
      node-cost below l c (tails c a) (side below n (suc c) a),
      node-cost below l c (tails c b) (side below n (suc c) b),
      node-cost below l c (tails c (a ++ b)) (side below n (suc c) (a ++ b)),
      k (tails c a) (tails c b),
      side-shares below k l n (suc c) a b,
    )

cost-more : (below : List Name → Nodes) (t : Name) (ts : List Name) →
    (1 ≤ cost below (t ∷ ts)) ×
    (is_whole below (t ∷ ts) ≡ false → cost below (t ∷ ts) ≡ 3 + length (render Digits (below (t ∷ ts)))) × (cost below (t ∷ ts) ≤ 3 + length (render Digits (below (t ∷ ts))))
unfolding cost
cost-more below t ts = (
  by_cond (λ (n : ℕ). 1 ≤ n) (is_whole below (t ∷ ts)) (λ e. omega arith) (λ e. omega arith),
  (λ e. rw e refl),
  by_cond (λ (n : ℕ). n ≤ 3 + length (render Digits (below (t ∷ ts)))) (is_whole below (t ∷ ts)) (λ e. omega arith) (λ e. omega arith),
)

cost-whole : (below : List Name → Nodes) (t : Name) (ts : List Name) → is_whole below (t ∷ ts) ≡ true → cost below (t ∷ ts) ≡ 1
unfolding cost
cost-whole below t ts e = rw e refl

cost-none : (below : List Name → Nodes) → cost below [] ≡ 0
unfolding cost
cost-none below = refl

-- where the cell of all is not whole, neither part is
parts-not : (r : ℕ) (a b : List Name) → is_whole (under r) (a ++ b) ≡ false → (is_whole (under r) a ≡ false) × (is_whole (under r) b ≡ false)
parts-not r a b e = (
  not-true _ (λ h. clash (sym (whole-keeps (under r) (under-keeps r) [] a b h) ∙ e)),
  not-true _
      (λ h.
      let z : a ++ (b ++ []) ≡ a ++ b = ap (λ (x : List Name). a ++ x) (append-nil b) in
      clash (sym (whole-keeps (under r) (under-keeps r) a b [] h) ∙ ap (is_whole (under r)) z ∙ e)),
)
  where
    not-true : (t : Bool) → (t ≡ true → ⊥) → t ≡ false
    not-true true h = absurd (h refl)
    not-true false h = refl

under-bytes : (r : ℕ) (qs : List Name) → length (render Digits (under (suc r) qs)) ≡ length (render Digits (side (under r) 9 0 qs))
under-bytes r qs = ap (λ (x : Nodes). length (render Digits x)) (built-side r 9 qs)

abbrev Below : ℕ → Type 0
Below r = (a b : List Name) → length (render Digits (under r (a ++ b))) ≤ length (render Digits (under r a)) + length (render Digits (under r b))

shares-from : (r : ℕ) → Below r → Shares (under r)
shares-from r f [] b = let z = cost-none (under r) in omega arith
shares-from r f (t ∷ a) [] = let e : cost (under r) ((t ∷ a) ++ []) ≡ cost (under r) (t ∷ a) = ap (cost (under r)) (append-nil (t ∷ a)) in omega arith
shares-from r f (t ∷ a) (s ∷ b) = go (is_whole (under r) (t ∷ (a ++ (s ∷ b)))) refl (f (t ∷ a) (s ∷ b))
  where
    go :
        (x : Bool) → is_whole (under r) (t ∷ (a ++ (s ∷ b))) ≡ x →
        length (render Digits (under r (t ∷ (a ++ (s ∷ b))))) ≤ length (render Digits (under r (t ∷ a))) + length (render Digits (under r (s ∷ b))) →
        cost (under r) (t ∷ (a ++ (s ∷ b))) ≤ cost (under r) (t ∷ a) + cost (under r) (s ∷ b)
    go true e h = let z = cost-whole (under r) t (a ++ (s ∷ b)) e in omega (arith, (cost-more (under r) t a).0)
    go false e h =
        let p = parts-not r (t ∷ a) (s ∷ b) e in
        omega (arith, (cost-more (under r) t (a ++ (s ∷ b))).2, (cost-more (under r) t a).1 p.0, (cost-more (under r) s b).1 p.1)

under-below : (r : ℕ) → Below r
under-below zero a b = omega arith
under-below (suc r) a b =
    omega (arith, under-bytes r (a ++ b), under-bytes r a, under-bytes r b, side-shares (under r) (shares-from r (under-below r)) Digits 9 0 a b)

-- ---- the names behind one number

tails-own : (c : ℕ) (a : List Name) → tails c (map (λ (q : Name). c ∷ q) a) ≡ a
unfolding tails
tails-own c [] = refl
tails-own c (q ∷ a) = rw (eq-eqb c c refl) (ap (λ (z : List Name). q ∷ z) (tails-own c a))

tails-other : (c x : ℕ) (a : List Name) → (c ≡ x → ⊥) → tails x (map (λ (q : Name). c ∷ q) a) ≡ []
unfolding tails
tails-other c x [] h = refl
tails-other c x (q ∷ a) h = rw (ne_eqb c x h) (tails-other c x a h)

none-bytes : (below : List Name → Nodes) (l : Level) (n x c : ℕ) (a : List Name) → c < x → length (render l (side below n x (map (λ (q : Name). c ∷ q) a))) ≡ 0
unfolding side
none-bytes below l zero x c a h = refl
none-bytes below l (suc n) x c a h =
    let e : cost below (tails x (map (λ (q : Name). c ∷ q) a)) ≡ cost below [] = ap (cost below) (tails-other c x a (λ z. omega arith)) in
    omega (
      arith,
      node-cost below l x (tails x (map (λ (q : Name). c ∷ q) a)) (side below n (suc x) (map (λ (q : Name). c ∷ q) a)),
      cost-none below,
      none-bytes below l n (suc x) c a (omega arith),
    )

one-bytes : (below : List Name → Nodes) (l : Level) (n x c : ℕ) (a : List Name) → x ≤ c → length (render l (side below n x (map (λ (q : Name). c ∷ q) a))) ≤ cost below a
unfolding side
one-bytes below l zero x c a h = omega arith
one-bytes below l (suc n) x c a h =
    ⊎_elim
    (λ k.
    let e : cost below (tails x (map (λ (q : Name). c ∷ q) a)) ≡ cost below [] = ap (cost below) (tails-other c x a (λ z. omega arith)) in
    omega (
      arith,
      node-cost below l x (tails x (map (λ (q : Name). c ∷ q) a)) (side below n (suc x) (map (λ (q : Name). c ∷ q) a)),
      cost-none below,
      one-bytes below l n (suc x) c a k,
    ))
    (λ k.
    let q : c ≡ x = omega arith in
    let e : cost below (tails x (map (λ (q : Name). c ∷ q) a)) ≡ cost below a = ap (λ (z : ℕ). cost below (tails z (map (λ (q : Name). c ∷ q) a))) (sym q) ∙ ap (cost below) (tails-own c a) in
    omega (
      arith,
      node-cost below l x (tails x (map (λ (q : Name). c ∷ q) a)) (side below n (suc x) (map (λ (q : Name). c ∷ q) a)),
      none-bytes below l n (suc x) c a (omega arith),
    ))
    (lt-or x c)

cost-self : (below : List Name → Nodes) → cost below ([] ∷ []) ≡ 1
unfolding cost is_whole any_ends
cost-self below = refl

cost-most : (below : List Name → Nodes) (a : List Name) → cost below a ≤ 3 + length (render Digits (below a))
cost-most below [] = omega (arith, cost-none below)
cost-most below (t ∷ a) = (cost-more below t a).2

none-side : (below : List Name → Nodes) (l : Level) (n c : ℕ) → length (render l (side below n c [])) ≡ 0
unfolding side tails node_of
none-side below l zero c = refl
none-side below l (suc n) c = none-side below l n (suc c)

-- ---- of a looser reading

side-loose : (ns : Nodes) (l : Level) (d n : ℕ) → Loose l d ns → length (render l (side (under d) n 0 (names ns))) ≤ length (render l ns)
side-loose end l d n g = omega (arith, none-side (under d) l n 0)
side-loose (whole c ns) l d n g =
    omega (
      arith,
      side-shares (under d) (shares-from d (under-below d)) l n 0 ((c ∷ []) ∷ []) (names ns),
      one-bytes (under d) l n 0 c ([] ∷ []) (omega arith),
      cost-self (under d),
      side-loose ns l d n g.1,
    )
side-loose (listed c is ns) l d n g =
    let e : d ≡ suc (d - 1) = omega (arith, g.1) in
    let u : length (render Digits (under d (names is))) ≡ length (render Digits (side (under (d - 1)) 9 0 (names is))) =
    ap (λ (z : ℕ). length (render Digits (under z (names is)))) e ∙ under-bytes (d - 1) (names is) in
    omega (
      arith,
      side-shares (under d) (shares-from d (under-below d)) l n 0 (map (λ (q : Name). c ∷ q) (names is)) (names ns),
      one-bytes (under d) l n 0 c (names is) (omega arith),
      cost-most (under d) (names is),
      side-loose is Digits (d - 1) 9 g.2,
      side-loose ns l d n g.3,
      length-append (render Digits is) (41 ∷ render l ns),
    )

-- the proper body is no longer than the looser one
pub no_longer : (ns : Nodes) → Loose Faces 15 ns → length (render Faces (answer ns)) ≤ length (render Faces ns)
unfolding answer
no_longer ns g = omega (arith, ap (λ (x : Nodes). length (render Faces x)) (built-side 15 6 (names ns)), side-loose ns Faces 15 6 g)
