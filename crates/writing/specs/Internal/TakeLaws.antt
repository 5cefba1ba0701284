-- Taking names in turn gives the nodes that are built of them. Assumes nothing.
use Rattle.std.specs.Prelude.{◌≡◌, refl, Bool, false, ◌||◌, cond, List, [], ◌∷◌, ◌++◌, ℕ, zero, suc, ◌≤◌, ◌<◌, eqb, length}
use Rattle.std.proofs.Common.{sym, ap, ap₂, ◌∙◌, inl, inr, ⊎_elim, append_assoc, arith, length-append, eq-eqb, eqb-true}
use Rattle.logic.specs.Laws.Bools.{by_cond}
use Rattle.logic.specs.Laws.Order.{lt-or}
use Rattle.ternary.specs.Digits.{Below}
use Rattle.reading.specs.Reading.{Nodes, whole, listed, wholes}
use Rattle.reading.specs.Prefix.{Name, Prefix, AreNames, Ahead, AheadAll, InOrder}
use Rattle.reading.specs.Written.{tails, any_ends, node_of, side}
use Rattle.writing.specs.Internal.Take.{rests_of, Since, Each, Standing, Took}

-- ---- names in order

ahead-trans : (a b c : Name) → Ahead a b → Ahead b c → Ahead a c
ahead-trans [] b c h k = h
ahead-trans (x ∷ a) [] c h k = absurd h
ahead-trans (x ∷ a) (y ∷ b) [] h k = k
ahead-trans (x ∷ a) (y ∷ b) (z ∷ c) (inl h) (inl k) = inl (omega arith)
ahead-trans (x ∷ a) (y ∷ b) (z ∷ c) (inl h) (inr k) = inl (omega (arith, k.0))
ahead-trans (x ∷ a) (y ∷ b) (z ∷ c) (inr h) (inl k) = inl (omega (arith, h.0))
ahead-trans (x ∷ a) (y ∷ b) (z ∷ c) (inr h) (inr k) = inr (h.0 ∙ k.0, ahead-trans a b c h.1 k.1)

ahead-not : (w q : Name) → Ahead w q → Prefix w q → ⊥
ahead-not [] q h k = h
ahead-not (x ∷ w) [] h k = h
ahead-not (x ∷ w) (y ∷ q) (inl h) k = omega (arith, k.0)
ahead-not (x ∷ w) (y ∷ q) (inr h) k = ahead-not w q h.1 k.1

prefix-self : (q : Name) → Prefix q q
prefix-self [] = tt
prefix-self (x ∷ q) = (refl, prefix-self q)

-- a name inside w that is no longer is w
pub prefix_same : (w q : Name) → Prefix w q → length q ≤ length w → w ≡ q
prefix_same [] [] h l = refl
prefix_same [] (y ∷ q) h l = absurd (omega arith)
prefix_same (x ∷ w) [] h l = absurd h
prefix_same (x ∷ w) (y ∷ q) h l = ap₂ ◌∷◌ h.0 (prefix_same w q h.1 (omega arith))

pub prefix-both : (w q : Name) → Prefix w q → Prefix q w → w ≡ q
prefix-both [] [] h k = refl
prefix-both [] (y ∷ q) h k = absurd k
prefix-both (x ∷ w) [] h k = absurd h
prefix-both (x ∷ w) (y ∷ q) h k = ap₂ ◌∷◌ h.0 (prefix-both w q h.1 k.1)

prefix-shorter : (w : Name) (c : ℕ) (q : Name) → Prefix (w ++ (c ∷ [])) q → Prefix w q
prefix-shorter [] c q h = tt
prefix-shorter (x ∷ w) c [] h = absurd h
prefix-shorter (x ∷ w) c (y ∷ q) h = (h.0, prefix-shorter w c q h.1)

-- what comes after number c begins with the next number or comes after it
since-next : (w : Name) (c : ℕ) (q : Name) → Ahead (w ++ (c ∷ [])) q → Since (w ++ (suc c ∷ [])) q
since-next [] c [] h = absurd h
since-next [] c (b ∷ q) (inl h) = ⊎_elim (λ k. inr (inl k)) (λ k. inl (omega arith, tt)) (lt-or (suc c) b)
since-next [] c (b ∷ q) (inr h) = absurd h.1
since-next (x ∷ w) c [] h = absurd h
since-next (x ∷ w) c (b ∷ q) (inl h) = inr (inl h)
since-next (x ∷ w) c (b ∷ q) (inr h) = ⊎_elim (λ k. inl (h.0, k)) (λ k. inr (inr (h.0, k))) (since-next w c q h.1)

-- what is not w itself begins with number 0 behind w or comes after it
since-first : (w q : Name) → Since w q → (Prefix q w → ⊥) → Since (w ++ (0 ∷ [])) q
since-first [] [] h n = absurd (n tt)
since-first [] (b ∷ q) h n = ⊎_elim (λ k. inr (inl k)) (λ k. inl (omega arith, tt)) (lt-or 0 b)
since-first (x ∷ w) [] (inl h) n = absurd h
since-first (x ∷ w) [] (inr h) n = absurd h
since-first (x ∷ w) (b ∷ q) (inl h) n =
    ⊎_elim (λ k. inl (h.0, k)) (λ k. inr (inr (h.0, k))) (since-first w q (inl h.1) (λ k. n (sym h.0, k)))
since-first (x ∷ w) (b ∷ q) (inr (inl h)) n = inr (inl h)
since-first (x ∷ w) (b ∷ q) (inr (inr h)) n =
    ⊎_elim (λ k. inl (h.0, k)) (λ k. inr (inr (h.0, k))) (since-first w q (inr h.1) (λ k. n (sym h.0, k)))

-- there is no tenth child
past-nine : (w q : Name) → Below 9 q → Since (w ++ (9 ∷ [])) q → Ahead w q
past-nine [] [] b (inl h) = absurd h
past-nine [] [] b (inr h) = absurd h
past-nine [] (y ∷ q) b (inl h) = absurd (omega (arith, h.0, b.0))
past-nine [] (y ∷ q) b (inr (inl h)) = absurd (omega (arith, b.0))
past-nine [] (y ∷ q) b (inr (inr h)) = absurd h.1
past-nine (x ∷ w) [] b (inl h) = absurd h
past-nine (x ∷ w) [] b (inr h) = absurd h
past-nine (x ∷ w) (y ∷ q) b (inl h) = inr (h.0, past-nine w q b.1 (inl h.1))
past-nine (x ∷ w) (y ∷ q) b (inr (inl h)) = inl h
past-nine (x ∷ w) (y ∷ q) b (inr (inr h)) = inr (h.0, past-nine w q b.1 (inr h.1))

-- where a name that comes first is inside w and is not w, none is w
none-itself : (w q p : Name) → Prefix w q → Ahead q p → Prefix p w → ⊥
none-itself w [] p h a k = a
none-itself w (x ∷ q) [] h a k = a
none-itself [] (x ∷ q) (y ∷ p) h a k = k
none-itself (z ∷ w) (x ∷ q) (y ∷ p) h (inl a) k = omega (arith, h.0, k.0)
none-itself (z ∷ w) (x ∷ q) (y ∷ p) h (inr a) k = none-itself w q p h.1 a.1 k.1

-- ---- lists of names

each_map : {F G : Name → Type 0} (qs : List Name) → ((q : Name) → F q → G q) → Each F qs → Each G qs
each_map [] f e = tt
each_map (q ∷ qs) f e = (f q e.0, each_map qs f e.1)

each_append : (F : Name → Type 0) (a b : List Name) → Each F a → Each F b → Each F (a ++ b)
each_append F [] b e f = f
each_append F (q ∷ a) b e f = (e.0, each_append F a b e.1 f)

names-rest : (m r : ℕ) (a b : List Name) → AreNames m r (a ++ b) → AreNames m r b
names-rest m r [] b n = n
names-rest m r (q ∷ a) b n = names-rest m r a b n.1

rise-rest : (a b : List Name) → InOrder (a ++ b) → InOrder b
rise-rest [] b r = r
rise-rest (q ∷ a) b r = rise-rest a b r.1

ahead-each : (w : Name) (qs : List Name) → AheadAll w qs → Each (Ahead w) qs
ahead-each w [] h = tt
ahead-each w (q ∷ qs) h = (h.0, ahead-each w qs h.1)

-- all of them come after w where the first does
all_after : (w q : Name) (qs : List Name) → Ahead w q → AheadAll q qs → Each (Ahead w) (q ∷ qs)
all_after w q qs h k = (h, each_map qs (λ p a. ahead-trans w q p h a) (ahead-each q qs k))

-- ---- what follows a name

pub rests-snoc : (w : Name) (c : ℕ) (qs : List Name) → rests_of (w ++ (c ∷ [])) qs ≡ tails c (rests_of w qs)
unfolding rests_of
rests-snoc [] c qs = refl
rests-snoc (x ∷ w) c qs = rests-snoc w c (tails x qs)

rests-out : (w q : Name) (qs : List Name) → (Prefix w q → ⊥) → rests_of w (q ∷ qs) ≡ rests_of w qs
unfolding rests_of tails
rests-out [] q qs h = absurd (h tt)
rests-out (x ∷ w) [] qs h = refl
rests-out (x ∷ w) (b ∷ q) qs h =
    by_cond (λ (ts : List Name). rests_of w ts ≡ rests_of w (tails x qs)) (eqb b x)
    (λ e. rests-out w q (tails x qs) (λ k. h (sym (eqb-true b x e), k)))
    (λ e. refl)

rests-in : (w q : Name) (qs : List Name) → Prefix w q → (t : Name) × (q ≡ w ++ t) × (rests_of w (q ∷ qs) ≡ t ∷ rests_of w qs)
unfolding rests_of tails
rests-in [] q qs h = (q, refl, refl)
rests-in (x ∷ w) [] qs h = absurd h
rests-in (x ∷ w) (b ∷ q) qs h =
    let k = rests-in w q (tails x qs) h.1 in
    (k.0, ap₂ ◌∷◌ (sym h.0) k.1, ap (λ (t : Bool). rests_of w (cond t (q ∷ tails x qs) (tails x qs))) (eq-eqb b x (sym h.0)) ∙ k.2)

-- where the first is inside w, something follows w
pub rests-first : (w : Name) (ss : List Name) (q : Name) (qs : List Name) → ss ≡ q ∷ qs → Prefix w q → (t : Name) × (ts : List Name) × (rests_of w ss ≡ t ∷ ts)
rests-first w ss q qs e h = let k = rests-in w q qs h in (k.0, rests_of w qs, ap (rests_of w) e ∙ k.2)

rests-none : (w : Name) (qs : List Name) → Each (λ q. Prefix w q → ⊥) qs → rests_of w qs ≡ []
unfolding rests_of tails
rests-none [] [] h = refl
rests-none [] (q ∷ qs) h = absurd (h.0 tt)
rests-none (x ∷ w) [] h = rests-none w [] tt
rests-none (x ∷ w) (q ∷ qs) h = rests-out (x ∷ w) q qs h.0 ∙ rests-none (x ∷ w) qs h.1

-- names of which none is inside w add nothing
rests-skip : (w : Name) (a b : List Name) → Each (λ q. Prefix w q → ⊥) a → rests_of w (a ++ b) ≡ rests_of w b
rests-skip w [] b h = refl
rests-skip w (q ∷ a) b h = rests-out w q (a ++ b) h.0 ∙ rests-skip w a b h.1

prefix-nil : (w : Name) → Prefix (w ++ []) w
prefix-nil [] = tt
prefix-nil (x ∷ w) = (refl, prefix-nil w)

more-ends : (w q t : Name) (ts : List Name) → q ≡ w ++ t → (Prefix q w → ⊥) → any_ends ts ≡ false → any_ends (t ∷ ts) ≡ false
unfolding any_ends
more-ends w q [] ts e n i = absurd (n (rw e (prefix-nil w)))
more-ends w q (b ∷ t) ts e n i = i

-- none of them ends at w
no-ends : (w : Name) (qs : List Name) → Each (Since w) qs → Each (λ q. Prefix q w → ⊥) qs → any_ends (rests_of w qs) ≡ false
unfolding any_ends
no-ends w [] s n = ap any_ends (rests-none w [] tt)
no-ends w (q ∷ qs) s n =
    ⊎_elim
    (λ h.
    let k = rests-in w q qs h in
    ap any_ends k.2 ∙ more-ends w q k.0 (rests_of w qs) k.1 n.0 (no-ends w qs s.1 n.1))
    (λ h. ap any_ends (rests-out w q qs (ahead-not w q h)) ∙ no-ends w qs s.1 n.1)
    s.0

-- ---- the nodes of the numbers from c on

side_same :
    (below : List Name → Nodes) (n c : ℕ) (us vs : List Name) → ((b : ℕ) → c ≤ b → tails b us ≡ tails b vs) → side below n c us ≡ side below n c vs
unfolding side
side_same below zero c us vs f = refl
side_same below (suc n) c us vs f =
    ap₂ (node_of below c) (f c (omega arith)) (side_same below n (suc c) us vs (λ b h. f b (omega arith)))

other-number : (w : Name) (b c : ℕ) (q : Name) → c < b → Prefix (w ++ (c ∷ [])) q → Prefix (w ++ (b ∷ [])) q → ⊥
other-number [] b c [] l h k = h
other-number [] b c (y ∷ q) l h k = omega (arith, h.0, k.0)
other-number (x ∷ w) b c [] l h k = h
other-number (x ∷ w) b c (y ∷ q) l h k = other-number w b c q l h.1 k.1

-- a cell's node, of the names that it takes, and then the others
pub side-in :
    (below : List Name → Nodes) (n c : ℕ) (w : Name) (ss rest : List Name) → Took (w ++ (c ∷ [])) ss rest →
    side below (suc n) c (rests_of w ss) ≡ node_of below c (rests_of (w ++ (c ∷ [])) ss) (side below n (suc c) (rests_of w rest))
unfolding side
side-in below n c w ss rest t =
    ap₂ (node_of below c) (sym (rests-snoc w c ss))
    (side_same below n (suc c) (rests_of w ss) (rests_of w rest)
    (λ b h.
    sym (rests-snoc w b ss)
    ∙ ap (rests_of (w ++ (b ∷ []))) t.split
    ∙ rests-skip (w ++ (b ∷ [])) t.front rest (each_map t.front (λ q k. other-number w b c q h k) t.inside)
    ∙ rests-snoc w b rest))

-- a cell that takes none has no node
pub side-out :
    (below : List Name → Nodes) (n c : ℕ) (w : Name) (ss : List Name) → Each (Ahead (w ++ (c ∷ []))) ss →
    side below (suc n) c (rests_of w ss) ≡ side below n (suc c) (rests_of w ss)
unfolding side node_of
side-out below n c w ss h =
    ap (λ (ts : List Name). node_of below c ts (side below n (suc c) (rests_of w ss)))
    (sym (rests-snoc w c ss) ∙ rests-none (w ++ (c ∷ [])) ss (each_map ss (λ q k. ahead-not (w ++ (c ∷ [])) q k) h))

-- ---- from one cell to the next

pub took-none : (w : Name) (ss : List Name) → Took w ss ss
took-none w ss = record { front = []; split = refl; inside = tt }

pub took-join : (w : Name) (c : ℕ) (ss rest last : List Name) → Took (w ++ (c ∷ [])) ss rest → Took w rest last → Took w ss last
took-join w c ss rest last t u =
    record {
      front = t.front ++ u.front;
      split = t.split ∙ ap (λ (x : List Name). t.front ++ x) u.split ∙ sym (append_assoc t.front u.front last);
      inside = each_append (Prefix w) t.front u.front (each_map t.front (λ q k. prefix-shorter w c q k) t.inside) u.inside;
    }

pub standing-next :
    (w : Name) (c : ℕ) (ss rest : List Name) → Standing (w ++ (c ∷ [])) ss → Took (w ++ (c ∷ [])) ss rest → Each (Ahead (w ++ (c ∷ []))) rest →
    Standing (w ++ (suc c ∷ [])) rest
standing-next w c ss rest s t h =
    record {
      named = names-rest 6 15 t.front rest (rw t.split at s.named);
      rising = rise-rest t.front rest (rw t.split at s.rising);
      since = each_map rest (λ q k. since-next w c q k) h;
    }

-- where the first comes after w, all do
pub all-ahead : (w q : Name) (qs : List Name) → Standing w (q ∷ qs) → Ahead w q → Each (Ahead w) (q ∷ qs)
all-ahead w q qs s h = all_after w q qs h s.rising.0

-- ---- a cell that is among them

pub self-node : (below : List Name → Nodes) (c : ℕ) (w : Name) (ss : List Name) (rest : Nodes) → node_of below c (rests_of w (w ∷ ss)) rest ≡ whole c rest
unfolding node_of any_ends
self-node below c w ss rest =
    let k = rests-in w w ss (prefix-self w) in
    ap (λ (ts : List Name). node_of below c ts rest) k.2 ∙ go k.0 k.1
  where
    go : (t : Name) → w ≡ w ++ t → node_of below c (t ∷ rests_of w ss) rest ≡ whole c rest
    go [] e = refl
    go (b ∷ t) e = absurd (omega (arith, ap length e, length-append w (b ∷ t)))

pub self-took : (w : Name) (ss : List Name) → Took w (w ∷ ss) ss
self-took w ss = record { front = w ∷ []; split = refl; inside = (prefix-self w, tt) }

pub self-past : (w : Name) (ss : List Name) → Standing w (w ∷ ss) → Each (Ahead w) ss
self-past w ss s = ahead-each w ss s.rising.0

some-node :
    (below : List Name → Nodes) (c : ℕ) (t : Name) (ts : List Name) (rest : Nodes) → any_ends (t ∷ ts) ≡ false →
    node_of below c (t ∷ ts) rest ≡ cond (eqb (wholes (below (t ∷ ts))) 9) (whole c rest) (listed c (below (t ∷ ts)) rest)
unfolding node_of
some-node below c t ts rest e =
    ap (λ (b : Bool). cond (b || eqb (wholes (below (t ∷ ts))) 9) (whole c rest) (listed c (below (t ∷ ts)) rest)) e

-- ---- a cell that is not, and has the first inside

module _ (w q : Name) (qs : List Name) (s : Standing w (q ∷ qs)) (h : Prefix w q) (n : Prefix q w → ⊥) where
  none : Each (λ p. Prefix p w → ⊥) (q ∷ qs)
  none = (n, each_map qs (λ p a. none-itself w q p h a) (ahead-each q qs s.rising.0))

  pub deeper : Standing (w ++ (0 ∷ [])) (q ∷ qs)
  deeper = record { named = s.named; rising = s.rising; since = both (q ∷ qs) s.since none }
    where
      both : (ps : List Name) → Each (Since w) ps → Each (λ p. Prefix p w → ⊥) ps → Each (Since (w ++ (0 ∷ []))) ps
      both [] a b = tt
      both (p ∷ ps) a b = (since-first w p a.0 b.0, both ps a.1 b.1)

  pub deeper-node :
      (below : List Name → Nodes) (c : ℕ) (rest : Nodes) →
      node_of below c (rests_of w (q ∷ qs)) rest ≡
      cond (eqb (wholes (below (rests_of w (q ∷ qs)))) 9) (whole c rest) (listed c (below (rests_of w (q ∷ qs))) rest)
  deeper-node below c rest =
      let k = rests-in w q qs h in
      let e : any_ends (rests_of w (q ∷ qs)) ≡ false = no-ends w (q ∷ qs) s.since none in
      rw k.2 (some-node below c k.0 (rests_of w qs) rest (rw k.2 at e))

-- past all nine children
pub nine-past : (w : Name) (rest : List Name) → AreNames 6 15 rest → Each (Since (w ++ (9 ∷ []))) rest → Each (Ahead w) rest
nine-past w [] n e = tt
nine-past w ([] ∷ rest) n e = absurd n.0
nine-past w ((x ∷ q) ∷ rest) n e = (past-nine w (x ∷ q) (omega (arith, n.0.0), n.0.2) e.0, nine-past w rest n.1 e.1)
