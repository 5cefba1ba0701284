-- The nodes built of names are of the grammar, and cover what the names cover. Assumes nothing.
use Rattle.std.specs.Prelude.{◌≡◌, refl, Bool, true, false, ◌||◌, ◌⊎◌, List, [], ◌∷◌, ℕ, zero, suc, ◌+◌, ◌-◌, ◌≤◌, ◌<◌, eqb, length}
use Rattle.std.proofs.Common.{sym, ap, ◌∙◌, inl, inr, ⊎_elim, arith, eq-eqb, eqb-true}
use Rattle.std.proofs.lemmas.Bool.{eqb-false}
use Rattle.logic.specs.Laws.Order.{lt-or}
use Rattle.logic.specs.Laws.Bools.{by_cond, clash, or-either, or_left, or_right}
use Rattle.ternary.specs.Digits.{Below}
use Rattle.reading.specs.declared.Level.{Level}
use Rattle.reading.specs.declared.Level.TheVariants.{Faces, Digits}
use Rattle.reading.specs.Reading.{Nodes, many, room, wholes, Some, Good, names}
use Rattle.reading.proofs.Laws.Reading.{eq-or}
use Rattle.reading.specs.Prefix.{Name, Covered, Digs, SameNames, AreNames}
use Rattle.reading.proofs.Laws.Ground.{In, in→covered, covered→in, nine-cover}
use Rattle.reading.specs.Written.{tails, any_ends, node_of, side, built, under}

-- ---- what follows a number in names

-- at most r digits, and none at all for the cell itself
abbrev Rests : ℕ → List Name → Type 0
Rests r [] = Unit {0}
Rests r (q ∷ qs) = (length q ≤ r) × Below 9 q × Rests r qs

tails-rests : (m r c : ℕ) (qs : List Name) → AreNames m r qs → Rests r (tails c qs)
unfolding tails
tails-rests m r c [] n = tt
tails-rests m r c ([] ∷ qs) n = absurd n.0
tails-rests m r c ((b ∷ q) ∷ qs) n =
    by_cond (Rests r) (eqb b c) (λ e. (n.0.1, n.0.2, tails-rests m r c qs n.1)) (λ e. tails-rests m r c qs n.1)

-- where none ends here, they are names again
rests-names : (r : ℕ) (ts : List Name) → Rests (suc r) ts → any_ends ts ≡ false → AreNames 9 r ts
unfolding any_ends
rests-names r [] h e = tt
rests-names r ([] ∷ ts) h e = clash e
rests-names r ((b ∷ q) ∷ ts) h e = ((h.1.0, omega (arith, h.0), h.1.1), rests-names r ts h.2 e)

-- with no digit left, one ends here
none_left : (t : Name) (ts : List Name) → Rests 0 (t ∷ ts) → any_ends (t ∷ ts) ≡ true
unfolding any_ends
none_left [] ts h = refl
none_left (b ∷ t) ts h = absurd (omega (arith, h.0))

-- ---- what names cover, number by number

covered-tails : (m r x : ℕ) (qs : List Name) (p : Name) → AreNames m r qs → Covered qs (x ∷ p) → Covered (tails x qs) p
unfolding tails
covered-tails m r x [] p n h = absurd h
covered-tails m r x ([] ∷ qs) p n h = absurd n.0
covered-tails m r x ((b ∷ q) ∷ qs) p n (inl h) = rw (eq-eqb b x h.0) (inl h.1)
covered-tails m r x ((b ∷ q) ∷ qs) p n (inr h) =
    by_cond (λ (ts : List Name). Covered ts p) (eqb b x) (λ e. inr (covered-tails m r x qs p n.1 h)) (λ e. covered-tails m r x qs p n.1 h)

tails-covered : (x : ℕ) (qs : List Name) (p : Name) → Covered (tails x qs) p → Covered qs (x ∷ p)
unfolding tails
tails-covered x [] p h = absurd h
tails-covered x ([] ∷ qs) p h = inl tt
tails-covered x ((b ∷ q) ∷ qs) p h =
    by_cond (λ (ts : List Name). Covered ts p → Covered ((b ∷ q) ∷ qs) (x ∷ p)) (eqb b x)
    (λ e. ⊎_elim (λ k. inl (eqb-true b x e, k)) (λ k. inr (tails-covered x qs p k)))
    (λ e k. inr (tails-covered x qs p k))
    h

-- the cell itself covers all
ends-cover : (ts : List Name) (p : Name) → any_ends ts ≡ true → Covered ts p
unfolding any_ends
ends-cover [] p e = clash (sym e)
ends-cover ([] ∷ ts) p e = inl tt
ends-cover ((b ∷ t) ∷ ts) p e = inr (ends-cover ts p e)

-- ---- the nodes are of the grammar

-- some names
abbrev More : List Name → Type 0
More [] = ⊥
More (q ∷ qs) = Unit {0}

-- a list that is held is good and has a node
abbrev Makes : ℕ → (List Name → Nodes) → Type 0
Makes r below = (ts : List Name) → More ts → Rests r ts → any_ends ts ≡ false → (0 < r) × Some (below ts) × Good Digits (r - 1) 0 (below ts)

node-good :
    (l : Level) (r c lo : ℕ) (below : List Name → Nodes) (ts : List Name) (rest : Nodes) → ((c d : ℕ) → room l c d ≡ d) → Makes r below → Rests r ts →
    lo ≤ c → c < many l → Good l r lo rest → Good l r (suc c) rest → Good l r lo (node_of below c ts rest)
unfolding node_of
node-good l r c lo below [] rest w f n a b g h = g
node-good l r c lo below (t ∷ ts) rest w f n a b g h =
    by_cond (Good l r lo) (any_ends (t ∷ ts) || eqb (wholes (below (t ∷ ts))) 9) (λ e. (a, b, h))
    (λ e.
    let k = f (t ∷ ts) tt n (or_left (any_ends (t ∷ ts)) _ e) in
    let v : eqb (wholes (below (t ∷ ts))) 9 ≡ false = or_right (any_ends (t ∷ ts)) _ e in
    (a, b, rw (w c r) k.0, k.1, eqb-false _ _ v, rw (w c r) k.2, h))

side-good :
    (l : Level) (r m n c lo : ℕ) (below : List Name → Nodes) (qs : List Name) → ((c d : ℕ) → room l c d ≡ d) → Makes r below → AreNames m r qs →
    n + c ≤ many l → lo ≤ c → Good l r lo (side below n c qs)
unfolding side
side-good l r m zero c lo below qs w f k a b = tt
side-good l r m (suc n) c lo below qs w f k a b =
    node-good l r c lo below (tails c qs) (side below n (suc c) qs) w f (tails-rests m r c qs k) b (omega arith)
    (side-good l r m n (suc c) lo below qs w f k (omega arith) (omega arith))
    (side-good l r m n (suc c) (suc c) below qs w f k (omega arith) (omega arith))

-- a number that begins a name has its node
node-some : (below : List Name → Nodes) (c : ℕ) (ts : List Name) (rest : Nodes) → More ts → Some (node_of below c ts rest)
unfolding node_of
node-some below c [] rest h = absurd h
node-some below c (t ∷ ts) rest h = by_cond Some (any_ends (t ∷ ts) || eqb (wholes (below (t ∷ ts))) 9) (λ e. tt) (λ e. tt)

node-rest : (below : List Name → Nodes) (c : ℕ) (ts : List Name) (rest : Nodes) → Some rest → Some (node_of below c ts rest)
unfolding node_of
node-rest below c [] rest h = h
node-rest below c (t ∷ ts) rest h = node-some below c (t ∷ ts) rest tt

side-some : (below : List Name → Nodes) (n c x : ℕ) (qs : List Name) → More (tails x qs) → c ≤ x → x < n + c → Some (side below n c qs)
unfolding side
side-some below zero c x qs h a b = absurd (omega arith)
side-some below (suc n) c x qs h a b =
    ⊎_elim (λ e. node-some below c (tails c qs) (side below n (suc c) qs) (rw e h))
    (λ k. node-rest below c (tails c qs) (side below n (suc c) qs) (side-some below n (suc c) x qs h (omega (arith, le-ne c x a k)) (omega arith)))
    (eq-or c x)
  where
    le-ne : (c x : ℕ) → c ≤ x → (c ≡ x → ⊥) → suc c ≤ x
    le-ne c x a k = ⊎_elim (λ h. h) (λ h. absurd (k (omega arith))) (lt-or c x)

first_more : (m r : ℕ) (qs : List Name) → More qs → AreNames m r qs → (x : ℕ) × (x < m) × More (tails x qs)
unfolding tails
first_more m r [] h n = absurd h
first_more m r ([] ∷ qs) h n = absurd n.0
first_more m r ((b ∷ q) ∷ qs) h n = (b, n.0.0, rw (eq-eqb b b refl) tt)

pub built-side : (r n : ℕ) (qs : List Name) → built r n qs ≡ side (under r) n 0 qs
unfolding built
built-side zero n qs = refl
built-side (suc r) n qs = refl

under-makes : (r : ℕ) → Makes r (under r)
under-makes zero [] m h e = absurd m
under-makes zero (t ∷ ts) m h e = clash (sym (none_left t ts h) ∙ e)
under-makes (suc r) ts m h e =
    let n : AreNames 9 r ts = rests-names r ts h e in
    let k = first_more 9 r ts m n in
    let u : suc r - 1 ≡ r = omega arith in (
      omega arith,
      rw (built-side r 9 ts) (side-some (under r) 9 0 k.0 ts k.2 (omega arith) (omega (arith, k.1))),
      rw (u, built-side r 9 ts) (side-good Digits r 9 9 0 0 (under r) ts (λ c d. refl) (under-makes r) n (omega arith) (omega arith)),
    )

-- at a level whose nodes all have the same room: the faces, or the digits
pub built-good-at : (l : Level) (r m : ℕ) (qs : List Name) → ((c d : ℕ) → room l c d ≡ d) → m ≤ many l → AreNames m r qs → Good l r 0 (built r m qs)
built-good-at l r m qs w a n = rw (built-side r m qs) (side-good l r m m 0 0 (under r) qs w (under-makes r) n (omega arith) (omega arith))

pub built-good : (qs : List Name) → AreNames 6 15 qs → Good Faces 15 0 (built 15 6 qs)
built-good qs n = built-good-at Faces 15 6 qs (λ c d. refl) (omega arith) n

-- ---- they cover what the names cover

-- a node covers p, which stands behind its number
abbrev Holds : (List Name → Nodes) → List Name → Name → Type 0
Holds below [] p = ⊥
Holds below (t ∷ ts) p = ((any_ends (t ∷ ts) || eqb (wholes (below (t ∷ ts))) 9) ≡ true) ⊎ Covered (names (below (t ∷ ts))) p

node_in : (below : List Name → Nodes) (c : ℕ) (ts : List Name) (rest : Nodes) (p : Name) → Holds below ts p → In (node_of below c ts rest) c p
unfolding node_of
node_in below c [] rest p h = absurd h
node_in below c (t ∷ ts) rest p (inl h) = rw h (inl refl)
node_in below c (t ∷ ts) rest p (inr h) =
    by_cond (λ (ns : Nodes). In ns c p) (any_ends (t ∷ ts) || eqb (wholes (below (t ∷ ts))) 9) (λ e. inl refl) (λ e. inl (refl, h))

rest_in : (below : List Name → Nodes) (c x : ℕ) (ts : List Name) (rest : Nodes) (p : Name) → In rest x p → In (node_of below c ts rest) x p
unfolding node_of
rest_in below c x [] rest p h = h
rest_in below c x (t ∷ ts) rest p h =
    by_cond (λ (ns : Nodes). In ns x p) (any_ends (t ∷ ts) || eqb (wholes (below (t ∷ ts))) 9) (λ e. inr h) (λ e. inr h)

in-node : (below : List Name → Nodes) (c x : ℕ) (ts : List Name) (rest : Nodes) (p : Name) → In (node_of below c ts rest) x p → ((c ≡ x) × Holds below ts p) ⊎ In rest x p
unfolding node_of
in-node below c x [] rest p h = inr h
in-node below c x (t ∷ ts) rest p h =
    by_cond (λ (ns : Nodes). In ns x p → ((c ≡ x) × Holds below (t ∷ ts) p) ⊎ In rest x p) (any_ends (t ∷ ts) || eqb (wholes (below (t ∷ ts))) 9)
    (λ e. ⊎_elim (λ k. inl (k, inl e)) (λ k. inr k))
    (λ e. ⊎_elim (λ k. inl (k.0, inr k.1)) (λ k. inr k))
    h

side-in : (below : List Name → Nodes) (n c x : ℕ) (qs : List Name) (p : Name) → c ≤ x → x < n + c → Holds below (tails x qs) p → In (side below n c qs) x p
unfolding side
side-in below zero c x qs p a b h = absurd (omega arith)
side-in below (suc n) c x qs p a b h =
    ⊎_elim (λ k. rest_in below c x (tails c qs) (side below n (suc c) qs) p (side-in below n (suc c) x qs p k (omega arith) h))
    (λ k. let e : c ≡ x = omega arith in rw e (node_in below x (tails x qs) (side below n (suc x) qs) p h))
    (lt-or c x)

in-side : (below : List Name → Nodes) (n c x : ℕ) (qs : List Name) (p : Name) → In (side below n c qs) x p → Holds below (tails x qs) p
unfolding side
in-side below zero c x qs p h = absurd h
in-side below (suc n) c x qs p h =
    ⊎_elim (λ k. rw (← k.0) k.1) (λ k. in-side below n (suc c) x qs p k)
    (in-node below c x (tails c qs) (side below n (suc c) qs) p h)

-- the names behind a number cover what its node covers
abbrev Agrees : ℕ → (List Name → Nodes) → Type 0
Agrees r below = (ts : List Name) (p : Name) → Rests r ts → Digs r p → (Covered ts p → Holds below ts p) × (Holds below ts p → Covered ts p)

side-agrees :
    (r m : ℕ) (below : List Name → Nodes) → Agrees r below → (qs : List Name) → AreNames m r qs → (x : ℕ) (p : Name) → x < m → Digs r p →
    (Covered qs (x ∷ p) → In (side below m 0 qs) x p) × (In (side below m 0 qs) x p → Covered qs (x ∷ p))
side-agrees r m below f qs n x p a d =
    let k = f (tails x qs) p (tails-rests m r x qs n) d in (
      (λ h. side-in below m 0 x qs p (omega arith) (omega arith) (k.0 (covered-tails m r x qs p n h))),
      (λ h. tails-covered x qs p (k.1 (in-side below m 0 x qs p h))),
    )

under-agrees : (r : ℕ) → Agrees r (under r)
under-agrees zero [] p h d = ((λ k. k), (λ k. k))
under-agrees zero (t ∷ ts) p h d = ((λ k. inl (ap (λ (b : Bool). b || false) (none_left t ts h))), (λ k. ends-cover (t ∷ ts) p (none_left t ts h)))
under-agrees (suc r) [] p h d = ((λ k. k), (λ k. k))
under-agrees (suc r) (t ∷ ts) [] h d = absurd d
under-agrees (suc r) (t ∷ ts) (y ∷ p) h d = go (any_ends (t ∷ ts)) refl (λ n. side-agrees r 9 (under r) (under-agrees r) (t ∷ ts) n y p d.0 d.1)
  where
    go :
        (b : Bool) → any_ends (t ∷ ts) ≡ b →
        (AreNames 9 r (t ∷ ts) → (Covered (t ∷ ts) (y ∷ p) → In (side (under r) 9 0 (t ∷ ts)) y p) × (In (side (under r) 9 0 (t ∷ ts)) y p → Covered (t ∷ ts) (y ∷ p))) →
        (Covered (t ∷ ts) (y ∷ p) → Holds (under (suc r)) (t ∷ ts) (y ∷ p)) × (Holds (under (suc r)) (t ∷ ts) (y ∷ p) → Covered (t ∷ ts) (y ∷ p))
    go true e i = ((λ k. inl (ap (λ (b : Bool). b || eqb (wholes (built r 9 (t ∷ ts))) 9) e)), (λ k. ends-cover (t ∷ ts) (y ∷ p) e))
    go false e i =
        let n : AreNames 9 r (t ∷ ts) = rests-names r (t ∷ ts) h e in
        let g : Good Digits r 0 (built r 9 (t ∷ ts)) = built-good-at Digits r 9 (t ∷ ts) (λ c d. refl) (omega arith) n in (
          (λ k. inr (in→covered (built r 9 (t ∷ ts)) y p (rw (built-side r 9 (t ∷ ts)) ((i n).0 k)))),
          (λ k.
              (i n).1
              (rw (built-side r 9 (t ∷ ts)) at
              (⊎_elim
              (λ w.
              nine-cover (built r 9 (t ∷ ts)) r 0 y p g
              (let z : wholes (built r 9 (t ∷ ts)) ≡ 9 = eqb-true _ _ (⊎_elim (λ u. clash (sym u ∙ e)) (λ u. u) (or-either (any_ends (t ∷ ts)) _ w)) in omega arith)
              (omega arith) d.0)
              (λ w. covered→in (built r 9 (t ∷ ts)) y p w)
              k))),
        )

pub built-names : (r m : ℕ) (qs : List Name) → AreNames m r qs → SameNames m r qs (names (built r m qs))
built-names r m qs n [] f = absurd f
built-names r m qs n (x ∷ p) f =
    let k = side-agrees r m (under r) (under-agrees r) qs n x p f.0 f.1 in (
      (λ h. in→covered (built r m qs) x p (rw (built-side r m qs) (k.0 h))),
      (λ h. k.1 (rw (built-side r m qs) at (covered→in (built r m qs) x p h))),
    )

-- what begins with a name begins with a name of the nodes, and back
pub built-ground : (qs : List Name) → AreNames 6 15 qs → SameNames 6 15 qs (names (built 15 6 qs))
built-ground qs n = built-names 15 6 qs n
