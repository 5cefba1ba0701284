-- Nodes with one more cell are of the grammar, and cover the cell and what they covered. Assumes nothing.
use Rattle.std.specs.Prelude.{◌≡◌, ◌⊎◌, [], ◌∷◌, ℕ, zero, suc, ◌-◌, ◌≤◌, ◌<◌, length, eqb, ltb}
use Rattle.std.proofs.Common.{sym, ap, ◌∙◌, inl, inr, ⊎_elim, arith, ltb-true, ltb-false, eqb-true}
use Rattle.std.proofs.lemmas.Bool.{eqb-false}
use Rattle.logic.specs.Laws.Order.{lt-or}
use Rattle.logic.specs.Laws.Bools.{by_cond}
use Rattle.ternary.specs.Digits.{Below}
use Rattle.reading.specs.declared.Level.{Level}
use Rattle.reading.specs.declared.Level.TheVariants.{Digits}
use Rattle.reading.specs.Reading.{Nodes, end, whole, listed, many, room, wholes, Some, Good}
use Rattle.reading.proofs.Laws.Reading.{room-le}
use Rattle.reading.specs.Prefix.{Name, Prefix, Digs}
use Rattle.reading.proofs.Laws.Ground.{In, in→covered, covered→in, nine-cover}
use Rattle.adding.specs.Internal.Grow.{by, fresh, merged, grow}

-- what holds of each choice
pub by_way {ℓ} : {A : Type ℓ} (P : A → Type 0) (c x : ℕ) {u v w : A} → (c < x → P u) → (c ≡ x → P v) → (x < c → P w) → P (by c x u v w)
by_way P c x f g h =
    by_cond P (ltb c x) (λ e. f (ltb-true c x e))
    (λ e. by_cond P (eqb c x) (λ k. g (eqb-true c x k)) (λ k. h (behind (ltb-false c x e) (eqb-false c x k))))
  where
    behind : x ≤ c → (c ≡ x → ⊥) → x < c
    behind a b = ⊎_elim (λ i. i) (λ i. absurd (b (omega arith))) (lt-or x c)

-- ---- of the grammar

fresh-some : (x : ℕ) (p : Name) (ns : Nodes) → Some (fresh x p ns)
unfolding fresh
fresh-some x [] ns = tt
fresh-some x (y ∷ p) ns = tt

fresh-few : (x : ℕ) (p : Name) → wholes (fresh x p end) ≤ 1
unfolding fresh
fresh-few x [] = omega arith
fresh-few x (y ∷ p) = omega arith

fresh-good :
    (l : Level) (d lo x : ℕ) (p : Name) (ns : Nodes) → lo ≤ x → x < many l → length p ≤ room l x d → Below 9 p → Good l d (suc x) ns →
    Good l d lo (fresh x p ns)
unfolding fresh
fresh-good l d lo x [] ns a b h w g = (a, b, g)
fresh-good l d lo x (y ∷ p) ns a b h w g = (
  a,
  b,
  omega arith,
  fresh-some y p end,
  (λ e. omega (arith, fresh-few y p)),
  fresh-good Digits (room l x d - 1) 0 y p end (omega arith) w.0 (omega arith) w.1 tt,
  g,
)

grow-some : (x : ℕ) (p : Name) (ns : Nodes) → Some (grow x p ns)
unfolding grow merged
grow-some x p end = fresh-some x p end
grow-some x p (whole c ns) = by_way Some c x (λ h. tt) (λ h. tt) (λ h. fresh-some x p (whole c ns))
grow-some x [] (listed c is ns) = by_way Some c x (λ h. tt) (λ h. tt) (λ h. fresh-some x [] (listed c is ns))
grow-some x (y ∷ p) (listed c is ns) =
    by_way Some c x (λ h. tt) (λ h. by_cond Some (eqb (wholes (grow y p is)) 9) (λ e. tt) (λ e. tt)) (λ h. fresh-some x (y ∷ p) (listed c is ns))

pub grow-good :
    (ns : Nodes) (l : Level) (d lo x : ℕ) (p : Name) → Good l d lo ns → lo ≤ x → x < many l → length p ≤ room l x d → Below 9 p →
    Good l d lo (grow x p ns)
unfolding grow merged
grow-good end l d lo x p g a b h w = fresh-good l d lo x p end a b h w tt
grow-good (whole c ns) l d lo x p g a b h w =
    by_way (Good l d lo) c x (λ k. (g.0, g.1, grow-good ns l d (suc c) x p g.2 k b h w)) (λ k. g)
    (λ k. fresh-good l d lo x p (whole c ns) a b h w (k, g.1, g.2))
grow-good (listed c is ns) l d lo x [] g a b h w =
    by_way (Good l d lo) c x (λ k. (g.0, g.1, g.2, g.3, g.4, g.5, grow-good ns l d (suc c) x [] g.6 k b h w)) (λ k. (g.0, g.1, g.6))
    (λ k. fresh-good l d lo x [] (listed c is ns) a b h w (k, g.1, g.2, g.3, g.4, g.5, g.6))
grow-good (listed c is ns) l d lo x (y ∷ p) g a b h w =
    by_way (Good l d lo) c x (λ k. (g.0, g.1, g.2, g.3, g.4, g.5, grow-good ns l d (suc c) x (y ∷ p) g.6 k b h w))
    (λ k.
    by_cond (Good l d lo) (eqb (wholes (grow y p is)) 9) (λ e. (g.0, g.1, g.6))
    (λ e.
    let r : room l x d ≡ room l c d = ap (λ (i : ℕ). room l i d) (sym k) in (
      g.0,
      g.1,
      g.2,
      grow-some y p is,
      eqb-false _ _ e,
      grow-good is Digits (room l c d - 1) 0 y p g.5 (omega arith) w.0 (omega arith) w.1,
      g.6,
    )))
    (λ k. fresh-good l d lo x (y ∷ p) (listed c is ns) a b h w (k, g.1, g.2, g.3, g.4, g.5, g.6))

-- ---- what they cover

-- the cell x ∷ p has z ∷ r inside
abbrev pub Own : (x : ℕ) (p : Name) (z : ℕ) (r : Name) → Type 0
Own x p z r = (x ≡ z) × Prefix p r

fresh-own : (x : ℕ) (p : Name) (ns : Nodes) (z : ℕ) (r : Name) → Own x p z r → In (fresh x p ns) z r
unfolding fresh
fresh-own x [] ns z r h = inl h.0
fresh-own x (y ∷ p) ns z [] h = absurd h.1
fresh-own x (y ∷ p) ns z (b ∷ r) h = inl (h.0, in→covered (fresh y p end) b r (fresh-own y p end b r h.1))

fresh-rest : (x : ℕ) (p : Name) (ns : Nodes) (z : ℕ) (r : Name) → In ns z r → In (fresh x p ns) z r
unfolding fresh
fresh-rest x [] ns z r h = inr h
fresh-rest x (y ∷ p) ns z r h = inr h

fresh_in : (x : ℕ) (p : Name) (ns : Nodes) (z : ℕ) (r : Name) (m : ℕ) → length p ≤ m → Digs m r → In (fresh x p ns) z r → Own x p z r ⊎ In ns z r
unfolding fresh
fresh_in x [] ns z r m k d (inl e) = inl (e, tt)
fresh_in x [] ns z r m k d (inr h) = inr h
fresh_in x (y ∷ p) ns z r m k d (inr h) = inr h
fresh_in x (y ∷ p) ns z r zero k d (inl h) = absurd (omega arith)
fresh_in x (y ∷ p) ns z [] (suc m) k d (inl h) = absurd d
fresh_in x (y ∷ p) ns z (b ∷ r) (suc m) k d (inl h) =
    ⊎_elim (λ i. inl (h.0, i)) (λ i. absurd i) (fresh_in y p end b r m (omega arith) d.1 (covered→in (fresh y p end) b r h.1))

-- the cell is covered
pub own-grow : (ns : Nodes) (x : ℕ) (p : Name) (z : ℕ) (r : Name) → Own x p z r → In (grow x p ns) z r
unfolding grow merged
own-grow end x p z r o = fresh-own x p end z r o
own-grow (whole c ns) x p z r o =
    by_way (λ (n : Nodes). In n z r) c x (λ k. inr (own-grow ns x p z r o)) (λ k. inl (k ∙ o.0)) (λ k. fresh-own x p (whole c ns) z r o)
own-grow (listed c is ns) x [] z r o =
    by_way (λ (n : Nodes). In n z r) c x (λ k. inr (own-grow ns x [] z r o)) (λ k. inl (k ∙ o.0)) (λ k. fresh-own x [] (listed c is ns) z r o)
own-grow (listed c is ns) x (y ∷ p) z [] o = absurd o.1
own-grow (listed c is ns) x (y ∷ p) z (b ∷ r) o =
    by_way (λ (n : Nodes). In n z (b ∷ r)) c x (λ k. inr (own-grow ns x (y ∷ p) z (b ∷ r) o))
    (λ k.
    by_cond (λ (n : Nodes). In n z (b ∷ r)) (eqb (wholes (grow y p is)) 9) (λ e. inl (k ∙ o.0))
    (λ e. inl (k ∙ o.0, in→covered (grow y p is) b r (own-grow is y p b r o.1))))
    (λ k. fresh-own x (y ∷ p) (listed c is ns) z (b ∷ r) o)

-- and so is what was covered
pub in-grow :
    (ns : Nodes) (l : Level) (d lo x : ℕ) (p : Name) (z : ℕ) (r : Name) (m : ℕ) → Good l d lo ns → d ≤ m → Digs m r → In ns z r → In (grow x p ns) z r
unfolding grow merged
in-grow end l d lo x p z r m g a i h = absurd h
in-grow (whole c ns) l d lo x p z r m g a i h =
    by_way (λ (n : Nodes). In n z r) c x (λ k. ⊎_elim (λ j. inl j) (λ j. inr (in-grow ns l d (suc c) x p z r m g.2 a i j)) h) (λ k. h)
    (λ k. fresh-rest x p (whole c ns) z r h)
in-grow (listed c is ns) l d lo x [] z r m g a i h =
    by_way (λ (n : Nodes). In n z r) c x (λ k. ⊎_elim (λ j. inl j) (λ j. inr (in-grow ns l d (suc c) x [] z r m g.6 a i j)) h)
    (λ k. ⊎_elim (λ j. inl j.0) (λ j. inr j) h)
    (λ k. fresh-rest x [] (listed c is ns) z r h)
in-grow (listed c is ns) l d lo x (y ∷ p) z r zero g a i h = absurd (omega (arith, room-le l c d, g.2))
in-grow (listed c is ns) l d lo x (y ∷ p) z [] (suc m) g a i h = absurd i
in-grow (listed c is ns) l d lo x (y ∷ p) z (b ∷ r) (suc m) g a i h =
    by_way (λ (n : Nodes). In n z (b ∷ r)) c x (λ k. ⊎_elim (λ j. inl j) (λ j. inr (in-grow ns l d (suc c) x (y ∷ p) z (b ∷ r) (suc m) g.6 a i j)) h)
    (λ k.
    by_cond (λ (n : Nodes). In n z (b ∷ r)) (eqb (wholes (grow y p is)) 9) (λ e. ⊎_elim (λ j. inl j.0) (λ j. inr j) h)
    (λ e.
    ⊎_elim
    (λ j.
    inl (
      j.0,
      in→covered (grow y p is) b r
          (in-grow is Digits (room l c d - 1) 0 y p b r m g.5 (omega (arith, room-le l c d)) i.1 (covered→in is b r j.1)),
    ))
    (λ j. inr j) h))
    (λ k. fresh-rest x (y ∷ p) (listed c is ns) z (b ∷ r) h)

-- nothing else is
pub grow-in :
    (ns : Nodes) (l : Level) (d lo x : ℕ) (p : Name) (z : ℕ) (r : Name) (m : ℕ) → Good l d lo ns → x < many l → length p ≤ room l x d → Below 9 p →
    d ≤ m → Digs m r → In (grow x p ns) z r → Own x p z r ⊎ In ns z r
unfolding grow merged
grow-in end l d lo x p z r m g b h w a i = fresh_in x p end z r m (omega (arith, room-le l x d)) i
grow-in (whole c ns) l d lo x p z r m g b h w a i =
    by_way (λ (n : Nodes). In n z r → Own x p z r ⊎ In (whole c ns) z r) c x
    (λ k. ⊎_elim (λ j. inr (inl j)) (λ j. ⊎_elim (λ o. inl o) (λ o. inr (inr o)) (grow-in ns l d (suc c) x p z r m g.2 b h w a i j)))
    (λ k j. inr j)
    (λ k. fresh_in x p (whole c ns) z r m (omega (arith, room-le l x d)) i)
grow-in (listed c is ns) l d lo x [] z r m g b h w a i =
    by_way (λ (n : Nodes). In n z r → Own x [] z r ⊎ In (listed c is ns) z r) c x
    (λ k. ⊎_elim (λ j. inr (inl j)) (λ j. ⊎_elim (λ o. inl o) (λ o. inr (inr o)) (grow-in ns l d (suc c) x [] z r m g.6 b h w a i j)))
    (λ k. ⊎_elim (λ j. inl (sym k ∙ j, tt)) (λ j. inr (inr j)))
    (λ k. fresh_in x [] (listed c is ns) z r m (omega (arith, room-le l x d)) i)
grow-in (listed c is ns) l d lo x (y ∷ p) z r zero g b h w a i = absurd (omega (arith, room-le l c d, g.2))
grow-in (listed c is ns) l d lo x (y ∷ p) z [] (suc m) g b h w a i = absurd i
grow-in (listed c is ns) l d lo x (y ∷ p) z (t ∷ r) (suc m) g b h w a i =
    by_way (λ (n : Nodes). In n z (t ∷ r) → Own x (y ∷ p) z (t ∷ r) ⊎ In (listed c is ns) z (t ∷ r)) c x
    (λ k. ⊎_elim (λ j. inr (inl j)) (λ j. ⊎_elim (λ o. inl o) (λ o. inr (inr o)) (grow-in ns l d (suc c) x (y ∷ p) z (t ∷ r) (suc m) g.6 b h w a i j)))
    (λ k.
    by_cond (λ (n : Nodes). In n z (t ∷ r) → Own x (y ∷ p) z (t ∷ r) ⊎ In (listed c is ns) z (t ∷ r)) (eqb (wholes (grow y p is)) 9)
    (λ e.
    ⊎_elim
    (λ j.
    below k j
    (grow-in is Digits (room l c d - 1) 0 y p t r m g.5 w.0 (omega (arith, same k)) w.1 (omega (arith, room-le l c d)) i.1
    (nine-cover (grow y p is) (room l c d - 1) 0 t r
    (grow-good is Digits (room l c d - 1) 0 y p g.5 (omega arith) w.0 (omega (arith, same k)) w.1)
    (let f : wholes (grow y p is) ≡ 9 = eqb-true _ _ e in omega arith) (omega arith) i.0)))
    (λ j. inr (inr j)))
    (λ e.
    ⊎_elim
    (λ j.
    below k j.0
    (grow-in is Digits (room l c d - 1) 0 y p t r m g.5 w.0 (omega (arith, same k)) w.1 (omega (arith, room-le l c d)) i.1
    (covered→in (grow y p is) t r j.1)))
    (λ j. inr (inr j))))
    (λ k. fresh_in x (y ∷ p) (listed c is ns) z (t ∷ r) (suc m) (omega (arith, room-le l x d)) i)
  where
    same : c ≡ x → room l x d ≡ room l c d
    same k = ap (λ (j : ℕ). room l j d) (sym k)

    below : c ≡ x → c ≡ z → Own y p t r ⊎ In is t r → Own x (y ∷ p) z (t ∷ r) ⊎ In (listed c is ns) z (t ∷ r)
    below k j q = ⊎_elim (λ o. inl (sym k ∙ j, o)) (λ o. inr (inl (j, in→covered is t r o))) q
