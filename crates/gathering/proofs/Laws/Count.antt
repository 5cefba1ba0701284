-- How many whole cells the nodes of names have: no fewer than the names, where these rise and no nine siblings are among them; and with later names
-- behind them, no fewer than before but for eight at each depth. Assumes nothing.
use Rattle.std.specs.Prelude.{◌≡◌, refl, Bool, true, false, ◌||◌, cond, ◌⊎◌, List, [], ◌∷◌, ◌++◌, eqb, length}
use Rattle.std.proofs.Common.{sym, ap₂, ◌∙◌, subst, inl, inr, ⊎_elim, append-nil, arith, eq-eqb, eqb-true}
use Rattle.std.proofs.Math.Path.{ap}
use Prim.Native.Nat.{ℕ, zero, suc, ◌+◌, ◌*◌, ◌≤◌, ◌<◌}
use Rattle.logic.specs.Lists.{All, Any, Mem}
use Rattle.logic.specs.Laws.Lists.{any-or, mem-all, all-each}
use Rattle.logic.specs.Laws.Order.{lt-or}
use Rattle.logic.specs.Laws.Bools.{by_cond, clash, or-either, or_left, refuted}
use Rattle.ternary.specs.Digits.{Below}
use Rattle.reading.specs.Reading.{Nodes, end, whole, listed, wholes}
use Rattle.reading.specs.Report.{count}
use Rattle.reading.specs.Prefix.{Name, IsName, AreNames, Ahead, AheadAll, InOrder}
use Rattle.reading.specs.Written.{tails, any_ends, node_of, side, built, under}
use Rattle.reading.proofs.Laws.Built.{built-side}

-- ---- what follows a number

tails-all : (P Q : Name → Type 0) (c : ℕ) → ((q : Name) → P (c ∷ q) → Q q) → (qs : List Name) → All P qs → All Q (tails c qs)
unfolding tails
tails-all P Q c h [] g = tt
tails-all P Q c h ([] ∷ qs) g = tails-all P Q c h qs g.1
tails-all P Q c h ((b ∷ q) ∷ qs) g =
    by_cond (All Q) (eqb b c) (λ e. (h q (subst (λ (x : ℕ). P (x ∷ q)) (eqb-true b c e) g.0), tails-all P Q c h qs g.1)) (λ e. tails-all P Q c h qs g.1)

tails-mem : (c : ℕ) (qs : List Name) (q : Name) → Mem q (tails c qs) → Mem (c ∷ q) qs
unfolding tails
tails-mem c [] q h = absurd h
tails-mem c ([] ∷ qs) q h = inr (tails-mem c qs q h)
tails-mem c ((b ∷ p) ∷ qs) q h =
    by_cond (λ (ts : List Name). Mem q ts → Mem (c ∷ q) ((b ∷ p) ∷ qs)) (eqb b c)
    (λ e. ⊎_elim (λ k. inl (ap₂ ◌∷◌ (eqb-true b c e) k)) (λ k. inr (tails-mem c qs q k)))
    (λ e k. inr (tails-mem c qs q k))
    h

tails-append : (c : ℕ) (qs ms : List Name) → tails c (qs ++ ms) ≡ tails c qs ++ tails c ms
unfolding tails
tails-append c [] ms = refl
tails-append c ([] ∷ qs) ms = tails-append c qs ms
tails-append c ((b ∷ q) ∷ qs) ms = go (eqb b c) (tails-append c qs ms)
  where
    go :
        (t : Bool) → tails c (qs ++ ms) ≡ tails c qs ++ tails c ms →
        cond t (q ∷ tails c (qs ++ ms)) (tails c (qs ++ ms)) ≡ cond t (q ∷ tails c qs) (tails c qs) ++ tails c ms
    go true e = ap (λ (x : List Name). q ∷ x) e
    go false e = e

ends-mem : (ts : List Name) → any_ends ts ≡ true → Mem [] ts
unfolding any_ends
ends-mem [] e = clash (sym e)
ends-mem ([] ∷ ts) e = inl refl
ends-mem ((b ∷ t) ∷ ts) e = inr (ends-mem ts e)

-- at most r digits
abbrev Rest : ℕ → Name → Type 0
Rest r q = (length q ≤ r) × Below 9 q

tails-rest : (m r c : ℕ) (qs : List Name) → AreNames m r qs → All (Rest r) (tails c qs)
tails-rest m r c qs = tails-all (IsName m r) (Rest r) c (λ q n. (n.1, n.2)) qs

rest-names : (r : ℕ) (ts : List Name) → All (Rest (suc r)) ts → any_ends ts ≡ false → AreNames 9 r ts
unfolding any_ends
rest-names r [] h e = tt
rest-names r ([] ∷ ts) h e = clash e
rest-names r ((b ∷ q) ∷ ts) h e = ((h.0.1.0, omega (arith, h.0.0), h.0.1.1), rest-names r ts h.1 e)

rest-none : (ts : List Name) → All (Rest 0) ts → any_ends ts ≡ false → length ts ≤ 0
unfolding any_ends
rest-none [] h e = omega arith
rest-none ([] ∷ ts) h e = clash e
rest-none ((b ∷ q) ∷ ts) h e = absurd (omega (arith, h.0.0))

-- ---- order

ahead-tail : (c : ℕ) (q p : Name) → Ahead (c ∷ q) (c ∷ p) → Ahead q p
ahead-tail c q p (inl h) = absurd (omega arith)
ahead-tail c q p (inr h) = h.1

ahead_none : (q : Name) → Ahead q [] → ⊥
ahead_none [] h = h
ahead_none (x ∷ q) h = h

tails-order : (c : ℕ) (qs : List Name) → InOrder qs → InOrder (tails c qs)
unfolding tails
tails-order c [] o = tt
tails-order c ([] ∷ qs) o = tails-order c qs o.1
tails-order c ((b ∷ q) ∷ qs) o =
    by_cond InOrder (eqb b c)
    (λ e.
    (tails-all (Ahead (c ∷ q)) (Ahead q) c (ahead-tail c q) qs (subst (λ (x : ℕ). AheadAll (x ∷ q) qs) (eqb-true b c e) o.0), tails-order c qs o.1))
    (λ e. tails-order c qs o.1)

ends-single : (ts : List Name) → InOrder ts → any_ends ts ≡ true → length ts ≤ 1
unfolding any_ends
ends-single [] o e = omega arith
ends-single ([] ∷ []) o e = omega arith
ends-single ([] ∷ q ∷ ts) o e = absurd o.0.0
ends-single ((b ∷ q) ∷ ts) o e = absurd (mem-all (Ahead (b ∷ q)) ts [] o.0 (ends-mem ts e))

-- each of these is ahead of each of those
abbrev pub Before : List Name → List Name → Type 0
Before qs ms = All (λ (q : Name). AheadAll q ms) qs

order-first : (q : Name) (qs ms : List Name) → AheadAll q (qs ++ ms) → AheadAll q qs × AheadAll q ms
order-first q [] ms a = (tt, a)
order-first q (p ∷ qs) ms a = let r = order-first q qs ms a.1 in ((a.0, r.0), r.1)

pub order-split : (qs ms : List Name) → InOrder (qs ++ ms) → InOrder qs × Before qs ms
order-split [] ms o = (tt, tt)
order-split (q ∷ qs) ms o =
    let a = order-first q qs ms o.0 in
    let r = order-split qs ms o.1 in
    ((a.0, r.0), (a.1, r.1))

tails-before : (c : ℕ) (qs ms : List Name) → Before qs ms → Before (tails c qs) (tails c ms)
tails-before c qs ms =
    tails-all (λ (q : Name). AheadAll q ms) (λ (q : Name). AheadAll q (tails c ms)) c (λ q. tails-all (Ahead (c ∷ q)) (Ahead q) c (ahead-tail c q) ms) qs

-- where something follows, none of both ends
before-ends : (ts us : List Name) → (u : Name) → Mem u us → Before ts us → any_ends ts ≡ false
before-ends ts us u i b =
    refuted (any_ends ts) (λ e. mem-all (Ahead []) us u (mem-all (λ (q : Name). AheadAll q us) ts [] b (ends-mem ts e)) i)

ends-before : (ts us : List Name) → (t : Name) → Mem t ts → Before ts us → any_ends us ≡ false
ends-before ts us t i b =
    refuted (any_ends us) (λ e. ahead_none t (mem-all (Ahead t) us [] (mem-all (λ (q : Name). AheadAll q us) ts t b i) (ends-mem us e)))

ends-either : (ts us : List Name) → any_ends ts ≡ false → any_ends us ≡ false → any_ends (ts ++ us) ≡ false
unfolding any_ends
ends-either [] us e f = f
ends-either ([] ∷ ts) us e f = clash e
ends-either ((b ∷ t) ∷ ts) us e f = ends-either ts us e f

-- ---- the whole cells of a node and of nodes side by side

unfoldable part : (List Name → Nodes) → List Name → ℕ
unfolding any_ends
part below [] = 0
part below (t ∷ ts) = cond (any_ends (t ∷ ts) || eqb (wholes (below (t ∷ ts))) 9) 1 (count (below (t ∷ ts)))

part-empty : (below : List Name → Nodes) → part below [] ≡ 0
unfolding part
part-empty below = refl

node-count : (below : List Name → Nodes) (c : ℕ) (ts : List Name) (rest : Nodes) → count (node_of below c ts rest) ≡ part below ts + count rest
unfolding node_of part
node-count below c [] rest = omega arith
node-count below c (t ∷ ts) rest = go (any_ends (t ∷ ts) || eqb (wholes (below (t ∷ ts))) 9)
  where
    go : (b : Bool) → count (cond b (whole c rest) (listed c (below (t ∷ ts)) rest)) ≡ cond b 1 (count (below (t ∷ ts))) + count rest
    go true = refl
    go false = refl

side-count : (below : List Name → Nodes) (n c : ℕ) (qs : List Name) → count (side below (suc n) c qs) ≡ part below (tails c qs) + count (side below n (suc c) qs)
unfolding side
side-count below n c qs = node-count below c (tails c qs) (side below n (suc c) qs)

-- the node is whole
abbrev Stands : (List Name → Nodes) → List Name → Type 0
Stands below [] = ⊥
Stands below (t ∷ ts) = (any_ends (t ∷ ts) || eqb (wholes (below (t ∷ ts))) 9) ≡ true

stands-part : (below : List Name → Nodes) (ts : List Name) → Stands below ts → part below ts ≡ 1
unfolding part
stands-part below [] s = absurd s
stands-part below (t ∷ ts) s = ap (λ (b : Bool). cond b 1 (count (below (t ∷ ts)))) s

stands-ends : (below : List Name → Nodes) (ts : List Name) → Stands below ts → (wholes (below ts) ≡ 9 → ⊥) → any_ends ts ≡ true
stands-ends below [] s f = absurd s
stands-ends below (t ∷ ts) s f = ⊎_elim (λ e. e) (λ e. absurd (f (eqb-true _ _ e))) (or-either (any_ends (t ∷ ts)) (eqb (wholes (below (t ∷ ts))) 9) s)

node-wholes : (below : List Name → Nodes) (c : ℕ) (ts : List Name) (rest : Nodes) → wholes (node_of below c ts rest) ≤ suc (wholes rest)
unfolding node_of
node-wholes below c [] rest = omega arith
node-wholes below c (t ∷ ts) rest =
    by_cond (λ (ns : Nodes). wholes ns ≤ suc (wholes rest)) (any_ends (t ∷ ts) || eqb (wholes (below (t ∷ ts))) 9) (λ e. omega arith) (λ e. omega arith)

node-stands : (below : List Name → Nodes) (c : ℕ) (ts : List Name) (rest : Nodes) → wholes (node_of below c ts rest) ≡ suc (wholes rest) → Stands below ts
unfolding node_of
node-stands below c [] rest h = absurd (omega arith)
node-stands below c (t ∷ ts) rest h = go (any_ends (t ∷ ts) || eqb (wholes (below (t ∷ ts))) 9) h
  where
    go : (b : Bool) → wholes (cond b (whole c rest) (listed c (below (t ∷ ts)) rest)) ≡ suc (wholes rest) → b ≡ true
    go true h = refl
    go false h = absurd (omega arith)

side-wholes : (below : List Name → Nodes) (n c : ℕ) (qs : List Name) → wholes (side below n c qs) ≤ n
unfolding side
side-wholes below zero c qs = omega arith
side-wholes below (suc n) c qs = omega (arith, node-wholes below c (tails c qs) (side below n (suc c) qs), side-wholes below n (suc c) qs)

-- where all are whole, the first is and the others are
module _ (below : List Name → Nodes) (n c : ℕ) (qs : List Name) (w : wholes (side below (suc n) c qs) ≡ suc n) where
  others-whole : wholes (side below n (suc c) qs) ≡ n
  unfolding side
  others-whole = omega (arith, node-wholes below c (tails c qs) (side below n (suc c) qs), side-wholes below n (suc c) qs)

  first-whole : Stands below (tails c qs)
  unfolding side
  first-whole = node-stands below c (tails c qs) (side below n (suc c) qs) (w ∙ ap suc (sym others-whole))

side-stands : (below : List Name → Nodes) (n c : ℕ) (qs : List Name) → wholes (side below n c qs) ≡ n → (x : ℕ) → c ≤ x → x < n + c → Stands below (tails x qs)
side-stands below zero c qs w x a b = absurd (omega arith)
side-stands below (suc n) c qs w x a b =
    ⊎_elim (λ k. side-stands below n (suc c) qs (others-whole below n c qs w) x k (omega arith))
    (λ k. let e : c ≡ x = omega arith in subst (λ (y : ℕ). Stands below (tails y qs)) e (first-whole below n c qs w))
    (lt-or c x)

side-none : (below : List Name → Nodes) (c : ℕ) (qs : List Name) → count (side below zero c qs) ≡ 0
unfolding side
side-none below c qs = refl

side-nine : (below : List Name → Nodes) (n c : ℕ) (qs : List Name) → wholes (side below n c qs) ≡ n → count (side below n c qs) ≡ n
side-nine below zero c qs w = side-none below c qs
side-nine below (suc n) c qs w =
    omega (arith, side-count below n c qs, stands-part below (tails c qs) (first-whole below n c qs w), side-nine below n (suc c) qs (others-whole below n c qs w))

-- ---- no nine siblings

abbrev pub NoNine : List Name → Type 0
NoNine qs = (p : Name) → ((d : ℕ) → d < 9 → Mem (p ++ (d ∷ [])) qs) → ⊥

tails-nine : (c : ℕ) (qs : List Name) → NoNine qs → NoNine (tails c qs)
tails-nine c qs n p h = n (c ∷ p) (λ d k. tails-mem c qs (p ++ (d ∷ [])) (h d k))

nine-built :
    (r : ℕ) (ts : List Name) → NoNine ts → ((us : List Name) → NoNine us → wholes (under r us) ≡ 9 → ⊥) → wholes (built r 9 ts) ≡ 9 → ⊥
nine-built r ts n f w =
    n []
    (λ d h.
    tails-mem d ts []
    (ends-mem (tails d ts)
    (stands-ends (under r) (tails d ts) (side-stands (under r) 9 0 ts (sym (ap wholes (built-side r 9 ts)) ∙ w) d (omega arith) (omega arith))
    (f (tails d ts) (tails-nine d ts n)))))

nine-under : (r : ℕ) (ts : List Name) → NoNine ts → wholes (under r ts) ≡ 9 → ⊥
nine-under zero ts n w = omega arith
nine-under (suc r) ts n w = nine-built r ts n (nine-under r) w

-- ---- as many as the names

abbrev lengths : (n c : ℕ) → List Name → ℕ
lengths zero c qs = 0
lengths (suc n) c qs = length (tails c qs) + lengths n (suc c) qs

tails-keep : (c b : ℕ) (q : Name) (qs : List Name) → length (tails c qs) ≤ length (tails c ((b ∷ q) ∷ qs))
unfolding tails
tails-keep c b q qs = by_cond (λ (ts : List Name). length (tails c qs) ≤ length ts) (eqb b c) (λ e. omega arith) (λ e. omega arith)

tails-own : (b : ℕ) (q : Name) (qs : List Name) → length (tails b ((b ∷ q) ∷ qs)) ≡ suc (length (tails b qs))
unfolding tails
tails-own b q qs = ap (λ (t : Bool). length (cond t (q ∷ tails b qs) (tails b qs))) (eq-eqb b b refl)

lengths-keep : (n c b : ℕ) (q : Name) (qs : List Name) → lengths n c qs ≤ lengths n c ((b ∷ q) ∷ qs)
lengths-keep zero c b q qs = omega arith
lengths-keep (suc n) c b q qs = omega (arith, tails-keep c b q qs, lengths-keep n (suc c) b q qs)

lengths-own : (n c b : ℕ) (q : Name) (qs : List Name) → c ≤ b → b < n + c → suc (lengths n c qs) ≤ lengths n c ((b ∷ q) ∷ qs)
lengths-own zero c b q qs h l = absurd (omega arith)
lengths-own (suc n) c b q qs h l =
    ⊎_elim (λ k. omega (arith, tails-keep c b q qs, lengths-own n (suc c) b q qs k (omega arith)))
    (λ k.
    let e : b ≡ c = omega arith in
    subst (λ (x : ℕ). suc (lengths (suc n) x qs) ≤ lengths (suc n) x ((b ∷ q) ∷ qs)) e (omega (arith, tails-own b q qs, lengths-keep n (suc b) b q qs)))
    (lt-or c b)

all-lengths : (m r : ℕ) (qs : List Name) → AreNames m r qs → length qs ≤ lengths m 0 qs
all-lengths m r [] n = omega arith
all-lengths m r ([] ∷ qs) n = absurd n.0
all-lengths m r ((b ∷ q) ∷ qs) n = omega (arith, lengths-own m 0 b q qs (omega arith) (omega (arith, n.0.0)), all-lengths m r qs n.1)

-- a node of as many whole cells as its names
abbrev Fine : (List Name → Nodes) → List Name → Type 0
Fine below ts = (any_ends ts ≡ true → length ts ≤ 1) × (wholes (below ts) ≡ 9 → ⊥) × (any_ends ts ≡ false → length ts ≤ count (below ts))

fine-part : (below : List Name → Nodes) (ts : List Name) → Fine below ts → length ts ≤ part below ts
unfolding part
fine-part below [] f = omega arith
fine-part below (t ∷ ts) f =
    by_cond (λ (n : ℕ). length (t ∷ ts) ≤ n) (any_ends (t ∷ ts) || eqb (wholes (below (t ∷ ts))) 9)
    (λ e. ⊎_elim (λ k. f.0 k) (λ k. absurd (f.1 (eqb-true _ _ k))) (or-either (any_ends (t ∷ ts)) (eqb (wholes (below (t ∷ ts))) 9) e))
    (λ e. f.2 (or_left (any_ends (t ∷ ts)) (eqb (wholes (below (t ∷ ts))) 9) e))

side-fine : (below : List Name → Nodes) (n c : ℕ) (qs : List Name) → ((x : ℕ) → Fine below (tails x qs)) → lengths n c qs ≤ count (side below n c qs)
side-fine below zero c qs f = omega arith
side-fine below (suc n) c qs f = omega (arith, side-count below n c qs, fine-part below (tails c qs) (f c), side-fine below n (suc c) qs f)

built-fine : (r m : ℕ) (qs : List Name) → AreNames m r qs → ((x : ℕ) → Fine (under r) (tails x qs)) → length qs ≤ count (built r m qs)
built-fine r m qs a f = omega (arith, all-lengths m r qs a, side-fine (under r) m 0 qs f, ap count (built-side r m qs))

-- names that rise, without nine siblings: no fewer whole cells than names
pub count-all : (r m : ℕ) (qs : List Name) → AreNames m r qs → InOrder qs → NoNine qs → length qs ≤ count (built r m qs)
count-all zero m qs a o n =
    built-fine zero m qs a
    (λ x. (
      ends-single (tails x qs) (tails-order x qs o),
      nine-under zero (tails x qs) (tails-nine x qs n),
      rest-none (tails x qs) (tails-rest m zero x qs a),
    ))
count-all (suc r) m qs a o n =
    built-fine (suc r) m qs a
    (λ x. (
      ends-single (tails x qs) (tails-order x qs o),
      nine-under (suc r) (tails x qs) (tails-nine x qs n),
      (λ e. count-all r 9 (tails x qs) (rest-names r (tails x qs) (tails-rest m (suc r) x qs a) e) (tails-order x qs o) (tails-nine x qs n)),
    ))

-- ---- with later names behind them

tails-none : (x c : ℕ) (u : Name) (qs : List Name) → All (λ (q : Name). Ahead q (c ∷ u)) qs → c < x → tails x qs ≡ []
unfolding tails
tails-none x c u [] a h = refl
tails-none x c u ([] ∷ qs) a h = tails-none x c u qs a.1 h
tails-none x c u ((b ∷ q) ∷ qs) a h =
    by_cond (λ (ts : List Name). ts ≡ []) (eqb b x)
    (λ e. let i : b ≡ x = eqb-true b x e in absurd (⊎_elim (λ k. omega arith) (λ k. omega (arith, k.0)) a.0))
    (λ e. tails-none x c u qs a.1 h)

side-empty : (below : List Name → Nodes) (n c : ℕ) (qs : List Name) → ((x : ℕ) → c ≤ x → tails x qs ≡ []) → count (side below n c qs) ≡ 0
side-empty below zero c qs f = side-none below c qs
side-empty below (suc n) c qs f =
    omega (arith, side-count below n c qs, ap (part below) (f c (omega arith)), part-empty below, side-empty below n (suc c) qs (λ x h. f x (omega arith)))

-- a node loses at most n, and so do the nodes side by side, since only one of them has later names too
abbrev Loses : (List Name → Nodes) → (most : ℕ) (qs ms : List Name) → Type 0
Loses below most qs ms = (x : ℕ) → part below (tails x qs) ≤ part below (tails x qs ++ tails x ms) + most

module _ (below : List Name → Nodes) (most : ℕ) (qs ms : List Name) (b : Before qs ms) where
  both-tails : (x : ℕ) → part below (tails x (qs ++ ms)) ≡ part below (tails x qs ++ tails x ms)
  both-tails x = ap (part below) (tails-append x qs ms)

  side-loses : (n c : ℕ) → Loses below most qs ms → count (side below n c qs) ≤ count (side below n c (qs ++ ms)) + most
  side-loses zero c f = omega (arith, side-none below c qs)
  side-loses (suc n) c f = go (tails c ms) refl (side-loses n (suc c) f)
    where
      go :
          (us : List Name) → tails c ms ≡ us → count (side below n (suc c) qs) ≤ count (side below n (suc c) (qs ++ ms)) + most →
          count (side below (suc n) c qs) ≤ count (side below (suc n) c (qs ++ ms)) + most
      go [] e h =
          omega (
            arith,
            side-count below n c qs,
            side-count below n c (qs ++ ms),
            both-tails c,
            ap (λ (x : List Name). part below (tails c qs ++ x)) e,
            ap (part below) (append-nil (tails c qs)),
          )
      go (u ∷ us) e h =
          let i : Mem (c ∷ u) ms = tails-mem c ms u (subst (λ (x : List Name). Mem u x) (sym e) (inl refl)) in
          let a : All (λ (q : Name). Ahead q (c ∷ u)) qs =
          all-each (λ (q : Name). AheadAll q ms) (λ (q : Name). Ahead q (c ∷ u)) (λ q h. mem-all (Ahead q) ms (c ∷ u) h i) qs b in
          omega
          (arith, side-count below n c qs, side-count below n c (qs ++ ms), both-tails c, f c, side-empty below n (suc c) qs (λ x h. tails-none x c u qs a h))

part-most : (below : List Name → Nodes) (ts : List Name) (n : ℕ) → 1 ≤ n → count (below ts) ≤ n → part below ts ≤ n
unfolding part
part-most below [] n h k = omega arith
part-most below (t ∷ ts) n h k = by_cond (λ (x : ℕ). x ≤ n) (any_ends (t ∷ ts) || eqb (wholes (below (t ∷ ts))) 9) (λ e. h) (λ e. k)

part-least : (r : ℕ) (t : Name) (ts : List Name) → any_ends (t ∷ ts) ≡ false → count (built r 9 (t ∷ ts)) ≤ part (under (suc r)) (t ∷ ts) + 8
unfolding part
part-least r t ts f =
    by_cond (λ (x : ℕ). count (built r 9 (t ∷ ts)) ≤ x + 8) (any_ends (t ∷ ts) || eqb (wholes (built r 9 (t ∷ ts))) 9)
    (λ e.
    ⊎_elim (λ k. clash (sym k ∙ f))
    (λ k.
    let w : wholes (side (under r) 9 0 (t ∷ ts)) ≡ 9 = sym (ap wholes (built-side r 9 (t ∷ ts))) ∙ eqb-true _ _ k in
    omega (arith, side-nine (under r) 9 0 (t ∷ ts) w, ap count (built-side r 9 (t ∷ ts))))
    (or-either (any_ends (t ∷ ts)) (eqb (wholes (built r 9 (t ∷ ts))) 9) e))
    (λ e. omega arith)

part-zero : (ts us : List Name) → All (Rest 0) ts → Before ts us → part (under 0) ts ≤ part (under 0) (ts ++ us) + 8 * 0
unfolding part
part-zero [] us h b = omega arith
part-zero (t ∷ ts) [] h b = omega (arith, ap (part (under 0)) (append-nil (t ∷ ts)))
part-zero (t ∷ ts) (u ∷ us) h b = absurd (omega (arith, rest-none (t ∷ ts) h (before-ends (t ∷ ts) (u ∷ us) u (inl refl) b)))

part-suc :
    (r : ℕ) (ts us : List Name) → All (Rest (suc r)) ts → All (Rest (suc r)) us → Before ts us →
    (AreNames 9 r ts → AreNames 9 r us → count (built r 9 ts) ≤ count (built r 9 (ts ++ us)) + 8 * r) →
    part (under (suc r)) ts ≤ part (under (suc r)) (ts ++ us) + 8 * suc r
part-suc r [] us h k b f = omega (arith, part-empty (under (suc r)))
part-suc r (t ∷ ts) [] h k b f = omega (arith, ap (part (under (suc r))) (append-nil (t ∷ ts)))
part-suc r (t ∷ ts) (u ∷ us) h k b f =
    let e : any_ends (t ∷ ts) ≡ false = before-ends (t ∷ ts) (u ∷ us) u (inl refl) b in
    let g : any_ends (u ∷ us) ≡ false = ends-before (t ∷ ts) (u ∷ us) t (inl refl) b in
    let i : count (built r 9 (t ∷ ts)) ≤ count (built r 9 (t ∷ (ts ++ (u ∷ us)))) + 8 * r = f (rest-names r (t ∷ ts) h e) (rest-names r (u ∷ us) k g) in
    let l = part-least r t (ts ++ (u ∷ us)) (ends-either (t ∷ ts) (u ∷ us) e g) in
    part-most (under (suc r)) (t ∷ ts) (part (under (suc r)) (t ∷ (ts ++ (u ∷ us))) + 8 * suc r) (omega arith) (omega arith)

built-loses :
    (r m : ℕ) (qs ms : List Name) → Before qs ms → Loses (under r) (8 * r) qs ms → count (built r m qs) ≤ count (built r m (qs ++ ms)) + 8 * r
built-loses r m qs ms b f =
    omega (arith, ap count (built-side r m qs), ap count (built-side r m (qs ++ ms)), side-loses (under r) (8 * r) qs ms b m 0 f)

-- "eight at each of fifteen depths"
pub count-more : (r m : ℕ) (qs ms : List Name) → AreNames m r qs → AreNames m r ms → Before qs ms → count (built r m qs) ≤ count (built r m (qs ++ ms)) + 8 * r
count-more zero m qs ms a c b =
    built-loses zero m qs ms b (λ x. part-zero (tails x qs) (tails x ms) (tails-rest m zero x qs a) (tails-before x qs ms b))
count-more (suc r) m qs ms a c b =
    built-loses (suc r) m qs ms b
    (λ x.
    part-suc r (tails x qs) (tails x ms) (tails-rest m (suc r) x qs a) (tails-rest m (suc r) x ms c) (tails-before x qs ms b)
    (λ h k. count-more r 9 (tails x qs) (tails x ms) h k (tails-before x qs ms b)))
