-- The scan goes over the longest leading part that some looser body begins with, and ends outside of all lists exactly for such a body. Assumes nothing.
use Rattle.std.specs.Prelude.{◌≡◌, refl, Bool, true, false, ◌&&◌, cond, ◌⊎◌, List, [], ◌∷◌, ◌++◌, ℕ, zero, suc, ◌+◌, ◌-◌, ◌≤◌, ◌<◌, length, take, leb, ltb, eqb}
use Rattle.std.proofs.Common.{sym, ap, ap₂, ◌∙◌, inl, inr, ⊎_elim, append_assoc, append-nil, arith, length-append, take_all, length-take-le, eqb-true, eq-eqb, ne_eqb, lt-ltb, le-leb, ltb-true, leb-true}
use Rattle.std.proofs.lemmas.Bool.{eqb-false}
use Rattle.logic.specs.Laws.Bools.{by_cond, clash, and_left, and_right}
use Rattle.logic.specs.Laws.Order.{lt-or}
use Rattle.reading.specs.declared.Level.{Level}
use Rattle.reading.specs.declared.Level.TheVariants.{Faces, Belt, Digits}
use Rattle.reading.specs.Reading.{Nodes, end, whole, listed, first, many, render}
use Rattle.reading.proofs.Laws.Reading.{first-big}
use Rattle.reading.specs.Internal.JoinLaws.{join, ends, render-join, ends_join, last-whole}
use Rattle.reading.specs.Loose.{Loose}
use Rattle.logic.specs.Longest.{BeginsOne, LongestOf}
use Rattle.loose.specs.LooseText.{LooseBody, IsBody}
use Rattle.loose.specs.LooseScan.{Next, stop, on, level_at, step, after, scan, depth}

-- ---- one byte

step-name : (k : ℕ) (t : Bool) (c : ℕ) → c < many (level_at k) → step k t (first (level_at k) + c) ≡ on k true
unfolding step
step-name k t c h =
    let f = first-big (level_at k) in
    rw (
      ne_eqb (first (level_at k) + c) 40 (omega arith),
      ne_eqb (first (level_at k) + c) 41 (omega arith),
      le-leb (first (level_at k)) (first (level_at k) + c) (omega arith),
      lt-ltb (first (level_at k) + c) (first (level_at k) + many (level_at k)) (omega arith),
    ) refl

step-open : (k : ℕ) → k < 15 → step k true 40 ≡ on (suc k) false
unfolding step
step-open k h = rw (lt-ltb k 15 h) refl

step-shut : (k : ℕ) (t : Bool) → step (suc k) t 41 ≡ on k false
unfolding step
step-shut k t = let e : suc k - 1 ≡ k = omega arith in rw (ne_eqb (suc k) 0 (omega arith), e) refl

-- ---- over nodes

scan-on : (k j : ℕ) (t s : Bool) (b : ℕ) (bs : List ℕ) → step k t b ≡ on j s → (scan k t (b ∷ bs) ≡ suc (scan j s bs)) × (depth k t (b ∷ bs) ≡ depth j s bs)
unfolding scan depth after
scan-on k j t s b bs e =
    (ap (λ (x : Next). after x (λ j t. suc (scan j t bs)) 0) e, ap (λ (x : Next). after x (λ j t. depth j t bs) k) e)

-- the scan goes over x to where it stands with j and s
pub record Over (k : ℕ) (t : Bool) (x : List ℕ) (j : ℕ) (s : Bool) : Type 0 where
  pub bytes : (rest : List ℕ) → scan k t (x ++ rest) ≡ length x + scan j s rest
  pub open-lists : (rest : List ℕ) → depth k t (x ++ rest) ≡ depth j s rest

over_none : {k : ℕ} {t : Bool} → Over k t [] k t
over_none = record { bytes = λ rest. omega arith; open-lists = λ rest. refl }

over-one : (k j : ℕ) (t s : Bool) (b : ℕ) → step k t b ≡ on j s → Over k t (b ∷ []) j s
over-one k j t s b e = record { bytes = λ rest. let h = scan-on k j t s b rest e in omega (arith, h.0); open-lists = λ rest. (scan-on k j t s b rest e).1 }

over-join : {k i j : ℕ} {t r s : Bool} (x y : List ℕ) → Over k t x i r → Over i r y j s → Over k t (x ++ y) j s
over-join {k} {i} {j} {t} {r} {s} x y a b =
    record {
      bytes = λ rest. ap (scan k t) (append_assoc x y rest) ∙ omega (arith, a.bytes (y ++ rest), b.bytes rest, length-append x y);
      open-lists = λ rest. ap (depth k t) (append_assoc x y rest) ∙ a.open-lists (y ++ rest) ∙ b.open-lists rest;
    }

pub over-nodes : (ns : Nodes) (k : ℕ) (t : Bool) → k ≤ 15 → Loose (level_at k) (15 - k) ns → Over k t (render (level_at k) ns) k (ends t ns)
over-nodes end k t h g = over_none
over-nodes (whole c ns) k t h g =
    over-join ((first (level_at k) + c) ∷ []) (render (level_at k) ns) (over-one k k t true (first (level_at k) + c) (step-name k t c g.0)) (over-nodes ns k true h g.1)
over-nodes (listed c is ns) k t h g =
    let e : 15 - k - 1 ≡ 15 - suc k = omega arith in
    over-join ((first (level_at k) + c) ∷ 40 ∷ []) (render Digits is ++ (41 ∷ render (level_at k) ns))
    (over-join ((first (level_at k) + c) ∷ []) (40 ∷ []) (over-one k k t true (first (level_at k) + c) (step-name k t c g.0)) (over-one k (suc k) true false 40 (step-open k (omega (arith, g.1)))))
    (over-join (render Digits is) (41 ∷ render (level_at k) ns)
    (over-nodes is (suc k) false (omega (arith, g.1)) (rw e at g.2))
    (over-join (41 ∷ []) (render (level_at k) ns) (over-one (suc k) k (ends false is) false 41 (step-shut k (ends false is))) (over-nodes ns k false h g.3)))

-- a looser body is gone over to its end, and no list is open there
pub body-scanned : (b : List ℕ) (ns : Nodes) → LooseBody b ns → (scan 0 false b ≡ length b) × (depth 0 false b ≡ 0)
unfolding scan depth
body-scanned b ns h =
    let o = over-nodes ns 0 false (omega arith) h.loose in
    let e : render Faces ns ++ [] ≡ b = append-nil (render Faces ns) ∙ sym h.all in
    (ap (scan 0 false) (sym e) ∙ o.bytes [] ∙ (let z = ap length h.all in omega arith), ap (depth 0 false) (sym e) ∙ o.open-lists [])

-- ---- wherever the scan stands, there is a reading so far

-- the nodes around: for each list that is open, the nodes before its node, and its number
pub data Around : Type 0 where
  top : Around
  into : Nodes → ℕ → Around → Around

abbrev deep : Around → ℕ
deep top = 0
deep (into ms c o) = suc (deep o)

abbrev before : Around → List ℕ
before top = []
before (into ms c o) = before o ++ (render (level_at (deep o)) ms ++ ((first (level_at (deep o)) + c) ∷ 40 ∷ []))

abbrev LooseAround : Around → Type 0
LooseAround top = Unit {0}
LooseAround (into ms c o) = (c < many (level_at (deep o))) × (deep o < 15) × Loose (level_at (deep o)) (15 - deep o) ms × LooseAround o

abbrev plug : Around → Nodes → Nodes
plug top ns = ns
plug (into ms c o) ns = plug o (join ms (listed c ns end))

pub loose-join : (l : Level) (d : ℕ) (a b : Nodes) → Loose l d a → Loose l d b → Loose l d (join a b)
loose-join l d end b g h = h
loose-join l d (whole c a) b g h = (g.0, loose-join l d a b g.1 h)
loose-join l d (listed c is a) b g h = (g.0, g.1, g.2, loose-join l d a b g.3 h)

pub loose-split : (l : Level) (d : ℕ) (a b : Nodes) → Loose l d (join a b) → Loose l d a × Loose l d b
loose-split l d end b g = (tt, g)
loose-split l d (whole c a) b g = let k = loose-split l d a b g.1 in ((g.0, k.0), k.1)
loose-split l d (listed c is a) b g = let k = loose-split l d a b g.3 in ((g.0, g.1, g.2, k.0), k.1)

plug-loose : (o : Around) (ns : Nodes) → LooseAround o → Loose (level_at (deep o)) (15 - deep o) ns → Loose Faces 15 (plug o ns)
plug-loose top ns g h = h
plug-loose (into ms c o) ns g h =
    let e : 15 - suc (deep o) ≡ 15 - deep o - 1 = omega arith in
    plug-loose o (join ms (listed c ns end)) g.3
    (loose-join (level_at (deep o)) (15 - deep o) ms (listed c ns end) g.2 (g.0, omega (arith, g.1), rw e at h, tt))

-- the brackets that close the open lists
abbrev shut : ℕ → List ℕ
shut zero = []
shut (suc k) = 41 ∷ shut k

plug-bytes : (o : Around) (ns : Nodes) → render Faces (plug o ns) ≡ before o ++ (render (level_at (deep o)) ns ++ shut (deep o))
plug-bytes top ns = sym (append-nil (render Faces ns))
plug-bytes (into ms c o) ns =
    plug-bytes o (join ms (listed c ns end))
    ∙ ap (λ (x : List ℕ). before o ++ (x ++ shut (deep o))) (render-join (level_at (deep o)) ms (listed c ns end))
    ∙ simp append_assoc

-- the bytes so far are those of a reading so far
pub record Stands (k : ℕ) (t : Bool) (u : List ℕ) : Type 0 where
  pub around : Around
  pub nodes : Nodes
  pub open-lists : deep around ≡ k
  pub outer : LooseAround around
  pub inner : Loose (level_at k) (15 - k) nodes
  pub bytes : u ≡ before around ++ render (level_at k) nodes
  pub named : ends false nodes ≡ t

pub starts : Stands 0 false []
starts = record { around = top; nodes = end; open-lists = refl; outer = tt; inner = tt; bytes = refl; named = refl }

-- it can be ended
pub stands-begins : (k : ℕ) (t : Bool) (u : List ℕ) → Stands k t u → BeginsOne IsBody u
stands-begins k t u s =
    let e = s.open-lists in
    let i : Loose (level_at (deep s.around)) (15 - deep s.around) s.nodes = rw e s.inner in
    let b : u ≡ before s.around ++ render (level_at (deep s.around)) s.nodes = rw e s.bytes in (
      shut (deep s.around),
      (
        plug s.around s.nodes,
        record {
          loose = plug-loose s.around s.nodes s.outer i;
          all = ap (λ (x : List ℕ). x ++ shut (deep s.around)) b ∙ append_assoc (before s.around) _ _ ∙ sym (plug-bytes s.around s.nodes);
        },
      ),
    )

-- with no list open, it is a body
pub stands-body : (t : Bool) (u : List ℕ) → Stands 0 t u → IsBody u
stands-body t u s = go s.around s.open-lists s.bytes
  where
    go : (o : Around) → deep o ≡ 0 → u ≡ before o ++ render Faces s.nodes → IsBody u
    go top e b = (s.nodes, record { loose = s.inner; all = b })
    go (into ms c o) e b = absurd (omega arith)

-- what a step leads to
abbrev Goes : List ℕ → ℕ → Next → Type 0
Goes u b stop = Unit {0}
Goes u b (on k t) = (k ≤ 15) × Stands k t (u ++ (b ∷ []))

name-goes : (k : ℕ) (t : Bool) (u : List ℕ) (b : ℕ) → k ≤ 15 → Stands k t u → first (level_at k) ≤ b → b < first (level_at k) + many (level_at k) → Goes u b (on k true)
name-goes k t u b h s i j =
    let c : ℕ = b - first (level_at k) in
    let e : first (level_at k) + c ≡ b = omega arith in (
      h,
      record {
        around = s.around;
        nodes = join s.nodes (whole c end);
        open-lists = s.open-lists;
        outer = s.outer;
        inner = loose-join (level_at k) (15 - k) s.nodes (whole c end) s.inner (omega arith, tt);
        bytes =
            ap (λ (x : List ℕ). x ++ (b ∷ [])) s.bytes
            ∙ append_assoc (before s.around) (render (level_at k) s.nodes) (b ∷ [])
            ∙ ap (λ (x : ℕ). before s.around ++ (render (level_at k) s.nodes ++ (x ∷ []))) (sym e)
            ∙ ap (λ (x : List ℕ). before s.around ++ x) (sym (render-join (level_at k) s.nodes (whole c end)));
        named = ends_join false s.nodes (whole c end);
      },
    )

open-goes : (k : ℕ) (u : List ℕ) → k < 15 → Stands k true u → Goes u 40 (on (suc k) false)
open-goes k u h s = ⊎_elim (λ w. clash (sym w.1)) (λ w. go w.0 w.1 w.2) (last-whole false s.nodes s.named)
  where
    go : (ms : Nodes) (c : ℕ) → s.nodes ≡ join ms (whole c end) → Goes u 40 (on (suc k) false)
    go ms c e =
        let i : Loose (level_at k) (15 - k) (join ms (whole c end)) = rw e at s.inner in
        let j = loose-split (level_at k) (15 - k) ms (whole c end) i in
        let q = s.open-lists in
        let j₀ : Loose (level_at (deep s.around)) (15 - deep s.around) ms = rw q j.0 in
        let j₁ : c < many (level_at (deep s.around)) = rw q j.1.0 in
        let bs : u ≡ before s.around ++ render (level_at (deep s.around)) s.nodes = rw q s.bytes in (
          omega arith,
          record {
            around = into ms c s.around;
            nodes = end;
            open-lists = ap suc q;
            outer = (j₁, omega arith, j₀, s.outer);
            inner = tt;
            bytes =
                ap (λ (x : List ℕ). x ++ (40 ∷ []))
                (bs ∙ ap (λ (x : Nodes). before s.around ++ render (level_at (deep s.around)) x) e
                ∙ ap (λ (x : List ℕ). before s.around ++ x) (render-join (level_at (deep s.around)) ms (whole c end)))
                ∙ simp (append_assoc, append-nil);
            named = refl;
          },
        )

shut-goes : (k : ℕ) (t : Bool) (u : List ℕ) → suc k ≤ 15 → Stands (suc k) t u → Goes u 41 (on k false)
shut-goes k t u h s = go s.around s.open-lists s.outer s.bytes
  where
    go : (o : Around) → deep o ≡ suc k → LooseAround o → u ≡ before o ++ render Digits s.nodes → Goes u 41 (on k false)
    go top e g b = absurd (omega arith)
    go (into ms c o) e g b =
        let q : deep o ≡ k = omega arith in
        let d : 15 - suc k ≡ 15 - k - 1 = omega arith in
        let i : Loose Digits (15 - k - 1) s.nodes = rw d at s.inner in
        let m : Loose (level_at k) (15 - k) ms = rw q at g.2 in
        let cm : c < many (level_at k) = rw q at g.0 in
        let b₁ : u ≡ (before o ++ (render (level_at k) ms ++ ((first (level_at k) + c) ∷ 40 ∷ []))) ++ render Digits s.nodes = rw q at b in
        let z :
        ((before o ++ (render (level_at k) ms ++ ((first (level_at k) + c) ∷ 40 ∷ []))) ++ render Digits s.nodes) ++ (41 ∷ []) ≡
        before o ++ (render (level_at k) ms ++ ((first (level_at k) + c) ∷ 40 ∷ (render Digits s.nodes ++ (41 ∷ [])))) = simp append_assoc in (
          omega arith,
          record {
            around = o;
            nodes = join ms (listed c s.nodes end);
            open-lists = q;
            outer = g.3;
            inner = loose-join (level_at k) (15 - k) ms (listed c s.nodes end) m (cm, omega arith, i, tt);
            bytes =
                ap (λ (x : List ℕ). x ++ (41 ∷ [])) b₁
                ∙ z
                ∙ ap (λ (x : List ℕ). before o ++ x) (sym (render-join (level_at k) ms (listed c s.nodes end)));
            named = ends_join false ms (listed c s.nodes end);
          },
        )

goes : (k : ℕ) (t : Bool) (u : List ℕ) (b : ℕ) → k ≤ 15 → Stands k t u → Goes u b (step k t b)
unfolding step
goes k t u b h s =
    by_cond (Goes u b) (eqb b 40)
    (λ e. let q : b ≡ 40 = eqb-true b 40 e in rw q (opens t s))
    (λ e.
    by_cond (Goes u b) (eqb b 41)
    (λ f. let q : b ≡ 41 = eqb-true b 41 f in rw q (shuts k h s))
    (λ f.
    by_cond (Goes u b) (leb (first (level_at k)) b && ltb b (first (level_at k) + many (level_at k)))
    (λ g. name-goes k t u b h s (leb-true _ _ (and_left (leb (first (level_at k)) b) _ g)) (ltb-true _ _ (and_right (leb (first (level_at k)) b) _ g)))
    (λ g. tt)))
  where
    opens : (t : Bool) → Stands k t u → Goes u 40 (cond (t && ltb k 15) (on (suc k) false) stop)
    opens false s = tt
    opens true s = by_cond (Goes u 40) (ltb k 15) (λ e. open-goes k u (ltb-true k 15 e) s) (λ e. tt)

    shuts : (k : ℕ) → k ≤ 15 → Stands k t u → Goes u 41 (cond (eqb k 0) stop (on (k - 1) false))
    shuts zero h s = tt
    shuts (suc k) h s = let e : suc k - 1 ≡ k = omega arith in rw (ne_eqb (suc k) 0 (omega arith), e) (shut-goes k t u h s)

-- ---- the scan

pub record Reached (k : ℕ) (t : Bool) (u bs : List ℕ) : Type 0 where
  pub just : Bool
  pub stands : Stands (depth k t bs) just (u ++ take (scan k t bs) bs)

pub reached : (bs : List ℕ) (k : ℕ) (t : Bool) (u : List ℕ) → k ≤ 15 → Stands k t u → Reached k t u bs
unfolding scan depth after
reached [] k t u h s = record { just = t; stands = rw (append-nil u) s }
reached (b ∷ bs) k t u h s = go (step k t b) refl (goes k t u b h s) (λ j r. reached bs j r (u ++ (b ∷ [])))
  where
    go : (x : Next) → step k t b ≡ x → Goes u b x → ((j : ℕ) (r : Bool) → j ≤ 15 → Stands j r (u ++ (b ∷ [])) → Reached j r (u ++ (b ∷ [])) bs) → Reached k t u (b ∷ bs)
    go stop e g f = record { just = t; stands = rw (e, append-nil u) s }
    go (on j r) e g f =
        let i = f j r g.0 g.1 in
        record { just = i.just; stands = rw (e, sym (append_assoc u (b ∷ []) (take (scan j r bs) bs))) i.stands }

pub scan-most : (bs : List ℕ) (k : ℕ) (t : Bool) → scan k t bs ≤ length bs
unfolding scan after
scan-most [] k t = omega arith
scan-most (b ∷ bs) k t = go (step k t b) (λ j r. scan-most bs j r)
  where
    go : (x : Next) → ((j : ℕ) (r : Bool) → scan j r bs ≤ length bs) → after x (λ j r. suc (scan j r bs)) 0 ≤ suc (length bs)
    go stop f = omega arith
    go (on j r) f = omega (arith, f j r)

-- how far it goes depends only on the bytes gone over
alike : (j : ℕ) (bs q : List ℕ) (k : ℕ) (t : Bool) → j ≤ length bs → j ≤ scan k t (take j bs ++ q) → j ≤ scan k t bs
unfolding scan after
alike zero bs q k t h i = omega arith
alike (suc j) [] q k t h i = absurd (omega arith)
alike (suc j) (b ∷ bs) q k t h i = go (step k t b) i (λ m r. alike j bs q m r (omega arith))
  where
    go : (x : Next) → suc j ≤ after x (λ m r. suc (scan m r (take j bs ++ q))) 0 → ((m : ℕ) (r : Bool) → j ≤ scan m r (take j bs ++ q) → j ≤ scan m r bs) → suc j ≤ after x (λ m r. suc (scan m r bs)) 0
    go stop i f = absurd (omega arith)
    go (on m r) i f = omega (arith, f m r (omega arith))

-- "its place read from that form"
pub scan-longest : (b : List ℕ) → LongestOf IsBody b (scan 0 false b)
scan-longest b =
    let r = reached b 0 false [] (omega arith) starts in
    record {
      within = scan-most b 0 false;
      begun = stands-begins (depth 0 false b) r.just (take (scan 0 false b) b) r.stands;
      longest =
          λ j h g.
          let i = body-scanned (take j b ++ g.0) g.1.0 g.1.1 in
          alike j b g.0 0 false h (omega (arith, i.0, length-append (take j b) g.0, length-take-le j b h));
    }

-- a body is of the looser form exactly when the scan goes over all of it and no list is open there
pub loose-body : (b : List ℕ) → scan 0 false b ≡ length b → depth 0 false b ≡ 0 → IsBody b
loose-body b e f =
    let r = reached b 0 false [] (omega arith) starts in
    go r.just (depth 0 false b) (take (scan 0 false b) b) f (take_all (scan 0 false b) b (omega arith)) r.stands
  where
    go : (j : Bool) (d : ℕ) (x : List ℕ) → d ≡ 0 → x ≡ b → Stands d j x → IsBody b
    go j d x p q s = stands-body j b (rw (p, q) at s)
