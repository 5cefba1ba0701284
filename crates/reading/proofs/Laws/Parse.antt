-- The reader reads exactly the grammar: what it reads is a reading of its bytes, and it finds every reading. Assumes nothing.
use Rattle.std.specs.Prelude.{◌≡◌, refl, List, [], ◌∷◌, ◌++◌, ℕ, zero, suc, ◌+◌, ◌-◌, ◌≤◌, ◌<◌, length, take, drop, leb, ltb, eqb}
use Rattle.std.proofs.Common.{sym, ap, ◌∙◌, append_assoc, arith, length-append, take-append-drop, drop_at, ltb-true, leb-true, eqb-true, lt-ltb, le-leb, eq-eqb, ne_eqb}
use Rattle.std.proofs.lemmas.Bool.{eqb-false}
use Rattle.logic.specs.Laws.Bools.{by_cond}
use Rattle.reading.specs.declared.Level.{Level}
use Rattle.reading.specs.declared.Level.TheVariants.{Digits}
use Rattle.reading.specs.Reading.{Nodes, end, whole, listed, first, many, room, wholes, render, Some, Good}
use Rattle.reading.proofs.Laws.Reading.{first-big}
use Rattle.reading.specs.Parse.{Parse, bad, got, Item, wrong, bare, held, close, item, add_whole, add_listed, then, parse}

-- where nodes end: at the end of the bytes, or at a `)`
abbrev pub Stop : List ℕ → Type 0
Stop [] = Unit {0}
Stop (b ∷ bs) = b ≡ 41

-- a result is right: the nodes are of the grammar, and they and what is left are the bytes
abbrev pub Right : Level → ℕ → ℕ → List ℕ → Parse → Type 0
Right l d lo bs bad = Unit {0}
Right l d lo bs (got ns rest) = Good l d lo ns × (bs ≡ render l ns ++ rest) × Stop rest

abbrev pub RightItem : ℕ → List ℕ → Item → Type 0
RightItem d bs wrong = Unit {0}
RightItem d bs (bare rest) = bs ≡ rest
RightItem d bs (held is rest) =
    (0 < d) × Some is × (wholes is ≡ 9 → ⊥) × Good Digits (d - 1) 0 is × (bs ≡ 40 ∷ (render Digits is ++ (41 ∷ rest)))

-- ---- what is read is a reading of the bytes

close-right : (d b : ℕ) (bs : List ℕ) (p : Parse) → b ≡ 40 → (d ≡ 0 → ⊥) → Right Digits (d - 1) 0 bs p → RightItem d (b ∷ bs) (close p)
unfolding close
close-right d b bs bad e h r = tt
close-right d b bs (got end rest) e h r = tt
close-right d b bs (got (whole c ns) []) e h r = tt
close-right d b bs (got (whole c ns) (x ∷ rest)) e h r =
    by_cond (RightItem d (b ∷ bs)) (eqb (wholes (whole c ns)) 9) (λ _. tt)
    (λ w. (omega arith, tt, eqb-false _ _ w, r.0, cc))
close-right d b bs (got (listed c is ns) []) e h r = tt
close-right d b bs (got (listed c is ns) (x ∷ rest)) e h r =
    by_cond (RightItem d (b ∷ bs)) (eqb (wholes (listed c is ns)) 9) (λ _. tt)
    (λ w. (omega arith, tt, eqb-false _ _ w, r.0, cc))

pub item-right : (p : ℕ → List ℕ → Parse) → ((e : ℕ) (cs : List ℕ) → Right Digits e 0 cs (p e cs)) → (d : ℕ) (bs : List ℕ) → RightItem d bs (item p d bs)
unfolding item
item-right p h d [] = refl
item-right p h d (b ∷ bs) =
    by_cond (RightItem d (b ∷ bs)) (eqb b 40)
    (λ e. by_cond (RightItem d (b ∷ bs)) (eqb d 0) (λ _. tt) (λ z. close-right d b bs (p (d - 1) bs) (eqb-true _ _ e) (eqb-false _ _ z) (h (d - 1) bs)))
    (λ _. refl)

whole-right : (l : Level) (d lo c b : ℕ) (bs : List ℕ) (p : Parse) → lo ≤ c → c < many l → b ≡ first l + c → Right l d (suc c) bs p → Right l d lo (b ∷ bs) (add_whole c p)
unfolding add_whole
whole-right l d lo c b bs bad h k e r = tt
whole-right l d lo c b bs (got ns rest) h k e r = ((h, k, r.0), (cc), r.2)

listed-right :
    (l : Level) (d lo c b : ℕ) (bs rest : List ℕ) (is : Nodes) (p : Parse) → lo ≤ c → c < many l → b ≡ first l + c →
    RightItem (room l c d) bs (held is rest) → Right l d (suc c) rest p → Right l d lo (b ∷ bs) (add_listed c is p)
unfolding add_listed
listed-right l d lo c b bs rest is bad h k e i r = tt
listed-right l d lo c b bs rest is (got ns rest') h k e i r =
    ((h, k, i.0, i.1, i.2, i.3, r.0), (cc (append_assoc (render Digits is) (41 ∷ render l ns) rest')), r.2)

then-right :
    (l : Level) (d lo c b : ℕ) (bs : List ℕ) (p : List ℕ → Parse) (i : Item) → lo ≤ c → c < many l → b ≡ first l + c →
    RightItem (room l c d) bs i → ((cs : List ℕ) → Right l d (suc c) cs (p cs)) → Right l d lo (b ∷ bs) (then c p i)
unfolding then
then-right l d lo c b bs p wrong h k e i r = tt
then-right l d lo c b bs p (bare rest) h k e i r = whole-right l d lo c b bs (p rest) h k e (rw i (r rest))
then-right l d lo c b bs p (held is rest) h k e i r = listed-right l d lo c b bs rest is (p rest) h k e i (r rest)

pub sound : (n : ℕ) (l : Level) (d lo : ℕ) (bs : List ℕ) → Right l d lo bs (parse n l d lo bs)
unfolding parse
sound zero l d lo bs = tt
sound (suc n) l d lo [] = (tt, refl, tt)
sound (suc n) l d lo (b ∷ bs) =
    by_cond (Right l d lo (b ∷ bs)) (eqb b 41) (λ e. (tt, refl, eqb-true _ _ e))
    (λ _. by_cond (Right l d lo (b ∷ bs)) (leb (first l + lo) b)
    (λ e. by_cond (Right l d lo (b ∷ bs)) (ltb b (first l + many l))
    (λ f.
    then-right l d lo (b - first l) b bs (λ cs. parse n l d (suc (b - first l)) cs) (item (λ e cs. parse n Digits e 0 cs) (room l (b - first l) d) bs)
    (omega (arith, leb-true)) (omega (arith, leb-true, ltb-true)) (omega (arith, leb-true))
    (item-right (λ e cs. parse n Digits e 0 cs) (λ e cs. sound n Digits e 0 cs) (room l (b - first l) d) bs) (λ cs. sound n l d (suc (b - first l)) cs))
    (λ _. tt))
    (λ _. tt))

-- ---- every reading is found

-- no `(` begins nodes
bare-item : (p : ℕ → List ℕ → Parse) (d : ℕ) (l : Level) (ns : Nodes) (rest : List ℕ) → Stop rest → item p d (render l ns ++ rest) ≡ bare (render l ns ++ rest)
unfolding item
bare-item p d l end [] s = refl
bare-item p d l end (b ∷ rest) s = rw (ne_eqb b 40 (omega arith))
bare-item p d l (whole c ns) rest s = rw (ne_eqb (first l + c) 40 (omega (arith, first-big l)))
bare-item p d l (listed c is ns) rest s = rw (ne_eqb (first l + c) 40 (omega (arith, first-big l)))

close-held : (is : Nodes) (rest : List ℕ) → Some is → (wholes is ≡ 9 → ⊥) → close (got is (41 ∷ rest)) ≡ held is rest
unfolding close
close-held end rest s h = absurd s
close-held (whole c ns) rest s h = rw (ne_eqb (wholes (whole c ns)) 9 h)
close-held (listed c is ns) rest s h = rw (ne_eqb (wholes (listed c is ns)) 9 h)

held-item :
    (p : ℕ → List ℕ → Parse) (d : ℕ) (is : Nodes) (bs rest : List ℕ) → 0 < d → Some is → (wholes is ≡ 9 → ⊥) → p (d - 1) bs ≡ got is (41 ∷ rest) →
    item p d (40 ∷ bs) ≡ held is rest
unfolding item
held-item p d is bs rest h s w e = rw (ne_eqb d 0 (omega arith), e) (close-held is rest s w)

pub complete :
    (ns : Nodes) (n : ℕ) (l : Level) (d lo : ℕ) (rest : List ℕ) → Good l d lo ns → Stop rest → length (render l ns ++ rest) < n →
    parse n l d lo (render l ns ++ rest) ≡ got ns rest
unfolding parse
complete end zero l d lo rest g s h = absurd (omega arith)
complete end (suc n) l d lo [] g s h = refl
complete end (suc n) l d lo (b ∷ rest) g s h = rw (eq-eqb b 41 s)
complete (whole c ns) zero l d lo rest g s h = absurd (omega arith)
complete (whole c ns) (suc n) l d lo rest g s h =
    let e : first l + c - first l ≡ c = omega arith in
    rw (
      ne_eqb (first l + c) 41 (omega (arith, first-big l)),
      le-leb (first l + lo) (first l + c) (omega arith),
      lt-ltb (first l + c) (first l + many l) (omega arith),
      e,
      bare-item (λ e cs. parse n Digits e 0 cs) (room l c d) l ns rest s,
      complete ns n l d (suc c) rest g.2 s (omega arith),
    )
complete (listed c is ns) zero l d lo rest g s h = absurd (omega arith)
complete (listed c is ns) (suc n) l d lo rest g s h =
    let e : first l + c - first l ≡ c = omega arith in
    let a : (render Digits is ++ (41 ∷ render l ns)) ++ rest ≡ render Digits is ++ (41 ∷ (render l ns ++ rest)) = append_assoc (render Digits is) (41 ∷ render l ns) rest in
    rw (
      ne_eqb (first l + c) 41 (omega (arith, first-big l)),
      le-leb (first l + lo) (first l + c) (omega arith),
      lt-ltb (first l + c) (first l + many l) (omega arith),
      e,
      a,
      held-item (λ e cs. parse n Digits e 0 cs) (room l c d) is (render Digits is ++ (41 ∷ (render l ns ++ rest))) (render l ns ++ rest) g.2 g.3 g.4
          (complete is n Digits (room l c d - 1) 0 (41 ∷ (render l ns ++ rest)) g.5 refl (omega (arith, ap length a))),
      complete ns n l d (suc c) rest g.6 s (omega (arith, ap length a, length-append (render Digits is) (41 ∷ (render l ns ++ rest)))),
    )

-- ---- nodes with the same bytes are the same

pub render-one : (l : Level) (d : ℕ) (a b : Nodes) → Good l d 0 a → Good l d 0 b → render l a ≡ render l b → a ≡ b
render-one l d a b g h e =
    let n : ℕ = suc (length (render l a ++ [])) in
    let p : parse n l d 0 (render l a ++ []) ≡ got a [] = complete a n l d 0 [] g tt (omega arith) in
    let q : parse n l d 0 (render l b ++ []) ≡ got b [] = complete b n l d 0 [] h tt (rw (← e) (omega arith)) in
    let r : got a [] ≡ got b [] = sym p ∙ ap (λ (t : List ℕ). parse n l d 0 (t ++ [])) e ∙ q in
    cc

-- ---- the bytes left, as a reader that counts places has them: what ends the bytes from k on ends all the bytes

pub drop-rest : (s x rest : List ℕ) (k : ℕ) → drop k s ≡ x ++ rest → drop (length s - length rest) s ≡ rest
drop-rest s x rest k e =
    let a : s ≡ (take k s ++ x) ++ rest = sym (take-append-drop k s) ∙ ap (λ (t : List ℕ). take k s ++ t) e ∙ sym (append_assoc (take k s) x rest) in
    let n : length (take k s ++ x) ≡ length s - length rest = omega (arith, ap length a, length-append (take k s ++ x) rest) in
    ap (λ (t : List ℕ). drop (length s - length rest) t) a ∙ drop_at (take k s ++ x) rest (length s - length rest) n
