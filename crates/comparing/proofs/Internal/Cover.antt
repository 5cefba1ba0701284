-- The nodes of what two readings share cover exactly that ground. Assumes nothing.
use Rattle.std.specs.Prelude.{◌≡◌, refl, Bool, true, false, ◌&&◌, ◌||◌, ◌⊎◌, [], ◌∷◌, eqb}
use Rattle.std.proofs.Common.{sym, ap, ◌∙◌, eqb-true, eq-eqb}
use Rattle.std.proofs.Math.Logic.{inl, inr, ⊎_elim}
use Prim.Native.Nat.{ℕ, zero, suc, ◌+◌, ◌-◌, ◌≤◌, ◌<◌}
use native.Mathlib.Omega.{arith}
use Rattle.std.proofs.lemmas.Bool.{eqb-false}
use Rattle.logic.specs.Laws.Order.{lt-or}
use Rattle.logic.specs.Laws.Bools.{by_cond, clash, and_left, and_right, or_left, or_right}
use Rattle.reading.specs.declared.Level.{Level}
use Rattle.reading.specs.declared.Level.TheVariants.{Faces, Digits}
use Rattle.reading.specs.Reading.{Nodes, end, whole, listed, room, Good, names}
use Rattle.reading.proofs.Laws.Reading.{room-le}
use Rattle.reading.specs.Prefix.{Name, Covered, Digs, FinestName}
use Rattle.reading.proofs.Laws.Ground.{In, in→covered, covered→in, in-from}
use Rattle.comparing.specs.Shared.{Portion, none, all, some, portion_number, of_child, past_child, divided, wanted, holding, node_shared, side_shared, below_shared, shared}
use Rattle.comparing.specs.Internal.Portions.{GoodPortion, GoodInside, child-good, past-good, inside-good, inside-room}

-- a thing is so, or is not so
abbrev pub Is : ℕ → Type 0 → Type 0
Is zero A = A → ⊥
Is (suc p) A = A

-- what a portion covers: of the child of a number, and behind the cell's own name
abbrev pub InPortion : Portion → ℕ → Name → Type 0
InPortion none x w = ⊥
InPortion all x w = Unit {0}
InPortion (some ns) x w = In ns x w

abbrev pub CoverPortion : Portion → Name → Type 0
CoverPortion none w = ⊥
CoverPortion all w = Unit {0}
CoverPortion (some ns) w = Covered (names ns) w

behind : (x : Portion) (b : ℕ) (w : Name) → (CoverPortion x (b ∷ w) → InPortion x b w) × (InPortion x b w → CoverPortion x (b ∷ w))
behind none b w = ((λ h. h), (λ h. h))
behind all b w = ((λ h. h), (λ h. h))
behind (some ns) b w = (covered→in ns b w, in→covered ns b w)

-- ---- the child of number c

child-in : (c : ℕ) (x : Portion) (w : Name) → CoverPortion (of_child c x) w → InPortion x c w
child-in c none w h = h
child-in c all w h = h
child-in c (some end) w h = h
child-in c (some (whole b ns)) w h =
    by_cond (λ (y : Portion). CoverPortion y w → In (whole b ns) c w) (eqb b c) (λ e k. inl (eqb-true b c e)) (λ e k. absurd k) h
child-in c (some (listed b is ns)) w h =
    by_cond (λ (y : Portion). CoverPortion y w → In (listed b is ns) c w) (eqb b c) (λ e k. inl (eqb-true b c e, k)) (λ e k. absurd k) h

in-child : (l : Level) (d c : ℕ) (x : Portion) (w : Name) → GoodPortion l d c x → InPortion x c w → CoverPortion (of_child c x) w
in-child l d c none w g h = h
in-child l d c all w g h = h
in-child l d c (some end) w g h = h
in-child l d c (some (whole b ns)) w g h =
    by_cond (λ (y : Portion). CoverPortion y w) (eqb b c) (λ e. tt)
    (λ e. ⊎_elim (λ k. absurd (eqb-false b c e k)) (λ k. absurd (omega (arith, g.0, in-from ns l d (suc b) c w g.2 k))) h)
in-child l d c (some (listed b is ns)) w g h =
    by_cond (λ (y : Portion). CoverPortion y w) (eqb b c)
    (λ e. ⊎_elim (λ k. k.1) (λ k. absurd (omega (arith, g.0, in-from ns l d (suc b) c w g.6 k))) h)
    (λ e. ⊎_elim (λ k. absurd (eqb-false b c e k.0)) (λ k. absurd (omega (arith, g.0, in-from ns l d (suc b) c w g.6 k))) h)

-- ---- the children after it

past-in : (c b : ℕ) (x : Portion) (w : Name) → InPortion (past_child c x) b w → InPortion x b w
past-in c b none w h = h
past-in c b all w h = h
past-in c b (some end) w h = h
past-in c b (some (whole a ns)) w h =
    by_cond (λ (y : Portion). InPortion y b w → In (whole a ns) b w) (eqb a c) (λ e k. inr k) (λ e k. k) h
past-in c b (some (listed a is ns)) w h =
    by_cond (λ (y : Portion). InPortion y b w → In (listed a is ns) b w) (eqb a c) (λ e k. inr k) (λ e k. k) h

in-past : (c b : ℕ) (x : Portion) (w : Name) → c < b → InPortion x b w → InPortion (past_child c x) b w
in-past c b none w l h = h
in-past c b all w l h = h
in-past c b (some end) w l h = h
in-past c b (some (whole a ns)) w l h =
    by_cond (λ (y : Portion). InPortion y b w) (eqb a c) (λ e. ⊎_elim (λ k. absurd (let i = eqb-true a c e in omega arith)) (λ k. k) h) (λ e. h)
in-past c b (some (listed a is ns)) w l h =
    by_cond (λ (y : Portion). InPortion y b w) (eqb a c) (λ e. ⊎_elim (λ k. absurd (let i = eqb-true a c e in omega (arith, k.0))) (λ k. k) h) (λ e. h)

-- ---- so or not so, of things that follow from each other

pub is-like : (p : ℕ) (A B : Type 0) → (A → B) → (B → A) → Is p A → Is p B
is-like zero A B f g h = λ b. h (g b)
is-like (suc p) A B f g h = f h

-- of a cell with no list in either text
flat-is : (p : ℕ) (x : Portion) (w : Name) → p ≤ 1 → portion_number x ≡ p → Is p (CoverPortion x w)
flat-is zero none w a e = λ h. h
flat-is zero all w a e = absurd (omega arith)
flat-is zero (some ns) w a e = absurd (omega arith)
flat-is (suc p) none w a e = absurd (omega arith)
flat-is (suc p) all w a e = tt
flat-is (suc p) (some ns) w a e = absurd (omega arith)

is-flat : (p : ℕ) (x : Portion) (w : Name) → p ≤ 1 → (portion_number x ≡ 2 → ⊥) → Is p (CoverPortion x w) → portion_number x ≡ p
is-flat zero none w a f h = refl
is-flat zero all w a f h = absurd (h tt)
is-flat zero (some ns) w a f h = absurd (f refl)
is-flat (suc p) none w a f h = absurd h
is-flat (suc p) all w a f h = omega arith
is-flat (suc p) (some ns) w a f h = absurd (f refl)

-- ---- a node

-- what both texts have as p and q say
abbrev Both : (p q : ℕ) → Portion → Portion → Name → Type 0
Both p q x y w = Is p (CoverPortion x w) × Is q (CoverPortion y w)

-- what is held below a cell for which there is a list
abbrev Agrees : (r p q : ℕ) → (Portion → Portion → Nodes) → Type 0
Agrees r p q below =
    (d : ℕ) (x y : Portion) (w : Name) → d ≤ r → GoodInside d x → GoodInside d y → divided x y ≡ true → Digs r w →
    (Covered (names (below x y)) w → Both p q x y w) × (Both p q x y w → Covered (names (below x y)) w)

hold-in : (c b : ℕ) (is rest : Nodes) (w : Name) → In (holding c is rest) b w → ((c ≡ b) × Covered (names is) w) ⊎ In rest b w
hold-in c b end rest w h = inr h
hold-in c b (whole a ns) rest w h = h
hold-in c b (listed a js ns) rest w h = h

in-hold : (c b : ℕ) (is rest : Nodes) (w : Name) → ((c ≡ b) × Covered (names is) w) ⊎ In rest b w → In (holding c is rest) b w
in-hold c b end rest w (inl h) = absurd h.1
in-hold c b end rest w (inr h) = h
in-hold c b (whole a ns) rest w h = h
in-hold c b (listed a js ns) rest w h = h

or_no : (a b : ℕ) → (eqb a 2 || eqb b 2) ≡ false → (a ≡ 2 → ⊥) × (b ≡ 2 → ⊥)
or_no a b e = (eqb-false a 2 (or_left (eqb a 2) (eqb b 2) e), eqb-false b 2 (or_right (eqb a 2) (eqb b 2) e))

both_true : (a b c d : ℕ) → a ≡ b → c ≡ d → (eqb a b && eqb c d) ≡ true
both_true a b c d e f = ap (λ (t : Bool). t && eqb c d) (eq-eqb a b e) ∙ eq-eqb c d f

module _ (r p q : ℕ) (u : p ≤ 1) (v : q ≤ 1) (below : Portion → Portion → Nodes) (m : Agrees r p q below) where
  node_in :
      (d c b : ℕ) (x y : Portion) (rest : Nodes) (w : Name) → d ≤ r → GoodInside d x → GoodInside d y → Digs r w → In (node_shared below p q c x y rest) b w →
      ((c ≡ b) × Both p q x y w) ⊎ In rest b w
  unfolding node_shared
  node_in d c b x y rest w a g h i k =
      by_cond (λ (ns : Nodes). In ns b w → ((c ≡ b) × Both p q x y w) ⊎ In rest b w) (divided x y)
      (λ e j. ⊎_elim (λ n. inl (n.0, (m d x y w a g h e i).0 n.1)) (λ n. inr n) (hold-in c b (below x y) rest w j))
      (λ e.
      by_cond (λ (ns : Nodes). In ns b w → ((c ≡ b) × Both p q x y w) ⊎ In rest b w) (wanted p q x y)
      (λ f j.
      ⊎_elim
      (λ n. inl (n, (flat-is p x w u (eqb-true _ _ (and_left (eqb (portion_number x) p) _ f)), flat-is q y w v (eqb-true _ _ (and_right (eqb (portion_number x) p) _ f)))))
      (λ n. inr n)
      j)
      (λ f j. inr j))
      k

  in-node :
      (d c b : ℕ) (x y : Portion) (rest : Nodes) (w : Name) → d ≤ r → GoodInside d x → GoodInside d y → Digs r w → ((c ≡ b) × Both p q x y w) ⊎ In rest b w →
      In (node_shared below p q c x y rest) b w
  unfolding node_shared
  in-node d c b x y rest w a g h i k =
      by_cond (λ (ns : Nodes). In ns b w) (divided x y)
      (λ e. in-hold c b (below x y) rest w (⊎_elim (λ n. inl (n.0, (m d x y w a g h e i).1 n.1)) (λ n. inr n) k))
      (λ e.
      by_cond (λ (ns : Nodes). In ns b w) (wanted p q x y)
      (λ f. ⊎_elim (λ n. inl n.0) (λ n. inr n) k)
      (λ f.
      ⊎_elim
      (λ n.
      let s = or_no (portion_number x) (portion_number y) e in
      clash (sym (both_true (portion_number x) p (portion_number y) q (is-flat p x w u s.0 n.1.0) (is-flat q y w v s.1 n.1.1)) ∙ f))
      (λ n. n)
      k))

  -- ---- nodes side_shared by side_shared

  abbrev Beside : Portion → Portion → ℕ → Name → Type 0
  Beside x y b w = Is p (InPortion x b w) × Is q (InPortion y b w)

  here : (l : Level) (d c : ℕ) (x y : Portion) (w : Name) → GoodPortion l d c x → GoodPortion l d c y → Both p q (of_child c x) (of_child c y) w → Beside x y c w
  here l d c x y w g h k =
      (is-like p _ _ (child-in c x w) (in-child l d c x w g) k.0, is-like q _ _ (child-in c y w) (in-child l d c y w h) k.1)

  to-here : (l : Level) (d c : ℕ) (x y : Portion) (w : Name) → GoodPortion l d c x → GoodPortion l d c y → Beside x y c w → Both p q (of_child c x) (of_child c y) w
  to-here l d c x y w g h k =
      (is-like p _ _ (in-child l d c x w g) (child-in c x w) k.0, is-like q _ _ (in-child l d c y w h) (child-in c y w) k.1)

  side-in :
      (l : Level) (d n c b : ℕ) (x y : Portion) (w : Name) → d ≤ r → GoodPortion l d c x → GoodPortion l d c y → Digs r w → In (side_shared below p q n c x y) b w →
      (c ≤ b) × Beside x y b w
  unfolding side_shared
  side-in l d zero c b x y w a g h i k = absurd k
  side-in l d (suc n) c b x y w a g h i k =
      ⊎_elim
      (λ j. (omega (arith, j.0), rw j.0 at (here l d c x y w g h j.1)))
      (λ j.
      let e = side-in l d n (suc c) b (past_child c x) (past_child c y) w a (past-good l d c x g) (past-good l d c y h) i j in
      let o : c < b = omega (arith, e.0) in (
        omega (arith, e.0),
        (
          is-like p _ _ (past-in c b x w) (in-past c b x w o) e.1.0,
          is-like q _ _ (past-in c b y w) (in-past c b y w o) e.1.1,
        ),
      ))
      (node_in (room l c d) c b (of_child c x) (of_child c y) (side_shared below p q n (suc c) (past_child c x) (past_child c y)) w (omega (arith, room-le l c d))
      (child-good l d c x g) (child-good l d c y h) i k)

  in-side :
      (l : Level) (d n c b : ℕ) (x y : Portion) (w : Name) → d ≤ r → GoodPortion l d c x → GoodPortion l d c y → Digs r w → c ≤ b → b < n + c → Beside x y b w →
      In (side_shared below p q n c x y) b w
  unfolding side_shared
  in-side l d zero c b x y w a g h i s t k = absurd (omega arith)
  in-side l d (suc n) c b x y w a g h i s t k =
      in-node (room l c d) c b (of_child c x) (of_child c y) (side_shared below p q n (suc c) (past_child c x) (past_child c y)) w (omega (arith, room-le l c d))
      (child-good l d c x g) (child-good l d c y h) i
      (⊎_elim
      (λ o.
      inr
      (in-side l d n (suc c) b (past_child c x) (past_child c y) w a (past-good l d c x g) (past-good l d c y h) i o (omega arith)
      (is-like p _ _ (in-past c b x w o) (past-in c b x w) k.0, is-like q _ _ (in-past c b y w o) (past-in c b y w) k.1)))
      (λ o. let e : b ≡ c = omega arith in inl (sym e, to-here l d c x y w g h (rw e at k)))
      (lt-or c b))

under-agrees : (r p q : ℕ) → p ≤ 1 → q ≤ 1 → Agrees r p q (below_shared r p q)
unfolding below_shared
under-agrees zero p q u v d x y w a g h e i = absurd (omega (arith, inside-room d x y g h e))
under-agrees (suc r) p q u v d x y [] a g h e i = absurd i
under-agrees (suc r) p q u v d x y (b ∷ w) a g h e i =
    let m = under-agrees r p q u v in
    let ns : Nodes = side_shared (below_shared r p q) p q 9 0 x y in (
      (λ k.
          let j = side-in r p q u v (below_shared r p q) m Digits (d - 1) 9 0 b x y w (omega arith) (inside-good d x g) (inside-good d y h) i.1 (covered→in ns b w k) in (
            is-like p _ _ (behind x b w).1 (behind x b w).0 j.1.0,
            is-like q _ _ (behind y b w).1 (behind y b w).0 j.1.1,
          )),
      (λ k.
          in→covered ns b w
          (in-side r p q u v (below_shared r p q) m Digits (d - 1) 9 0 b x y w (omega arith) (inside-good d x g) (inside-good d y h) i.1 (omega arith) (omega (arith, i.0))
          (is-like p _ _ (behind x b w).0 (behind x b w).1 k.0, is-like q _ _ (behind y b w).0 (behind y b w).1 k.1))),
    )

-- ---- of two readings

pub shared-covers :
    (p q : ℕ) (a b : Nodes) → p ≤ 1 → q ≤ 1 → Good Faces 15 0 a → Good Faces 15 0 b → (w : Name) → FinestName 6 15 w →
    (Covered (names (shared p q a b)) w → Is p (Covered (names a) w) × Is q (Covered (names b) w)) ×
    (Is p (Covered (names a) w) × Is q (Covered (names b) w) → Covered (names (shared p q a b)) w)
unfolding shared
shared-covers p q a b u v g h [] f = absurd f
shared-covers p q a b u v g h (x ∷ w) f =
    let m = under-agrees 15 p q u v in
    let ns : Nodes = side_shared (below_shared 15 p q) p q 6 0 (some a) (some b) in (
      (λ k.
          let j = side-in 15 p q u v (below_shared 15 p q) m Faces 15 6 0 x (some a) (some b) w (omega arith) g h f.1 (covered→in ns x w k) in
          (is-like p _ _ (in→covered a x w) (covered→in a x w) j.1.0, is-like q _ _ (in→covered b x w) (covered→in b x w) j.1.1)),
      (λ k.
          in→covered ns x w
          (in-side 15 p q u v (below_shared 15 p q) m Faces 15 6 0 x (some a) (some b) w (omega arith) g h f.1 (omega arith) (omega (arith, f.0))
          (is-like p _ _ (covered→in a x w) (in→covered a x w) k.0, is-like q _ _ (covered→in b x w) (in→covered b x w) k.1))),
    )
