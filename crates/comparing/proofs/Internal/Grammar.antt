-- The nodes of what two readings share are of the grammar: no nine siblings are left to merge. Assumes nothing.
use Rattle.std.specs.Prelude.{◌≡◌, refl, Bool, true, false, cond, ◌⊎◌, eqb}
use Rattle.std.proofs.Common.{sym, ap}
use Rattle.std.proofs.Math.Logic.{inl, inr, ⊎_elim}
use Prim.Native.Nat.{ℕ, zero, suc, ◌+◌, ◌-◌, ◌≤◌, ◌<◌}
use native.Mathlib.Omega.{arith}
use borrow.Author.Tests.{eqb-true}
use Rattle.logic.specs.Laws.Order.{lt-or}
use Rattle.logic.specs.Laws.Bools.{by_cond, clash, and_left, and_right}
use Rattle.reading.specs.declared.Level.{Level}
use Rattle.reading.specs.declared.Level.TheVariants.{Faces, Digits}
use Rattle.reading.specs.Reading.{Nodes, end, whole, listed, many, room, wholes, Some, Good}
use Rattle.reading.proofs.Laws.Reading.{room-le}
use Rattle.comparing.specs.Shared.{Portion, none, all, some, portion_number, of_child, past_child, divided, wanted, holding, node_shared, side_shared, below_shared, shared}
use Rattle.comparing.specs.Internal.Portions.{GoodPortion, GoodInside, child-good, past-good, inside-good, inside-room}

-- ---- no nine siblings are whole

-- the n nodes that are left are each as p says: none of them, or all whole
abbrev Filled : (p n : ℕ) → Portion → Type 0
Filled p n none = Unit {0}
Filled p n all = Unit {0}
Filled p n (some ns) = (p ≡ 0 → Some ns → ⊥) × (p ≡ 1 → wholes ns ≡ n)

filled_none : (p d : ℕ) (x : Portion) → GoodPortion Digits d 9 x → Filled p 0 x
filled_none p d none g = tt
filled_none p d all g = tt
filled_none p d (some end) g = ((λ e s. s), (λ e. refl))
filled_none p d (some (whole b ns)) g = absurd (omega (arith, g.0, g.1))
filled_none p d (some (listed b is ns)) g = absurd (omega (arith, g.0, g.1))

filled-step : (p n c : ℕ) (x : Portion) → p ≤ 1 → portion_number (of_child c x) ≡ p → Filled p n (past_child c x) → Filled p (suc n) x
filled-step p n c none h e f = tt
filled-step p n c all h e f = tt
filled-step p n c (some end) h e f = ((λ i s. s), (λ i. absurd (omega arith)))
filled-step p n c (some (whole b ns)) h e f = go (eqb b c) e f
  where
    go : (t : Bool) → portion_number (cond t all none) ≡ p → Filled p n (cond t (some ns) (some (whole b ns))) → Filled p (suc n) (some (whole b ns))
    go true i k = ((λ j s. omega arith), (λ j. ap suc (k.1 j)))
    go false i k = ((λ j s. k.0 j s), (λ j. absurd (omega arith)))
filled-step p n c (some (listed b is ns)) h e f = go (eqb b c) e f
  where
    go : (t : Bool) → portion_number (cond t (some is) none) ≡ p → Filled p n (cond t (some ns) (some (listed b is ns))) → Filled p (suc n) (some (listed b is ns))
    go true i k = absurd (omega arith)
    go false i k = ((λ j s. k.0 j s), (λ j. absurd (omega arith)))

hold-wholes : (c : ℕ) (is rest : Nodes) → wholes (holding c is rest) ≡ wholes rest
hold-wholes c end rest = refl
hold-wholes c (whole b ns) rest = refl
hold-wholes c (listed b is ns) rest = refl

module _ (below : Portion → Portion → Nodes) (p q : ℕ) where
  node-wholes :
      (c : ℕ) (x y : Portion) (rest : Nodes) →
      (wholes (node_shared below p q c x y rest) ≡ wholes rest)
      ⊎ ((portion_number x ≡ p) × (portion_number y ≡ q) × (wholes (node_shared below p q c x y rest) ≡ suc (wholes rest)))
  unfolding node_shared
  node-wholes c x y rest =
      by_cond (λ (ns : Nodes). (wholes ns ≡ wholes rest) ⊎ ((portion_number x ≡ p) × (portion_number y ≡ q) × (wholes ns ≡ suc (wholes rest)))) (divided x y)
      (λ e. inl (hold-wholes c (below x y) rest))
      (λ e.
      by_cond (λ (ns : Nodes). (wholes ns ≡ wholes rest) ⊎ ((portion_number x ≡ p) × (portion_number y ≡ q) × (wholes ns ≡ suc (wholes rest)))) (wanted p q x y)
      (λ f. inr (eqb-true _ _ (and_left (eqb (portion_number x) p) _ f), eqb-true _ _ (and_right (eqb (portion_number x) p) _ f), refl))
      (λ f. inl refl))

  side-wholes : (n c : ℕ) (x y : Portion) → wholes (side_shared below p q n c x y) ≤ n
  unfolding side_shared
  side-wholes zero c x y = omega arith
  side-wholes (suc n) c x y =
      let k = side-wholes n (suc c) (past_child c x) (past_child c y) in
      ⊎_elim (λ e. omega arith) (λ e. omega (arith, e.2)) (node-wholes c (of_child c x) (of_child c y) (side_shared below p q n (suc c) (past_child c x) (past_child c y)))

  side-filled :
      (d n c : ℕ) (x y : Portion) → p ≤ 1 → q ≤ 1 → n + c ≡ 9 → GoodPortion Digits d c x → GoodPortion Digits d c y → wholes (side_shared below p q n c x y) ≡ n →
      Filled p n x × Filled q n y
  unfolding side_shared
  side-filled d zero c x y a b e g h w =
      let k : c ≡ 9 = omega arith in (filled_none p d x (rw k at g), filled_none q d y (rw k at h))
  side-filled d (suc n) c x y a b e g h w =
      let k = side-wholes n (suc c) (past_child c x) (past_child c y) in
      ⊎_elim (λ i. absurd (omega arith))
      (λ i.
      let f = side-filled d n (suc c) (past_child c x) (past_child c y) a b (omega arith) (past-good Digits d c x g) (past-good Digits d c y h) (omega (arith, i.2)) in
      (filled-step p n c x a i.0 f.0, filled-step q n c y b i.1 f.1))
      (node-wholes c (of_child c x) (of_child c y) (side_shared below p q n (suc c) (past_child c x) (past_child c y)))

  not-filled : (d : ℕ) (ns : Nodes) (r : ℕ) → r ≤ 1 → GoodInside d (some ns) → Filled r 9 (some ns) → ⊥
  not-filled d ns r a g f = ⊎_elim (λ i. f.0 (omega arith) g.1) (λ i. g.2 (f.1 (omega arith))) (lt-or r 1)

  not-nine : (d : ℕ) (x y : Portion) → p ≤ 1 → q ≤ 1 → GoodInside d x → GoodInside d y → divided x y ≡ true → wholes (side_shared below p q 9 0 x y) ≡ 9 → ⊥
  not-nine d x y a b g h e w = go x y g h e (side-filled (d - 1) 9 0 x y a b (omega arith) (inside-good d x g) (inside-good d y h) w)
    where
      go : (x y : Portion) → GoodInside d x → GoodInside d y → divided x y ≡ true → Filled p 9 x × Filled q 9 y → ⊥
      go (some ns) y g h e f = not-filled d ns p a g f.0
      go none none g h e f = clash (sym e)
      go none all g h e f = clash (sym e)
      go none (some ns) g h e f = not-filled d ns q b h f.1
      go all none g h e f = clash (sym e)
      go all all g h e f = clash (sym e)
      go all (some ns) g h e f = not-filled d ns q b h f.1

-- ---- the nodes are of the grammar

-- what is held below a cell for which there is a list
abbrev Makes : ℕ → (Portion → Portion → Nodes) → Type 0
Makes r below =
    (d : ℕ) (x y : Portion) → d ≤ r → GoodInside d x → GoodInside d y → divided x y ≡ true → Good Digits (d - 1) 0 (below x y) × (wholes (below x y) ≡ 9 → ⊥)

hold-good :
    (l : Level) (d lo c : ℕ) (is rest : Nodes) → lo ≤ c → c < many l → 0 < room l c d → (wholes is ≡ 9 → ⊥) → Good Digits (room l c d - 1) 0 is →
    Good l d lo rest → Good l d (suc c) rest → Good l d lo (holding c is rest)
hold-good l d lo c end rest a b k w i g h = g
hold-good l d lo c (whole e ns) rest a b k w i g h = (a, b, k, tt, w, i, h)
hold-good l d lo c (listed e js ns) rest a b k w i g h = (a, b, k, tt, w, i, h)

module _ (r p q : ℕ) (below : Portion → Portion → Nodes) (m : Makes r below) where
  node-good :
      (l : Level) (d c lo : ℕ) (x y : Portion) (rest : Nodes) → d ≤ r → GoodInside (room l c d) x → GoodInside (room l c d) y → lo ≤ c → c < many l →
      Good l d lo rest → Good l d (suc c) rest → Good l d lo (node_shared below p q c x y rest)
  unfolding node_shared
  node-good l d c lo x y rest u g h a b i j =
      by_cond (Good l d lo) (divided x y)
      (λ e. let k = m (room l c d) x y (omega (arith, room-le l c d)) g h e in hold-good l d lo c (below x y) rest a b (inside-room (room l c d) x y g h e) k.1 k.0 i j)
      (λ e. by_cond (Good l d lo) (wanted p q x y) (λ f. (a, b, j)) (λ f. i))

  side-good :
      (l : Level) (d n c lo : ℕ) (x y : Portion) → d ≤ r → GoodPortion l d c x → GoodPortion l d c y → n + c ≤ many l → lo ≤ c → Good l d lo (side_shared below p q n c x y)
  unfolding side_shared
  side-good l d zero c lo x y u g h a b = tt
  side-good l d (suc n) c lo x y u g h a b =
      let s = past-good l d c x g in
      let t = past-good l d c y h in
      node-good l d c lo (of_child c x) (of_child c y) (side_shared below p q n (suc c) (past_child c x) (past_child c y)) u (child-good l d c x g) (child-good l d c y h) b (omega arith)
      (side-good l d n (suc c) lo (past_child c x) (past_child c y) u s t (omega arith) (omega arith))
      (side-good l d n (suc c) (suc c) (past_child c x) (past_child c y) u s t (omega arith) (omega arith))

under-makes : (r p q : ℕ) → p ≤ 1 → q ≤ 1 → Makes r (below_shared r p q)
unfolding below_shared
under-makes zero p q a b d x y u g h e = absurd (omega (arith, inside-room d x y g h e))
under-makes (suc r) p q a b d x y u g h e = (
  side-good r p q (below_shared r p q) (under-makes r p q a b) Digits (d - 1) 9 0 0 x y (omega arith) (inside-good d x g) (inside-good d y h) (omega arith) (omega arith),
  not-nine (below_shared r p q) p q d x y a b g h e,
)

pub shared-good : (p q : ℕ) (a b : Nodes) → p ≤ 1 → q ≤ 1 → Good Faces 15 0 a → Good Faces 15 0 b → Good Faces 15 0 (shared p q a b)
unfolding shared
shared-good p q a b u v g h =
    side-good 15 p q (below_shared 15 p q) (under-makes 15 p q u v) Faces 15 6 0 0 (some a) (some b) (omega arith) g h (omega arith) (omega arith)
