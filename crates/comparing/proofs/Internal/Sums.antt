-- "The size sums must tie up: first only plus both is the first text's sum, and the same for the second." Assumes nothing.
use Rattle.std.specs.Prelude.{◌≡◌, Bool, cond, eqb}
use Rattle.std.proofs.Math.Path.{refl, sym}
use Rattle.std.proofs.Common.{◌∙◌, pow-suc, suc-mul, zero-mul}
use Rattle.std.proofs.Math.Bool.{true, false, and_comm, or_comm}
use Prim.Native.Nat.{ℕ, zero, suc, ◌+◌, ◌-◌, ◌*◌, ◌/◌, ◌^◌, ◌≤◌}
use native.Mathlib.Omega.{arith}
use Rattle.logic.specs.Laws.Bools.{clash}
use Rattle.reading.specs.declared.Level.{Level}
use Rattle.reading.specs.declared.Level.TheVariants.{Faces, Digits}
use Rattle.reading.specs.Reading.{Nodes, end, whole, listed, many, room, Good}
use Rattle.reading.proofs.Laws.Reading.{room-le}
use Rattle.reading.specs.Report.{size_along}
use Rattle.comparing.specs.Shared.{Portion, none, all, some, portion_number, of_child, past_child, divided, holding, node_shared, side_shared, below_shared, shared}
use Rattle.comparing.specs.Internal.Portions.{GoodPortion, GoodInside, child-good, past-good, inside-good, inside-room}

-- ---- how much a of_child covers, of n children of size z, and of a cell of size z

abbrev sizes_left : (z n : ℕ) → Portion → ℕ
sizes_left z n none = 0
sizes_left z n all = n * z
sizes_left z n (some ns) = size_along z ns

abbrev size_in : ℕ → Portion → ℕ
size_in z none = 0
size_in z all = z
size_in z (some ns) = size_along (z / 9) ns

size_none : (l : Level) (d z : ℕ) (x : Portion) → GoodPortion l d (many l) x → sizes_left z 0 x ≡ 0
size_none l d z none g = refl
size_none l d z all g = zero-mul z
size_none l d z (some end) g = refl
size_none l d z (some (whole b ns)) g = absurd (omega (arith, g.0, g.1))
size_none l d z (some (listed b is ns)) g = absurd (omega (arith, g.0, g.1))

size_step : (z n c : ℕ) (x : Portion) → sizes_left z (suc n) x ≡ size_in z (of_child c x) + sizes_left z n (past_child c x)
size_step z n c none = omega arith
size_step z n c all = omega (arith, suc-mul n z)
size_step z n c (some end) = omega arith
size_step z n c (some (whole b ns)) = go (eqb b c)
  where
    go : (t : Bool) → size_along z (whole b ns) ≡ size_in z (cond t all none) + sizes_left z n (cond t (some ns) (some (whole b ns)))
    go true = omega arith
    go false = omega arith
size_step z n c (some (listed b is ns)) = go (eqb b c)
  where
    go : (t : Bool) → size_along z (listed b is ns) ≡ size_in z (cond t (some is) none) + sizes_left z n (cond t (some ns) (some (listed b is ns)))
    go true = omega arith
    go false = omega arith

size-holding : (z c : ℕ) (is rest : Nodes) → size_along z (holding c is rest) ≡ size_along (z / 9) is + size_along z rest
size-holding z c end rest = omega arith
size-holding z c (whole b ns) rest = omega arith
size-holding z c (listed b is ns) rest = omega arith

-- ---- what the first has and the second has not, and what both have, is what the first has

abbrev Ties : ℕ → (only both : Portion → Portion → Nodes) → Type 0
Ties r only both =
    (d : ℕ) (x y : Portion) → d ≤ r → GoodInside d x → GoodInside d y → divided x y ≡ true →
    size_along (9 ^ r / 9) (only x y) + size_along (9 ^ r / 9) (both x y) ≡ size_in (9 ^ r) x

module _ (r : ℕ) (only both : Portion → Portion → Nodes) (m : Ties r only both) where
  node-ties :
      (d c : ℕ) (x y : Portion) (s t : Nodes) → d ≤ r → GoodInside d x → GoodInside d y →
      size_along (9 ^ r) (node_shared only 1 0 c x y s) + size_along (9 ^ r) (node_shared both 1 1 c x y t) ≡ size_in (9 ^ r) x + (size_along (9 ^ r) s + size_along (9 ^ r) t)
  unfolding node_shared
  node-ties d c x y s t a g h = go x y g h (divided x y) refl
    where
      go :
          (x y : Portion) → GoodInside d x → GoodInside d y → (b : Bool) → divided x y ≡ b →
          size_along (9 ^ r) (node_shared only 1 0 c x y s) + size_along (9 ^ r) (node_shared both 1 1 c x y t) ≡ size_in (9 ^ r) x + (size_along (9 ^ r) s + size_along (9 ^ r) t)
      go x y g h true e =
          rw (e, size-holding (9 ^ r) c (only x y) s, size-holding (9 ^ r) c (both x y) t) (omega (arith, m d x y a g h e))
      go (some ns) y g h false e = clash e
      go none (some ns) g h false e = clash e
      go all (some ns) g h false e = clash e
      go none none g h false e = omega arith
      go none all g h false e = omega arith
      go all none g h false e = omega arith
      go all all g h false e = omega arith

  side-ties :
      (l : Level) (d n c : ℕ) (x y : Portion) → d ≤ r → GoodPortion l d c x → GoodPortion l d c y → n + c ≡ many l →
      size_along (9 ^ r) (side_shared only 1 0 n c x y) + size_along (9 ^ r) (side_shared both 1 1 n c x y) ≡ sizes_left (9 ^ r) n x
  unfolding side_shared
  side-ties l d zero c x y a g h e = let k : c ≡ many l = omega arith in sym (size_none l d (9 ^ r) x (rw k at g))
  side-ties l d (suc n) c x y a g h e =
      let i = side-ties l d n (suc c) (past_child c x) (past_child c y) a (past-good l d c x g) (past-good l d c y h) (omega arith) in
      let rest : Nodes = side_shared only 1 0 n (suc c) (past_child c x) (past_child c y) in
      let rest' : Nodes = side_shared both 1 1 n (suc c) (past_child c x) (past_child c y) in
      let j =
      node-ties (room l c d) c (of_child c x) (of_child c y) rest rest' (omega (arith, room-le l c d)) (child-good l d c x g) (child-good l d c y h) in
      omega (arith, i, j, size_step (9 ^ r) n c x)

under_ties : (r : ℕ) → Ties r (below_shared r 1 0) (below_shared r 1 1)
unfolding below_shared
under_ties zero d x y a g h e = absurd (omega (arith, inside-room d x y g h e))
under_ties (suc r) d x y a g h e =
    let ninth : 9 ^ suc r / 9 ≡ 9 ^ r = omega (arith, pow-suc 9 r) in
    rw ninth (side-ties r (below_shared r 1 0) (below_shared r 1 1) (under_ties r) Digits (d - 1) 9 0 x y (omega arith) (inside-good d x g) (inside-good d y h) (omega arith) ∙ go x)
  where
    go : (x : Portion) → sizes_left (9 ^ r) 9 x ≡ size_in (9 ^ suc r) x
    go none = refl
    go all = omega (arith, pow-suc 9 r)
    go (some ns) = let ninth : 9 ^ suc r / 9 ≡ 9 ^ r = omega (arith, pow-suc 9 r) in rw ninth refl

pub first-sum : (a b : Nodes) → Good Faces 15 0 a → Good Faces 15 0 b → size_along (9 ^ 15) (shared 1 0 a b) + size_along (9 ^ 15) (shared 1 1 a b) ≡ size_along (9 ^ 15) a
unfolding shared
first-sum a b g h = side-ties 15 (below_shared 15 1 0) (below_shared 15 1 1) (under_ties 15) Faces 15 6 0 (some a) (some b) (omega arith) g h (omega arith)

-- ---- the second's, by changing sides

module _ (p q : ℕ) (f g : Portion → Portion → Nodes) (m : (x y : Portion) → f x y ≡ g y x) where
  node-swap : (c : ℕ) (x y : Portion) (s t : Nodes) → s ≡ t → node_shared f p q c x y s ≡ node_shared g q p c y x t
  unfolding node_shared
  node-swap c x y s t e =
      rw (or_comm (eqb (portion_number x) 2) (eqb (portion_number y) 2), and_comm (eqb (portion_number x) p) (eqb (portion_number y) q), m x y, e) refl

  side_swap : (n c : ℕ) (x y : Portion) → side_shared f p q n c x y ≡ side_shared g q p n c y x
  unfolding side_shared
  side_swap zero c x y = refl
  side_swap (suc n) c x y = node-swap c (of_child c x) (of_child c y) _ _ (side_swap n (suc c) (past_child c x) (past_child c y))

under-swap : (r p q : ℕ) (x y : Portion) → below_shared r p q x y ≡ below_shared r q p y x
unfolding below_shared
under-swap zero p q x y = refl
under-swap (suc r) p q x y = side_swap p q (below_shared r p q) (below_shared r q p) (under-swap r p q) 9 0 x y

pub shared-swap : (p q : ℕ) (a b : Nodes) → shared p q a b ≡ shared q p b a
unfolding shared
shared-swap p q a b = side_swap p q (below_shared 15 p q) (below_shared 15 q p) (under-swap 15 p q) 6 0 (some a) (some b)

pub second-sum : (a b : Nodes) → Good Faces 15 0 a → Good Faces 15 0 b → size_along (9 ^ 15) (shared 0 1 a b) + size_along (9 ^ 15) (shared 1 1 a b) ≡ size_along (9 ^ 15) b
second-sum a b g h = rw (shared-swap 0 1 a b, shared-swap 1 1 a b) (first-sum b a h g)
