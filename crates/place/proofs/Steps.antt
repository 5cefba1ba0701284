-- A step of the scan, with the nodes around as the scan's arrays have them. Assumes nothing.
use mathlib.Core.Path.{◌≡◌, refl, ap}
use mathlib.Core.List.{List, ◌∷◌}
use mathlib.Core.Bool.{Bool, true, false, ◌&&◌, ◌||◌, not, cond}
use Prim.Native.Nat.{ℕ, zero, suc, ◌+◌, ◌-◌, ◌≤◌, ◌<◌}
use native.Mathlib.Omega.{arith}
use native.Mathlib.Numerals.{add-one}
use lib.ListN.{length, get_or, set}
use lib.Seq.{get_or-set_other}
use lib.Dec.{leb, ltb, eqb}
use borrow.Author.Tests.{eq-eqb, ne_eqb, eqb-false, ltb-false, leb-false, not-true}
use Rattle.logic.specs.Laws.Bools.{and_left, and_right}
use Rattle.reading.specs.declared.Level.{Level}
use Rattle.reading.specs.Reading.{first, many, room}
use Rattle.reading.proofs.Laws.Reading.{room-le}
use Rattle.reading.specs.Scan.{Frame, frame, at, Next, stop, on, level, open_list, shut_list, stand_node, step}
use Rattle.place.specs.Internal.Stack.{here_of, stack, stands_at, may_open, may_shut, may_stand}

level-stack : (l : Level) (k : ℕ) (lo w : List ℕ) → level l (stack k lo w) ≡ here_of l k
level-stack l zero lo w = refl
level-stack l (suc k) lo w = refl

length-stack : (k : ℕ) (lo w : List ℕ) → length (stack k lo w) ≡ k
length-stack zero lo w = refl
length-stack (suc k) lo w = ap suc (length-stack k lo w)

-- ---- a store at k or above changes no frame below

pub stack_set : (k i j a b : ℕ) (lo w : List ℕ) → k ≤ i → k ≤ j → stack k (set lo i a) (set w j b) ≡ stack k lo w
stack_set zero i j a b lo w h h' = refl
stack_set (suc k) i j a b lo w h h' =
    rw (
      get_or-set_other lo i k a 0 (λ e. omega arith),
      get_or-set_other w j k b 0 (λ e. omega arith),
      stack_set k i j a b lo w (omega arith) (omega arith),
    )

pub stack-set-whole : (k j b : ℕ) (lo w : List ℕ) → k ≤ j → stack k lo (set w j b) ≡ stack k lo w
stack-set-whole zero j b lo w h = refl
stack-set-whole (suc k) j b lo w h = rw (get_or-set_other w j k b 0 (λ e. omega arith), stack-set-whole k j b lo w (omega arith))

pub stack-more : (k : ℕ) (lo w : List ℕ) → stack (k + 1) lo w ≡ frame (get_or lo k 0) (get_or w k 0) ∷ stack k lo w
stack-more k lo w = rw add-one

-- ---- a step goes on exactly where the byte may come

opens-when : (l : Level) (d : ℕ) (o : List Frame) (lo w : ℕ) (named : Bool) →
    open_list l d o lo w named ≡ cond (named && not (eqb (room (level l o) (lo - 1) (d - length o)) 0)) (on (at (frame lo (w - 1) ∷ o) 0 0 false)) stop
unfolding open_list
opens-when l d o lo w false = refl
opens-when l d o lo w true = go (eqb (room (level l o) (lo - 1) (d - length o)) 0)
  where
    go : (t : Bool) → cond t stop (on (at (frame lo (w - 1) ∷ o) 0 0 false)) ≡ cond (not t) (on (at (frame lo (w - 1) ∷ o) 0 0 false)) stop
    go true = refl
    go false = refl

shuts-when : (k : ℕ) (lo w : List ℕ) (x y : ℕ) → shut_list (stack k lo w) x y ≡ cond (may_shut k x y) (on (stands_at (k - 1) lo w false)) stop
unfolding shut_list may_shut
shuts-when zero lo w x y = refl
shuts-when (suc k) lo w x y = let z : suc k - 1 ≡ k = omega arith in rw (ne_eqb (suc k) 0 (λ e. omega arith), z) (go (eqb x 0) (eqb y 9))
  where
    go : (s t : Bool) → cond s stop (cond t stop (on (stands_at k lo w false))) ≡ cond (not s && not t) (on (stands_at k lo w false)) stop
    go true t = refl
    go false true = refl
    go false false = refl

stands-when : (p q r s : Bool) (x : Next) → cond p stop (cond q stop (cond r (cond s stop x) x)) ≡ cond (not p && (not q && (not r || not s))) x stop
stands-when true q r s x = refl
stands-when false true r s x = refl
stands-when false false true true x = refl
stands-when false false true false x = refl
stands-when false false false s x = refl

module _ (l : Level) (d k : ℕ) (lo w : List ℕ) (named : Bool) (b : ℕ) where
  pub step-open :
      b ≡ 40 →
      step l d (stands_at k lo w named) b
      ≡ cond (may_open l d k (get_or lo k 0) named) (on (at (frame (get_or lo k 0) (get_or w k 0 - 1) ∷ stack k lo w) 0 0 false)) stop
  unfolding step may_open
  step-open e =
      rw (eq-eqb b 40 e, opens-when l d (stack k lo w) (get_or lo k 0) (get_or w k 0) named, level-stack l k lo w, length-stack k lo w)

  pub step-shut :
      b ≡ 41 → step l d (stands_at k lo w named) b ≡ cond (may_shut k (get_or lo k 0) (get_or w k 0)) (on (stands_at (k - 1) lo w false)) stop
  unfolding step
  step-shut e = rw (ne_eqb b 40 (λ q. omega arith), eq-eqb b 41 e, shuts-when k lo w (get_or lo k 0) (get_or w k 0))

  pub step-stand :
      (b ≡ 40 → ⊥) → (b ≡ 41 → ⊥) →
      step l d (stands_at k lo w named) b
      ≡ cond (may_stand l d k (get_or lo k 0) (get_or w k 0) b) (on (at (stack k lo w) (suc (b - first (here_of l k))) (suc (get_or w k 0)) true)) stop
  unfolding step stand_node may_stand
  step-stand n m =
      rw (ne_eqb b 40 n, ne_eqb b 41 m, level-stack l k lo w, length-stack k lo w)
      (stands-when (ltb b (first (here_of l k) + get_or lo k 0)) (leb (first (here_of l k) + many (here_of l k)) b) (eqb (get_or w k 0) 8)
      (eqb (room (here_of l k) (b - first (here_of l k)) (d - k)) 0)
      (on (at (stack k lo w) (suc (b - first (here_of l k))) (suc (get_or w k 0)) true)))

-- ---- what holds where a byte may come

module _ (l : Level) (d k lo : ℕ) (named : Bool) (h : may_open l d k lo named ≡ true) where
  pub open-named : named ≡ true
  unfolding may_open
  open-named = and_left named (not (eqb (room (here_of l k) (lo - 1) (d - k)) 0)) h

  -- it is not the deepest
  pub open-deeper : k < d
  unfolding may_open
  open-deeper =
      let n : room (here_of l k) (lo - 1) (d - k) ≡ 0 → ⊥ =
      eqb-false _ _ (not-true (eqb (room (here_of l k) (lo - 1) (d - k)) 0) (and_right named (not (eqb (room (here_of l k) (lo - 1) (d - k)) 0)) h)) in
      omega (arith, n, room-le (here_of l k) (lo - 1) (d - k))

module _ (k lo w : ℕ) (h : may_shut k lo w ≡ true) where
  -- a list is open
  pub shut-inside : k ≡ 0 → ⊥
  unfolding may_shut
  shut-inside = eqb-false k 0 (not-true (eqb k 0) (and_left (not (eqb k 0)) (not (eqb lo 0) && not (eqb w 9)) h))

module _ (l : Level) (d k lo w b : ℕ) (h : may_stand l d k lo w b ≡ true) where
  abbrev low : Bool
  low = ltb b (first (here_of l k) + lo)

  abbrev high : Bool
  high = leb (first (here_of l k) + many (here_of l k)) b

  abbrev ninth : Bool
  ninth = not (eqb w 8) || not (eqb (room (here_of l k) (b - first (here_of l k)) (d - k)) 0)

  pub stand-from : first (here_of l k) + lo ≤ b
  unfolding may_stand
  stand-from = ltb-false b (first (here_of l k) + lo) (not-true low (and_left (not low) (not high && ninth) h))

  pub stand-below : b < first (here_of l k) + many (here_of l k)
  unfolding may_stand
  stand-below = leb-false (first (here_of l k) + many (here_of l k)) b (not-true high (and_left (not high) ninth (and_right (not low) (not high && ninth) h)))
