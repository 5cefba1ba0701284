-- The scan with its arrays: what holds at each round, and that a round keeps it. Assumes nothing.
use mathlib.Core.Path.{◌≡◌, refl, ap, ◌∙◌}
use mathlib.Core.Logic.{⊎_elim}
use mathlib.Core.List.{List, ◌∷◌}
use mathlib.Core.Bool.{Bool, true, false, not}
use Prim.Native.Nat.{ℕ, zero, suc, ◌+◌, ◌-◌, ◌≤◌, ◌<◌}
use native.Mathlib.Omega.{arith}
use native.Mathlib.Numerals.{add-one}
use native.Mathlib.Nat.{eq-or-lt_of_le}
use lib.ListN.{length, drop, get_or, set, replicate, length-set, drop_of_length-le}
use lib.Seq.{drop-cons, get_or-set_same, get_or-set_other}
use lib.Dec.{eqb}
use borrow.Author.Tests.{lt-ltb, le-ltb, le-leb, lt-leb, eq-eqb, ne_eqb}
use Rattle.reading.specs.declared.Level.{Level}
use Rattle.reading.specs.declared.Level.TheVariants.{Faces, Belt, Digits}
use Rattle.reading.specs.Reading.{first, many, room}
use Rattle.reading.proofs.Laws.Reading.{many-most}
use Rattle.reading.specs.Scan.{frame, State, at, Next, stop, on, step, go_on, scan, start}
use Rattle.place.specs.Internal.Stack.{here_of, stack, stands_at, may_open, may_shut, may_stand}
use Rattle.place.proofs.Steps.{stack_set, stack-set-whole, stack-more, step-open, step-shut, step-stand, open-deeper, stand-from, stand-below}

-- ---- bytes

drop-byte : (s : List ℕ) (i : ℕ) → i < length s → drop i s ≡ get_or s i 0 ∷ drop (i + 1) s
drop-byte s i h = rw (add-one, drop-cons s i 0)

first-most : (l : Level) → first l ≤ 78
first-most Faces = omega arith
first-most Belt = omega arith
first-most Digits = omega arith

pub base-fits : (l : Level) → first l + 9 < 256
base-fits l = omega (arith, first-most l)

pub many-fits : (l : Level) → first l + many l < 256
many-fits l = omega (arith, first-most l, many-most l)

pub here-digits : (l : Level) (k : ℕ) → (k ≡ 0 → ⊥) → Digits ≡ here_of l k
here-digits l zero h = absurd (h refl)
here-digits l (suc k) h = refl

-- ---- whether a letter or digit may come, as the code asks it

module _ (l : Level) (d k lo w b : ℕ) {base : ℕ} (e : base ≡ first (here_of l k)) where
  pub stand-low : b < base + lo → false ≡ may_stand l d k lo w b
  unfolding may_stand
  stand-low h = rw (lt-ltb b (first (here_of l k) + lo) (omega arith))

  module _ {count : ℕ} (f : count ≡ many (here_of l k)) (h : base + lo ≤ b) where
    pub stand-high : base + count ≤ b → false ≡ may_stand l d k lo w b
    unfolding may_stand
    stand-high h' = rw (le-ltb b (first (here_of l k) + lo) (omega arith), le-leb (first (here_of l k) + many (here_of l k)) b (omega arith))

    module _ (h' : b < base + count) where
      pub stand-other : (w ≡ 8 → ⊥) → true ≡ may_stand l d k lo w b
      unfolding may_stand
      stand-other n =
          rw (
            le-ltb b (first (here_of l k) + lo) (omega arith),
            lt-leb (first (here_of l k) + many (here_of l k)) b (omega arith),
            ne_eqb w 8 n,
          )

      pub stand-ninth : w ≡ 8 → {r : ℕ} → r ≡ room (here_of l k) (b - base) (d - k) → not (eqb r 0) ≡ may_stand l d k lo w b
      unfolding may_stand
      stand-ninth n {r} u =
          rw (
            le-ltb b (first (here_of l k) + lo) (omega arith),
            lt-leb (first (here_of l k) + many (here_of l k)) b (omega arith),
            eq-eqb w 8 n,
          )
          (ap (λ (x : ℕ). not (eqb x 0)) (u ∙ ap (λ (x : ℕ). room (here_of l k) (b - x) (d - k)) e))

-- ---- at each round

-- what the arrays hold at each depth
abbrev pub Sane : ℕ → List ℕ → List ℕ → Type 0
Sane k lo w = (j : ℕ) → j ≤ k → (get_or w j 0 ≤ get_or lo j 0) × (get_or lo j 0 ≤ 9)

-- what is gone over from the start is what is gone over from here, and the bytes before
pub record Inv (s : List ℕ) (from : ℕ) (l : Level) (d : ℕ) (lo w : List ℕ) (k : ℕ) (named : Bool) (i : ℕ) : Type 0 where
  pub after-from : from ≤ i
  pub before-end : i ≤ length s
  pub deep : k ≤ d
  pub lows : length lo ≡ 16
  pub wide : length w ≡ 16
  pub sane : Sane k lo w
  pub one : named ≡ true → 1 ≤ get_or w k 0
  pub tied : from + scan l d start (drop from s) ≡ i + scan l d (stands_at k lo w named) (drop i s)

zeros-at : (n j : ℕ) → ◌≡◌ {A = ℕ} (get_or (replicate n 0) j 0) 0
zeros-at zero j = refl
zeros-at (suc n) zero = refl
zeros-at (suc n) (suc j) = zeros-at n j

pub start-inv : (s : List ℕ) (from : ℕ) (l : Level) (d : ℕ) → from ≤ length s → Inv s from l d (replicate 16 0) (replicate 16 0) 0 false from
start-inv s from l d h =
    record {
      after-from = omega arith;
      before-end = h;
      deep = omega arith;
      lows = refl;
      wide = refl;
      sane = λ j q. (omega arith, omega (arith, zeros-at 16 j));
      one = λ e. let y : ◌≡◌ {A = ℕ} 0 1 = cc in omega arith;
      tied = refl;
    }

module _ {s : List ℕ} {from : ℕ} {l : Level} {d : ℕ} {lo w : List ℕ} {k : ℕ} {named : Bool} {i : ℕ} (v : Inv s from l d lo w k named i) where
  pub low-most : get_or lo k 0 ≤ 9
  low-most = (v.sane k (omega arith)).1

  pub whole-most : get_or w k 0 ≤ 9
  whole-most = omega (arith, (v.sane k (omega arith)).0, (v.sane k (omega arith)).1)

  -- a node was just read
  pub named_some : named ≡ true → 1 ≤ get_or lo k 0
  named_some e = omega (arith, v.one e, (v.sane k (omega arith)).0)

  pub at-end : i ≡ length s → i ≡ from + scan l d start (drop from s)
  unfolding scan
  at-end e =
      let z : scan l d (stands_at k lo w named) (drop i s) ≡ 0 = rw (drop_of_length-le s {i = i} (omega arith)) in
      omega (arith, v.tied)

  module _ (h : i < length s) where
    stopped : step l d (stands_at k lo w named) (get_or s i 0) ≡ stop → i ≡ from + scan l d start (drop from s)
    unfolding scan go_on
    stopped e =
        let z : scan l d (stands_at k lo w named) (drop i s) ≡ 0 = rw (drop-byte s i h) (ap (λ (n : Next). go_on n (λ t. scan l d t (drop (i + 1) s))) e) in
        omega (arith, v.tied)

    moved : (t : State) → step l d (stands_at k lo w named) (get_or s i 0) ≡ on t → from + scan l d start (drop from s) ≡ (i + 1) + scan l d t (drop (i + 1) s)
    unfolding scan go_on
    moved t e =
        let z : scan l d (stands_at k lo w named) (drop i s) ≡ suc (scan l d t (drop (i + 1) s)) =
        rw (drop-byte s i h) (ap (λ (n : Next). go_on n (λ t. scan l d t (drop (i + 1) s))) e) in
        omega (arith, v.tied)

    -- ---- the byte may not come

    pub stop-open : get_or s i 0 ≡ 40 → may_open l d k (get_or lo k 0) named ≡ false → i ≡ from + scan l d start (drop from s)
    stop-open e m = stopped (step-open l d k lo w named (get_or s i 0) e ∙ rw m)

    pub stop-shut : get_or s i 0 ≡ 41 → may_shut k (get_or lo k 0) (get_or w k 0) ≡ false → i ≡ from + scan l d start (drop from s)
    stop-shut e m = stopped (step-shut l d k lo w named (get_or s i 0) e ∙ rw m)

    pub stop-stand :
        (get_or s i 0 ≡ 40 → ⊥) → (get_or s i 0 ≡ 41 → ⊥) → may_stand l d k (get_or lo k 0) (get_or w k 0) (get_or s i 0) ≡ false →
        i ≡ from + scan l d start (drop from s)
    stop-stand n n' m = stopped (step-stand l d k lo w named (get_or s i 0) n n' ∙ rw m)

    -- ---- it is gone over

    pub go-open :
        d ≤ 15 → get_or s i 0 ≡ 40 → may_open l d k (get_or lo k 0) named ≡ true →
        Inv s from l d (set lo (k + 1) 0) (set (set w k (get_or w k 0 - 1)) (k + 1) 0) (k + 1) false (i + 1)
    go-open h₁ e m =
        record {
          after-from = omega (arith, v.after-from);
          before-end = omega arith;
          deep = omega (arith, h₂);
          lows = length-set lo (k + 1) 0 ∙ v.lows;
          wide = length-set (set w k (get_or w k 0 - 1)) (k + 1) 0 ∙ length-set w k (get_or w k 0 - 1) ∙ v.wide;
          sane = sane';
          one = λ q. let y : ◌≡◌ {A = ℕ} 0 1 = cc in omega arith;
          tied = moved (stands_at (k + 1) lo' w' false) (step-open l d k lo w named (get_or s i 0) e ∙ rw m (ap on same));
        }
      where
        h₂ : k < d
        h₂ = open-deeper l d k (get_or lo k 0) named m

        lo' : List ℕ
        lo' = set lo (k + 1) 0

        w'' : List ℕ
        w'' = set w k (get_or w k 0 - 1)

        w' : List ℕ
        w' = set w'' (k + 1) 0

        lo-k : get_or lo' k 0 ≡ get_or lo k 0
        lo-k = get_or-set_other lo (k + 1) k 0 0 (λ q. omega arith)

        w-k : get_or w' k 0 ≡ get_or w k 0 - 1
        w-k = get_or-set_other w'' (k + 1) k 0 0 (λ q. omega arith) ∙ get_or-set_same w k (get_or w k 0 - 1) 0 (omega (arith, v.wide, h₂))

        lo-1 : get_or lo' (k + 1) 0 ≡ 0
        lo-1 = get_or-set_same lo (k + 1) 0 0 (omega (arith, v.lows, h₂))

        w_1 : get_or w' (k + 1) 0 ≡ 0
        w_1 = get_or-set_same w'' (k + 1) 0 0 (omega (arith, v.wide, length-set w k (get_or w k 0 - 1), h₂))

        below : stack k lo' w' ≡ stack k lo w
        below = stack_set k (k + 1) (k + 1) 0 0 lo w'' (omega arith) (omega arith) ∙ stack-set-whole k k (get_or w k 0 - 1) lo w (omega arith)

        same : at (frame (get_or lo k 0) (get_or w k 0 - 1) ∷ stack k lo w) 0 0 false ≡ stands_at (k + 1) lo' w' false
        same = cc (stack-more k lo' w', lo-k, w-k, lo-1, w_1, below)

        sane' : Sane (k + 1) lo' w'
        sane' j q =
            ⊎_elim
            (λ z.
            let x : get_or lo' j 0 ≡ 0 = ap (λ (y : ℕ). get_or lo' y 0) z ∙ lo-1 in
            let x' : get_or w' j 0 ≡ 0 = ap (λ (y : ℕ). get_or w' y 0) z ∙ w_1 in
            (omega arith, omega arith))
            (λ z.
            ⊎_elim
            (λ y.
            let x : get_or lo' j 0 ≡ get_or lo k 0 = ap (λ (x : ℕ). get_or lo' x 0) y ∙ lo-k in
            let x' : get_or w' j 0 ≡ get_or w k 0 - 1 = ap (λ (x : ℕ). get_or w' x 0) y ∙ w-k in
            (omega (arith, (v.sane k (omega arith)).0), omega (arith, (v.sane k (omega arith)).1)))
            (λ y.
            let x : get_or lo' j 0 ≡ get_or lo j 0 = get_or-set_other lo (k + 1) j 0 0 (λ x. omega arith) in
            let x' : get_or w' j 0 ≡ get_or w j 0 =
            get_or-set_other w'' (k + 1) j 0 0 (λ x. omega arith) ∙ get_or-set_other w k j (get_or w k 0 - 1) 0 (λ x. omega arith) in
            (omega (arith, (v.sane j (omega arith)).0), omega (arith, (v.sane j (omega arith)).1)))
            (eq-or-lt_of_le {n = j} {m = k} (omega arith)))
            (eq-or-lt_of_le q)

    pub go-shut : get_or s i 0 ≡ 41 → may_shut k (get_or lo k 0) (get_or w k 0) ≡ true → Inv s from l d lo w (k - 1) false (i + 1)
    go-shut e m =
        record {
          after-from = omega (arith, v.after-from);
          before-end = omega arith;
          deep = omega (arith, v.deep);
          lows = v.lows;
          wide = v.wide;
          sane = λ j q. v.sane j (omega arith);
          one = λ q. let y : ◌≡◌ {A = ℕ} 0 1 = cc in omega arith;
          tied = moved (stands_at (k - 1) lo w false) (step-shut l d k lo w named (get_or s i 0) e ∙ rw m);
        }

    pub go-stand :
        d ≤ 15 → (get_or s i 0 ≡ 40 → ⊥) → (get_or s i 0 ≡ 41 → ⊥) → may_stand l d k (get_or lo k 0) (get_or w k 0) (get_or s i 0) ≡ true →
        {c : ℕ} → c ≡ get_or s i 0 - first (here_of l k) → Inv s from l d (set lo k (c + 1)) (set w k (get_or w k 0 + 1)) k true (i + 1)
    go-stand h₁ n n' m {c} ec =
        record {
          after-from = omega (arith, v.after-from);
          before-end = omega arith;
          deep = v.deep;
          lows = length-set lo k (c + 1) ∙ v.lows;
          wide = length-set w k (get_or w k 0 + 1) ∙ v.wide;
          sane = sane';
          one = λ q. omega (arith, w-k);
          tied = moved (stands_at k lo' w' true) (step-stand l d k lo w named (get_or s i 0) n n' ∙ rw m (ap on same));
        }
      where
        lo' : List ℕ
        lo' = set lo k (c + 1)

        w' : List ℕ
        w' = set w k (get_or w k 0 + 1)

        from_low : get_or lo k 0 ≤ c
        from_low = omega (arith, stand-from l d k (get_or lo k 0) (get_or w k 0) (get_or s i 0) m)

        to-nine : c < 9
        to-nine =
            omega (arith, stand-from l d k (get_or lo k 0) (get_or w k 0) (get_or s i 0) m, stand-below l d k (get_or lo k 0) (get_or w k 0) (get_or s i 0) m, many-most (here_of l k))

        lo-k : get_or lo' k 0 ≡ c + 1
        lo-k = get_or-set_same lo k (c + 1) 0 (omega (arith, v.lows, v.deep))

        w-k : get_or w' k 0 ≡ get_or w k 0 + 1
        w-k = get_or-set_same w k (get_or w k 0 + 1) 0 (omega (arith, v.wide, v.deep))

        same : at (stack k lo w) (suc (get_or s i 0 - first (here_of l k))) (suc (get_or w k 0)) true ≡ stands_at k lo' w' true
        same =
            rw (
              ← ec,
              lo-k,
              w-k,
              stack_set k k k (c + 1) (get_or w k 0 + 1) lo w (omega arith) (omega arith),
              add-one c,
              add-one (get_or w k 0),
            )

        sane' : Sane k lo' w'
        sane' j q =
            ⊎_elim
            (λ z.
            let x : get_or lo' j 0 ≡ c + 1 = ap (λ (y : ℕ). get_or lo' y 0) z ∙ lo-k in
            let x' : get_or w' j 0 ≡ get_or w k 0 + 1 = ap (λ (y : ℕ). get_or w' y 0) z ∙ w-k in
            (omega (arith, (v.sane k (omega arith)).0, from_low), omega (arith, to-nine)))
            (λ z.
            rw (get_or-set_other lo k j (c + 1) 0 (λ x. omega arith), get_or-set_other w k j (get_or w k 0 + 1) 0 (λ x. omega arith))
            (v.sane j (omega arith)))
            (eq-or-lt_of_le q)
