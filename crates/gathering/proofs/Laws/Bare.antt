-- No nine siblings are in a gathered list whose cells come in turn. Assumes nothing.
use Rattle.std.specs.Prelude.{◌≡◌, Bool, true, false, ◌⊎◌, eqb, ltb}
use Rattle.std.proofs.Math.Path.{refl, sym, ap, ap₂, subst}
use Rattle.std.proofs.Common.{◌∙◌, inl, inr, pow-suc, suc-mul, mul_comm, mul-le-mul_right, length-append, take_all, lt-ltb, eq-eqb}
use Rattle.std.proofs.Math.Bool.{◌&&◌}
use Rattle.std.proofs.Math.Logic.{⊎_elim}
use mathlib.Core.List.{List, [], ◌∷◌, ◌++◌, map}
use Prim.Native.Nat.{ℕ, zero, suc, ◌+◌, ◌-◌, ◌*◌, ◌/◌, ◌%◌, ◌^◌, ◌≤◌, ◌<◌}
use native.Mathlib.Omega.{arith}
use Rattle.std.proofs.Math.ListN.{length, take, get_or}
use Rattle.std.proofs.Math.Seq.{take-suc}
use Rattle.logic.specs.Lists.{All, Any, Mem}
use Rattle.logic.specs.Laws.Lists.{any-or, any-right, mem-all, all-each}
use Rattle.logic.specs.Laws.Order.{lt-or}
use Rattle.logic.specs.Laws.Bools.{clash}
use Rattle.ternary.specs.Digits.{value}
use Rattle.ternary.proofs.Laws.Digits.{split_one, value-snoc}
use Rattle.ternary.proofs.Laws.Powers.{nine-pos}
use Rattle.cell.specs.declared.Cell.{Cell}
use Rattle.cell.specs.declared.Arrangement.{Arrangement}
use Rattle.cell.specs.Cell.{IsCell, IsArrangement}
use Rattle.code.specs.Code.{cell_of, is_code, is_of, arrangement_of, code_of, digits_of, path_of, size_of}
use Rattle.code.specs.Inside.{start_of, end_of}
use Rattle.code.specs.Number.{number_of, start_as, code_as, cell_code_as, cell_as}
use Rattle.code.proofs.Laws.Code.{length-digits-of, path-small, code-is-cell, code-cell, of-arrangement}
use Rattle.code.proofs.Laws.Inside.{size-pos}
use Rattle.code.proofs.Laws.Number.{code-as, as-cell}
use Rattle.reading.specs.Prefix.{Name, numbers_of, IsName}
use Rattle.reading.proofs.Laws.Named.{cell-is-named}
use Rattle.reading.proofs.Laws.Rising.{length-name}
use Rattle.writing.specs.Write.{Earlier, InTurn}
use Rattle.gathering.specs.Gather.{follows, merges}
use Rattle.gathering.proofs.Laws.Alike.{start-of, end-of}
use Rattle.gathering.proofs.Laws.Count.{NoNine}

-- codes of one arrangement
abbrev pub Own : Arrangement → List ℕ → Type 0
Own a xs = All (λ (c : ℕ). (is_code c ≡ true) × (is_of a c ≡ true)) xs

-- not all nine children of a cell are among these
abbrev pub Bare : Arrangement → List ℕ → Type 0
Bare a xs = (k m : ℕ) → k < 15 → m < 6 * 9 ^ k → ((d : ℕ) → d < 9 → Mem (code_as a (suc k) (9 * m + d)) xs) → ⊥

-- ---- a list with one more behind

earlier-put : (n : ℕ) (xs : List ℕ) (c : ℕ) → Earlier n (map cell_of (xs ++ (c ∷ []))) → Earlier n (map cell_of xs) × (n ≤ start_of (cell_of c))
earlier-put n [] c e = (tt, e.0)
earlier-put n (x ∷ xs) c e = let r = earlier-put n xs c e.1 in ((e.0, r.0), r.1)

pub turn-put : (xs : List ℕ) (c : ℕ) → InTurn (map cell_of (xs ++ (c ∷ []))) → InTurn (map cell_of xs) × All (λ (x : ℕ). end_of (cell_of x) ≤ start_of (cell_of c)) xs
turn-put [] c t = (tt, tt)
turn-put (x ∷ xs) c t =
    let e = earlier-put (end_of (cell_of x)) xs c t.0 in
    let r = turn-put xs c t.1 in
    ((e.0, r.0), (e.1, r.1))

mem-put : (xs : List ℕ) (c y : ℕ) → Mem y (xs ++ (c ∷ [])) → Mem y xs ⊎ (c ≡ y)
mem-put xs c y i = ⊎_elim (λ k. inl k) (⊎_elim (λ k. inr k) (λ k. absurd k)) (any-or (λ (x : ℕ). x ≡ y) xs (c ∷ []) i)

all-put : (P : ℕ → Type 0) (xs : List ℕ) (c : ℕ) → All P (xs ++ (c ∷ [])) → P c
all-put P xs c a = mem-all P (xs ++ (c ∷ [])) c a (any-right (λ (x : ℕ). x ≡ c) xs (c ∷ []) (inl refl))

mem-take : (n : ℕ) (xs : List ℕ) (y : ℕ) → Mem y (take n xs) → Mem y xs
mem-take zero xs y i = absurd i
mem-take (suc n) [] y i = absurd i
mem-take (suc n) (x ∷ xs) y (inl e) = inl e
mem-take (suc n) (x ∷ xs) y (inr i) = inr (mem-take n xs y i)

pub bare-take : (a : Arrangement) (n : ℕ) (xs : List ℕ) → Bare a xs → Bare a (take n xs)
bare-take a n xs b k m h l f = b k m h l (λ d i. mem-take n xs (code_as a (suc k) (9 * m + d)) (f d i))

some-length : (xs : List ℕ) (y : ℕ) → Mem y xs → 0 < length xs
some-length [] y i = absurd i
some-length (x ∷ xs) y i = omega arith

-- ---- one code, one resolution and number

same-fine : (a : Arrangement) (k n k' n' : ℕ) → k ≤ 15 → k' ≤ 15 → code_as a k n ≡ code_as a k' n' → k ≡ k'
unfolding code_as cell_code_as
same-fine a k n k' n' h h' e = (split_one 16 k k' (start_as k n) (start_as k' n') (omega arith) (omega arith) (omega arith)).1

other-code : (a : Arrangement) (k i j : ℕ) → i < j → code_as a k i ≡ code_as a k j → ⊥
unfolding code_as cell_code_as start_as
other-code a k i j h e =
    let z : ℕ = 9 ^ (15 - k) in
    let b : suc i * z ≤ j * z = mul-le-mul_right {m = suc i} {n = j} z h in
    omega (arith, suc-mul i z, nine-pos (15 - k))

same_number : (a : Arrangement) (k i j : ℕ) → code_as a k i ≡ code_as a k j → i ≡ j
same_number a k i j e =
    ⊎_elim (λ h. absurd (other-code a k i j h e)) (λ h. ⊎_elim (λ l. absurd (other-code a k j i l (sym e))) (λ l. omega arith) (lt-or j i)) (lt-or i j)

module _ {a : Arrangement} (g : IsArrangement a) (k : ℕ) (h : k ≤ 15) where
  abbrev z : ℕ
  z = 9 ^ (15 - k)

  code-start : (n : ℕ) → n < 6 * 9 ^ k → start_of (cell_of (code_as a k n)) ≡ n * z
  code-start n l = ap start_of (as-cell k n h l g) ∙ start-of k h n l

  code-end : (n : ℕ) → n < 6 * 9 ^ k → end_of (cell_of (code_as a k n)) ≡ suc n * z
  code-end n l = ap end_of (as-cell k n h l g) ∙ end-of k h n l

  -- the last of codes in turn that end no later is the one that ends there
  last-is :
      (n : ℕ) (ys : List ℕ) (c : ℕ) → n < 6 * 9 ^ k → InTurn (map cell_of (ys ++ (c ∷ []))) → All (λ (x : ℕ). end_of (cell_of x) ≤ suc n * z) (ys ++ (c ∷ [])) →
      Mem (code_as a k n) (ys ++ (c ∷ [])) → c ≡ code_as a k n
  unfolding end_of
  last-is n ys c l t e i =
      ⊎_elim
      (λ j.
      absurd
      (omega (
        arith,
        mem-all (λ (x : ℕ). end_of (cell_of x) ≤ start_of (cell_of c)) ys (code_as a k n) (turn-put ys c t).1 j,
        code-end n l,
        all-put (λ (x : ℕ). end_of (cell_of x) ≤ suc n * z) ys c e,
        size-pos (cell_of c),
      )))
      (λ j. j) (mem-put ys c (code_as a k n) i)

  -- codes in turn that end no later than d siblings among them end in these
  follows-held :
      (d m : ℕ) (xs : List ℕ) → m + d ≤ 6 * 9 ^ k → InTurn (map cell_of xs) → All (λ (x : ℕ). end_of (cell_of x) ≤ (m + d) * z) xs →
      ((i : ℕ) → i < d → Mem (code_as a k (m + i)) xs) → follows a k (m + d) d xs ≡ true
  unfolding follows
  follows-held zero m xs l t e f = refl
  follows-held (suc d) m xs l t e f =
      let n : ℕ = length xs - 1 in
      let ys : List ℕ = take n xs in
      let c : ℕ = get_or xs n 0 in
      let p : 0 < length xs = some-length xs (code_as a k (m + d)) (f d (omega arith)) in
      let o : xs ≡ ys ++ (c ∷ []) = sym (take_all (suc n) xs (omega arith)) ∙ take-suc xs n 0 (omega arith) in
      let t' : InTurn (map cell_of (ys ++ (c ∷ []))) = subst (λ (x : List ℕ). InTurn (map cell_of x)) o t in
      let s : (m + suc d) * z ≡ suc (m + d) * z = ap (λ (i : ℕ). i * z) (omega arith) in
      let e' : All (λ (x : ℕ). end_of (cell_of x) ≤ suc (m + d) * z) (ys ++ (c ∷ [])) =
      subst (All (λ (x : ℕ). end_of (cell_of x) ≤ suc (m + d) * z)) o
      (all-each (λ (x : ℕ). end_of (cell_of x) ≤ (m + suc d) * z) (λ (x : ℕ). end_of (cell_of x) ≤ suc (m + d) * z) (λ x u. omega arith) xs e) in
      let q : c ≡ code_as a k (m + d) = last-is (m + d) ys c (omega arith) t' e' (subst (Mem (code_as a k (m + d))) o (f d (omega arith))) in
      let w : start_of (cell_of c) ≡ (m + d) * z = ap (λ (x : ℕ). start_of (cell_of x)) q ∙ code-start (m + d) (omega arith) in
      let j : m + suc d - 1 ≡ m + d = omega arith in
      let r = follows-held d m ys (omega arith) (turn-put ys c t').0
      (all-each (λ (x : ℕ). end_of (cell_of x) ≤ start_of (cell_of c)) (λ (x : ℕ). end_of (cell_of x) ≤ (m + d) * z) (λ x u. omega arith) ys (turn-put ys c t').1)
      (λ i u.
      ⊎_elim (λ v. v) (λ v. absurd (other-code a k (m + i) (m + d) (omega arith) (sym v ∙ q)))
      (mem-put ys c (code_as a k (m + i)) (subst (Mem (code_as a k (m + i))) o (f i (omega arith))))) in
      ap₂ ◌&&◌ (lt-ltb 0 (length xs) p)
      (ap₂ ◌&&◌ (eq-eqb c (code_as a k (m + suc d - 1)) (q ∙ ap (code_as a k) (sym j))) (ap (λ (i : ℕ). follows a k i d ys) j ∙ r))

-- ---- a code behind a bare list

module _ {a : Arrangement} (g : IsArrangement a) (xs : List ℕ) where
  -- the ninth sibling, the others before it
  module _ (k m : ℕ) (h : k < 15) (l : m < 6 * 9 ^ k) where
    abbrev child : ℕ → ℕ
    child d = code_as a (suc k) (9 * m + d)

    fits : 9 * m + 9 ≤ 6 * 9 ^ suc k
    fits = let e : 9 ^ suc k ≡ 9 ^ k * 9 = pow-suc 9 k in omega arith

    ninth : InTurn (map cell_of (xs ++ (child 8 ∷ []))) → ((d : ℕ) → d < 8 → Mem (child d) xs) → merges a (suc k) (9 * m + 8) xs ≡ true
    unfolding merges
    ninth t f =
        let p = turn-put xs (child 8) t in
        let s : start_of (cell_of (child 8)) ≡ (9 * m + 8) * 9 ^ (15 - suc k) = code-start g (suc k) h (9 * m + 8) (omega (arith, fits)) in
        ap₂ ◌&&◌ (lt-ltb 0 (suc k) (omega arith))
        (ap₂ ◌&&◌ (eq-eqb ((9 * m + 8) % 9) 8 (omega arith))
        (follows-held g (suc k) h 8 (9 * m) xs (omega (arith, fits)) p.0
        (all-each (λ (x : ℕ). end_of (cell_of x) ≤ start_of (cell_of (child 8))) (λ (x : ℕ). end_of (cell_of x) ≤ (9 * m + 8) * 9 ^ (15 - suc k)) (λ x u. omega arith) xs p.1) f))

    -- where the ninth is not the last, none is
    earlier-ninth : (c : ℕ) → InTurn (map cell_of (xs ++ (c ∷ []))) → Mem (child 8) xs → (d : ℕ) → d < 9 → c ≡ child d → ⊥
    earlier-ninth c t i d u e =
        let w : ℕ = 9 ^ (15 - suc k) in
        let p = mem-all (λ (x : ℕ). end_of (cell_of x) ≤ start_of (cell_of c)) xs (child 8) (turn-put xs c t).1 i in
        let s : start_of (cell_of c) ≡ (9 * m + d) * w = ap (λ (x : ℕ). start_of (cell_of x)) e ∙ code-start g (suc k) h (9 * m + d) (omega (arith, fits)) in
        let v : end_of (cell_of (child 8)) ≡ suc (9 * m + 8) * w = code-end g (suc k) h (9 * m + 8) (omega (arith, fits)) in
        let y : suc (9 * m + d) * w ≤ suc (9 * m + 8) * w = mul-le-mul_right {m = suc (9 * m + d)} {n = suc (9 * m + 8)} w (omega arith) in
        omega (arith, suc-mul (9 * m + d) w, nine-pos (15 - suc k))

  pub bare-put :
      (k n : ℕ) → k ≤ 15 → InTurn (map cell_of (xs ++ (code_as a k n ∷ []))) → merges a k n xs ≡ false → Bare a xs → Bare a (xs ++ (code_as a k n ∷ []))
  bare-put k n h t w b k' m h' l' f = ⊎_elim stands comes (mem-put xs c (child k' m h' l' 8) (f 8 (omega arith)))
    where
      c : ℕ
      c = code_as a k n

      stands : Mem (code_as a (suc k') (9 * m + 8)) xs → ⊥
      stands i =
          b k' m h' l'
          (λ d u. ⊎_elim (λ v. v) (λ v. absurd (earlier-ninth k' m h' l' (code_as a k n) t i d u v)) (mem-put xs (code_as a k n) (code_as a (suc k') (9 * m + d)) (f d u)))

      comes : code_as a k n ≡ code_as a (suc k') (9 * m + 8) → ⊥
      comes e =
          let p : k ≡ suc k' = same-fine a k n (suc k') (9 * m + 8) h h' e in
          let q : n ≡ 9 * m + 8 = same_number a (suc k') n (9 * m + 8) (sym (ap (λ (i : ℕ). code_as a i n) p) ∙ e) in
          let y : merges a (suc k') (9 * m + 8) xs ≡ true =
          ninth k' m h' l' (subst (λ (x : ℕ). InTurn (map cell_of (xs ++ (x ∷ [])))) e t)
          (λ d u.
          ⊎_elim (λ v. v) (λ v. absurd (other-code a (suc k') (9 * m + d) (9 * m + 8) (omega arith) (sym v ∙ e)))
          (mem-put xs (code_as a k n) (code_as a (suc k') (9 * m + d)) (f d (omega arith)))) in
          clash (sym y ∙ sym (ap₂ (λ (i j : ℕ). merges a i j xs) p q) ∙ w)

-- ---- as names

number-value : (c : Cell) → number_of c ≡ value 9 (numbers_of c)
unfolding number_of path_of numbers_of value
number-value c =
    let ds : List ℕ = digits_of c.resolution c.row c.column in
    ap (λ (i : ℕ). c.face * 9 ^ i + value 9 ds) (sym (length-digits-of c.resolution c.row c.column))

codes-named : (xs : List ℕ) (y : Name) → Mem y (map numbers_of (map cell_of xs)) → (c : ℕ) × Mem c xs × (numbers_of (cell_of c) ≡ y)
codes-named [] y i = absurd i
codes-named (x ∷ xs) y (inl e) = (x, inl refl, e)
codes-named (x ∷ xs) y (inr i) = let r = codes-named xs y i in (r.0, inr r.1, r.2)

pub number_small : (c : Cell) → IsCell c → number_of c < 6 * 9 ^ c.resolution
unfolding number_of
number_small c v =
    let m : suc c.face * 9 ^ c.resolution ≤ 6 * 9 ^ c.resolution = mul-le-mul_right {m = suc c.face} {n = 6} (9 ^ c.resolution) (omega (arith, v.faced)) in
    omega (arith, path-small c, suc-mul c.face (9 ^ c.resolution))

-- a code whose cell's name has d behind p
module _ (a : Arrangement) (c : ℕ) (i : is_code c ≡ true) (o : is_of a c ≡ true) (x : ℕ) (p : Name) (d : ℕ) (e : numbers_of (cell_of c) ≡ (x ∷ p) ++ (d ∷ [])) where
  abbrev cell : Cell
  cell = cell_of c

  its-fine : cell.resolution ≡ suc (length p)
  its-fine = omega (arith, length-name cell, ap length e, length-append (x ∷ p) (d ∷ []))

  its-number : number_of cell ≡ 9 * value 9 (x ∷ p) + d
  its-number = number-value cell ∙ ap (value 9) e ∙ value-snoc 9 (x ∷ p) d ∙ ap (λ (n : ℕ). n + d) (mul_comm (value 9 (x ∷ p)) 9)

  is-child : c ≡ code_as a (suc (length p)) (9 * value 9 (x ∷ p) + d)
  is-child =
      sym (code-cell c i) ∙ ap (λ (b : Arrangement). code_of b cell) (of-arrangement a c o) ∙ sym (code-as a cell (code-is-cell c i)) ∙ ap₂ (code_as a) its-fine its-number

  parent-fine : length p < 15
  parent-fine = omega (arith, its-fine, (code-is-cell c i).fine)

  parent-small : value 9 (x ∷ p) < 6 * 9 ^ length p
  parent-small =
      let s : number_of cell < 6 * 9 ^ cell.resolution = number_small cell (code-is-cell c i) in
      let q : 9 ^ cell.resolution ≡ 9 ^ length p * 9 = ap (λ (j : ℕ). 9 ^ j) its-fine ∙ pow-suc 9 (length p) in
      omega (arith, its-number)

pub bare-names : (a : Arrangement) (xs : List ℕ) → Own a xs → Bare a xs → NoNine (map numbers_of (map cell_of xs))
bare-names a xs o b [] f =
    let r = codes-named xs (8 ∷ []) (f 8 (omega arith)) in
    let w = mem-all (λ (c : ℕ). (is_code c ≡ true) × (is_of a c ≡ true)) xs r.0 o r.1 in
    let n : IsName 6 15 (8 ∷ []) = subst (IsName 6 15) r.2 (cell-is-named (cell_of r.0) (code-is-cell r.0 w.0)) in
    omega (arith, n.0)
bare-names a xs o b (x ∷ p) f = b (length p) (value 9 (x ∷ p)) (fine 0 (omega arith)) (small 0 (omega arith)) child
  where
    held : (d : ℕ) → d < 9 → (c : ℕ) × Mem c xs × (numbers_of (cell_of c) ≡ (x ∷ p) ++ (d ∷ []))
    held d u = codes-named xs ((x ∷ p) ++ (d ∷ [])) (f d u)

    own : (d : ℕ) (u : d < 9) → (is_code (held d u).0 ≡ true) × (is_of a (held d u).0 ≡ true)
    own d u = mem-all (λ (c : ℕ). (is_code c ≡ true) × (is_of a c ≡ true)) xs (held d u).0 o (held d u).1

    fine : (d : ℕ) → d < 9 → length p < 15
    fine d u = parent-fine a (held d u).0 (own d u).0 (own d u).1 x p d (held d u).2

    small : (d : ℕ) → d < 9 → value 9 (x ∷ p) < 6 * 9 ^ length p
    small d u = parent-small a (held d u).0 (own d u).0 (own d u).1 x p d (held d u).2

    child : (d : ℕ) → d < 9 → Mem (code_as a (suc (length p)) (9 * value 9 (x ∷ p) + d)) xs
    child d u = subst (λ (y : ℕ). Mem y xs) (is-child a (held d u).0 (own d u).0 (own d u).1 x p d (held d u).2) (held d u).1
