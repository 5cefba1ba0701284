-- Sums over the numbers below n, and how many of them pass a test. Assumes nothing.
use Rattle.std.specs.Prelude.{◌≡◌, refl, Bool, true, false, ◌&&◌, ◌||◌, ℕ, zero, suc, ◌+◌, ◌*◌, ◌≤◌, ◌<◌, leb, ltb, length, get_or}
use Rattle.std.proofs.Common.{sym, ap, ap₂, ◌∙◌, ⊎_elim, suc-mul, zero-mul, arith, le-leb, leb-true, lt-ltb, le-ltb, ltb-true}
use Rattle.std.proofs.lemmas.Bool.{lt-leb}
use Rattle.logic.specs.Laws.Bools.{clash, and_left, and_right, and_none}
use Rattle.logic.specs.Laws.Order.{lt-or}
use Rattle.counting.specs.Count.{total, bit, count_of, between, tabulate, sum_of}

-- ---- sums

pub total-same : (n : ℕ) (f g : ℕ → ℕ) → ((j : ℕ) → j < n → f j ≡ g j) → total n f ≡ total n g
unfolding total
total-same zero f g h = refl
total-same (suc n) f g h = ap₂ ◌+◌ (total-same n f g (λ j l. h j (omega arith))) (h n (omega arith))

pub total-plus : (n : ℕ) (f g : ℕ → ℕ) → total n (λ j. f j + g j) ≡ total n f + total n g
unfolding total
total-plus zero f g = refl
total-plus (suc n) f g = omega (arith, total-plus n f g)

pub total-zero : (n : ℕ) → total n (λ j. 0) ≡ 0
unfolding total
total-zero zero = refl
total-zero (suc n) = omega (arith, total-zero n)

pub total-one : (n : ℕ) → total n (λ j. 1) ≡ n
unfolding total
total-one zero = refl
total-one (suc n) = omega (arith, total-one n)

pub total-add : (m n : ℕ) (f : ℕ → ℕ) → total (m + n) f ≡ total m f + total n (λ j. f (m + j))
unfolding total
total-add m zero f = let e : m + 0 ≡ m = omega arith in let k : total (m + 0) f ≡ total m f = ap (λ (x : ℕ). total x f) e in omega arith
total-add m (suc n) f =
    let e : m + suc n ≡ suc (m + n) = omega arith in
    let k : total (m + suc n) f ≡ total (suc (m + n)) f = ap (λ (x : ℕ). total x f) e in
    omega (arith, total-add m n f)

-- m blocks of n
pub total-blocks : (m n : ℕ) (f : ℕ → ℕ) → total m (λ x. total n (λ j. f (x * n + j))) ≡ total (m * n) f
unfolding total
total-blocks zero n f = ap (λ (x : ℕ). total x f) (sym (zero-mul n))
total-blocks (suc m) n f =
    ap (λ (x : ℕ). x + total n (λ j. f (m * n + j))) (total-blocks m n f)
    ∙ sym (total-add (m * n) n f)
    ∙ ap (λ (x : ℕ). total x f) (sym (suc-mul m n))

-- ---- counts

bit-most : (b : Bool) → bit b ≤ 1
bit-most true = omega arith
bit-most false = omega arith

module _ (n from : ℕ) (test : ℕ → Bool) where
  pub count_none : ((y : ℕ) → from ≤ y → y < from + n → test y ≡ false) → count_of n from test ≡ 0
  count_none h = total-same n (λ j. bit (test (from + j))) (λ j. 0) (λ j l. ap bit (h (from + j) (omega arith) (omega arith))) ∙ total-zero n

  pub count-all : ((y : ℕ) → from ≤ y → y < from + n → test y ≡ true) → count_of n from test ≡ n
  count-all h = total-same n (λ j. bit (test (from + j))) (λ j. 1) (λ j l. ap bit (h (from + j) (omega arith) (omega arith))) ∙ total-one n

pub count_most : (n from : ℕ) (test : ℕ → Bool) → count_of n from test ≤ n
unfolding total
count_most zero from test = omega arith
count_most (suc n) from test = omega (arith, count_most n from test, bit-most (test (from + n)))

-- n of n numbers pass only where each does
pub all-counted : (n from : ℕ) (test : ℕ → Bool) → count_of n from test ≡ n → (j : ℕ) → j < n → test (from + j) ≡ true
unfolding total
all-counted zero from test e j l = absurd (omega arith)
all-counted (suc n) from test e j l =
    let m = count_most n from test in
    let b = bit-most (test (from + n)) in
    ⊎_elim (λ k. all-counted n from test (omega arith) j k) (λ k. ap (λ (i : ℕ). test (from + i)) {x = j} {y = n} (omega arith) ∙ go (test (from + n)) (omega arith)) (lt-or j n)
  where
    go : (t : Bool) → bit t ≡ 1 → t ≡ true
    go true e = refl
    go false e = absurd (omega arith)

pub count_same : (n from : ℕ) (p q : ℕ → Bool) → ((y : ℕ) → from ≤ y → y < from + n → p y ≡ q y) → count_of n from p ≡ count_of n from q
count_same n from p q h = total-same n (λ j. bit (p (from + j))) (λ j. bit (q (from + j))) (λ j l. ap bit (h (from + j) (omega arith) (omega arith)))

-- two tests that no number passes both of
pub count-either : (n from : ℕ) (p q : ℕ → Bool) → ((y : ℕ) → from ≤ y → y < from + n → p y ≡ true → q y ≡ false) → count_of n from (λ y. p y || q y) ≡ count_of n
    from p + count_of n from q
count-either n from p q h =
    total-same n (λ j. bit (p (from + j) || q (from + j))) (λ j. bit (p (from + j)) + bit (q (from + j)))
    (λ j l. go (p (from + j)) (q (from + j)) (h (from + j) (omega arith) (omega arith)))
    ∙ total-plus n (λ j. bit (p (from + j))) (λ j. bit (q (from + j)))
  where
    go : (a b : Bool) → (a ≡ true → b ≡ false) → bit (a || b) ≡ bit a + bit b
    go true true k = clash (k refl)
    go true false k = refl
    go false b k = omega arith

-- ---- the numbers from one to before another

pub between_in : (low high y : ℕ) → low ≤ y → y < high → between low high y ≡ true
between_in low high y a b = rw (le-leb low y a) (lt-ltb y high b)

pub between-below : (low high y : ℕ) → y < low → between low high y ≡ false
between-below low high y a = rw (lt-leb low y a)

pub between-above : (low high y : ℕ) → high ≤ y → between low high y ≡ false
between-above low high y a = ap (λ (b : Bool). leb low y && b) (le-ltb y high a) ∙ and_none (leb low y)

pub in_between : (low high y : ℕ) → between low high y ≡ true → (low ≤ y) × (y < high)
in_between low high y e =
    (leb-true low y (and_left (leb low y) (ltb y high) e), ltb-true y high (and_right (leb low y) (ltb y high) e))

-- z numbers that lie among the n from `from` on: a before them, b behind
pub count-between : (a z b from : ℕ) → count_of (a + (z + b)) from (between (from + a) (from + a + z)) ≡ z
count-between a z b from =
    let test : ℕ → Bool = between (from + a) (from + a + z) in
    let f : ℕ → ℕ = λ j. bit (test (from + j)) in
    let e : total (a + (z + b)) f ≡ total a f + (total z (λ j. f (a + j)) + total b (λ j. f (a + (z + j)))) =
    total-add a (z + b) f ∙ ap (λ (x : ℕ). total a f + x) (total-add z b (λ j. f (a + j))) in
    let before : total a f ≡ 0 = count_none a from test (λ y l h. between-below (from + a) (from + a + z) y h) in
    let inside : total z (λ j. f (a + j)) ≡ z =
    total-same z (λ j. f (a + j)) (λ j. 1) (λ j l. ap bit (between_in (from + a) (from + a + z) (from + (a + j)) (omega arith) (omega arith))) ∙ total-one z in
    let behind : total b (λ j. f (a + (z + j))) ≡ 0 =
    total-same b (λ j. f (a + (z + j))) (λ j. 0) (λ j l. ap bit (between-above (from + a) (from + a + z) (from + (a + (z + j))) (omega arith))) ∙ total-zero b in
    omega arith

-- of those, the ones that pass a test
pub count-part : (a z b : ℕ) (test : ℕ → Bool) → count_of (a + (z + b)) 0 (λ y. between a (a + z) y && test y) ≡ count_of z a test
count-part a z b test =
    let among : ℕ → Bool = λ y. between a (a + z) y && test y in
    let f : ℕ → ℕ = λ j. bit (among (0 + j)) in
    let e : total (a + (z + b)) f ≡ total a f + (total z (λ j. f (a + j)) + total b (λ j. f (a + (z + j)))) =
    total-add a (z + b) f ∙ ap (λ (x : ℕ). total a f + x) (total-add z b (λ j. f (a + j))) in
    let before : total a f ≡ 0 = count_none a 0 among (λ y l h. ap (λ (t : Bool). t && test y) (between-below a (a + z) y (omega arith))) in
    let inside : total z (λ j. f (a + j)) ≡ count_of z a test =
    total-same z (λ j. f (a + j)) (λ j. bit (test (a + j)))
    (λ j l.
    let i : 0 + (a + j) ≡ a + j = omega arith in
    ap (λ (x : ℕ). bit (among x)) i ∙ ap (λ (t : Bool). bit (t && test (a + j))) (between_in a (a + z) (a + j) (omega arith) (omega arith))) in
    let behind : total b (λ j. f (a + (z + j))) ≡ 0 =
    total-same b (λ j. f (a + (z + j))) (λ j. 0)
    (λ j l. ap (λ (t : Bool). bit (t && test (0 + (a + (z + j))))) (between-above a (a + z) (0 + (a + (z + j))) (omega arith))) ∙ total-zero b in
    omega arith

-- ---- a list of n values

pub length-tabulate : (n : ℕ) (f : ℕ → ℕ) → length (tabulate n f) ≡ n
unfolding tabulate
length-tabulate zero f = refl
length-tabulate (suc n) f = ap suc (length-tabulate n (λ i. f (suc i)))

pub at-tabulate : (n : ℕ) (f : ℕ → ℕ) (i : ℕ) → i < n → get_or (tabulate n f) i 0 ≡ f i
unfolding tabulate
at-tabulate zero f i h = absurd (omega arith)
at-tabulate (suc n) f zero h = refl
at-tabulate (suc n) f (suc i) h = at-tabulate n (λ j. f (suc j)) i (omega arith)

pub sum-tabulate : (n : ℕ) (f : ℕ → ℕ) → sum_of (tabulate n f) ≡ total n f
unfolding sum_of tabulate total
sum-tabulate zero f = refl
sum-tabulate (suc n) f =
    let e : total (1 + n) f ≡ total 1 f + total n (λ j. f (1 + j)) = total-add 1 n f in
    let k : total n (λ j. f (1 + j)) ≡ total n (λ j. f (suc j)) = total-same n (λ j. f (1 + j)) (λ j. f (suc j)) (λ j l. let i : 1 + j ≡ suc j = omega arith in ap f i) in
    let i : 1 + n ≡ suc n = omega arith in
    let m : total (1 + n) f ≡ total (suc n) f = ap (λ (x : ℕ). total x f) i in
    omega (arith, sum-tabulate n (λ i. f (suc i)))

-- one that passes is counted
pub count-some : (n from : ℕ) (test : ℕ → Bool) (j : ℕ) → j < n → test (from + j) ≡ true → 0 < count_of n from test
unfolding total
count-some zero from test j l e = absurd (omega arith)
count-some (suc n) from test j l e =
    ⊎_elim (λ k. omega (arith, count-some n from test j k e))
    (λ k. let i : j ≡ n = omega arith in let b : bit (test (from + n)) ≡ 1 = sym (ap (λ (x : ℕ). bit (test (from + x))) i) ∙ ap bit e in omega arith) (lt-or j n)
