-- Weaving and taking apart are inverse to each other. Both read a number digit by digit, and what is true of any such reading is shown once.
-- Assumes nothing.
use Rattle.std.specs.Prelude.{◌≡◌, refl}
use Rattle.std.proofs.Common.{sym, ap, ◌∙◌, add_comm, add-mul, suc-mul, mul_assoc, mul_comm, mul-le-mul_right, zero-lt-suc, div-one, div-add-mod'}
use Rattle.std.proofs.Math.Path.{ap₂}
use Prim.Native.Nat.{ℕ, zero, suc, ◌+◌, ◌-◌, ◌*◌, ◌/◌, ◌%◌, ◌^◌, ◌<◌}
use Rattle.std.proofs.Math.Nat.{mul-add-div_right, mul-add-mod_self_right, one-le-pow, pow-zero, pow-suc, zero-div, zero-mod, div-eq_of_lt, div-div-eq-div-mul}
use native.Mathlib.Omega.{arith}
use Rattle.std.proofs.Math.Arith.{digits_div}
use Rattle.ternary.specs.Weave.{weave, row_in, column_in}

-- ---- the last k digits of a number in base b, each standing for a digit of base c

record Reads (b c : ℕ) (digit : ℕ → ℕ) (read : ℕ → ℕ → ℕ) : Type 0 where
  positive : 0 < b
  small : (x : ℕ) → digit (x % b) < c
  nought : digit 0 ≡ 0
  none : (x : ℕ) → read 0 x ≡ 0
  next : (k x : ℕ) → read (suc k) x ≡ read k (x / b) * c + digit (x % b)

module _ {b c : ℕ} {digit : ℕ → ℕ} {read : ℕ → ℕ → ℕ} (s : Reads b c digit read) where
  read_small : (k x : ℕ) → read k x < c ^ k
  read_small zero x = omega (arith, s.none x, pow-zero c)
  read_small (suc k) x =
      omega (arith, s.next k x, s.small x, mul-le-mul_right c (read_small k (x / b)), suc-mul (read k (x / b)) c, pow-suc c k)

  -- the last r digits, and those before them
  read-split : (k r x : ℕ) → read (k + r) x ≡ read k (x / b ^ r) * c ^ r + read r x
  read-split k zero x =
      let e : k + 0 ≡ k = omega arith in
      let w : read k (x / b ^ 0) * c ^ 0 ≡ read k x * 1 = ap₂ (λ (y z : ℕ). read k y * z) (ap (λ (y : ℕ). x / y) (pow-zero b) ∙ div-one x) (pow-zero c) in
      ap (λ (n : ℕ). read n x) e ∙ omega (arith, s.none x)
  read-split k (suc r) x =
      let e : k + suc r ≡ suc (k + r) = omega arith in
      let w : ℕ = read k (x / b / b ^ r) in
      let further : x / b ^ suc r ≡ x / b / b ^ r = ap (λ (y : ℕ). x / y) (pow-suc b r ∙ mul_comm (b ^ r) b) ∙ sym (div-div-eq-div-mul x b (b ^ r)) in
      let m : read k (x / b ^ suc r) * c ^ suc r ≡ w * c ^ r * c = ap₂ ◌*◌ (ap (read k) further) (pow-suc c r) ∙ sym (mul_assoc w (c ^ r) c) in
      let h : read (k + r) (x / b) * c ≡ (w * c ^ r + read r (x / b)) * c = ap (λ (y : ℕ). y * c) (read-split k r (x / b)) in
      ap (λ (n : ℕ). read n x) e ∙ omega (arith, s.next (k + r) x, s.next r x, add-mul (w * c ^ r) (read r (x / b)) c)

  -- what stands before the last r digits does not count
  read-before : (r q x : ℕ) → read r (q * b ^ r + x) ≡ read r x
  read-before zero q x = s.none (q * b ^ 0 + x) ∙ sym (s.none x)
  read-before (suc r) q x =
      let y : ℕ = q * b ^ r * b + x in
      let e : q * b ^ suc r ≡ q * b ^ r * b = ap (λ (z : ℕ). q * z) (pow-suc b r) ∙ sym (mul_assoc q (b ^ r) b) in
      ap (λ (z : ℕ). read (suc r) (z + x)) e
      ∙ s.next r y
      ∙ ap₂ (λ (u v : ℕ). read r u * c + digit v) (mul-add-div_right s.positive (q * b ^ r) x) (mul-add-mod_self_right (q * b ^ r) b x)
      ∙ ap (λ (z : ℕ). z * c + digit (x % b)) (read-before r q (x / b))
      ∙ sym (s.next r x)

  read-last : (r x : ℕ) → read r (x % b ^ r) ≡ read r x
  read-last r x = sym (read-before r (x / b ^ r) (x % b ^ r)) ∙ ap (read r) (div-add-mod' x (b ^ r))

  -- zeros before the digits change nothing
  read-zeros : (r : ℕ) → read r 0 ≡ 0
  read-zeros zero = s.none 0
  read-zeros (suc r) =
      s.next r 0
      ∙ ap₂ (λ (u v : ℕ). read r u * c + digit v) (zero-div b) (zero-mod b)
      ∙ ap₂ (λ (u v : ℕ). u * c + v) (read-zeros r) s.nought
      ∙ omega arith

  read_more : (k r x : ℕ) → x < b ^ k → read (r + k) x ≡ read k x
  read_more k r x h =
      read-split r k x ∙ ap (λ (y : ℕ). y * c ^ k + read k x) (ap (read r) (div-eq_of_lt h) ∙ read-zeros r) ∙ omega arith

-- ---- the row and the column of a path

row_reads : Reads 9 3 (λ d. d / 3) row_in
unfolding row_in
row_reads = record { positive = omega arith; small = λ x. omega arith; nought = refl; none = λ x. refl; next = λ k x. refl }

column-reads : Reads 9 3 (λ d. d % 3) column_in
unfolding column_in
column-reads = record { positive = omega arith; small = λ x. omega arith; nought = refl; none = λ x. refl; next = λ k x. omega arith }

pub row_small : (k p : ℕ) → row_in k p < 3 ^ k
row_small = read_small row_reads

pub column-small : (k p : ℕ) → column_in k p < 3 ^ k
column-small = read_small column-reads

pub row-split : (k r p : ℕ) → row_in (k + r) p ≡ row_in k (p / 9 ^ r) * 3 ^ r + row_in r p
row-split = read-split row_reads

pub column-split : (k r p : ℕ) → column_in (k + r) p ≡ column_in k (p / 9 ^ r) * 3 ^ r + column_in r p
column-split = read-split column-reads

pub row_last : (r p : ℕ) → row_in r (p % 9 ^ r) ≡ row_in r p
row_last = read-last row_reads

pub column-last : (r p : ℕ) → column_in r (p % 9 ^ r) ≡ column_in r p
column-last = read-last column-reads

pub row_more : (k r p : ℕ) → p < 9 ^ k → row_in (r + k) p ≡ row_in k p
row_more = read_more row_reads

pub column-more : (k r p : ℕ) → p < 9 ^ k → column_in (r + k) p ≡ column_in k p
column-more = read_more column-reads

-- ---- weaving

pub weave-small : (k i j : ℕ) → weave k i j < 9 ^ k
unfolding weave
weave-small zero i j = omega arith
weave-small (suc k) i j = let h = weave-small k (i / 3) (j / 3) in omega (arith, pow-suc 9 k)

-- the digits of the row and those of the column, each by itself
pub weave-apart : (k i j : ℕ) → weave k i j ≡ 3 * weave k 0 i + weave k 0 j
unfolding weave
weave-apart zero i j = refl
weave-apart (suc k) i j = let h = weave-apart k (i / 3) (j / 3) in omega arith

weave-reads : Reads 3 9 (λ d. d) (λ k x. weave k 0 x)
unfolding weave
weave-reads = record { positive = omega arith; small = λ x. omega arith; nought = refl; none = λ x. refl; next = λ k x. omega arith }

pub weave_last : (r x : ℕ) → weave r 0 (x % 3 ^ r) ≡ weave r 0 x
weave_last = read-last weave-reads

-- the path of the last r digits, and that of the digits before them
pub weave_split : (k r i j : ℕ) → weave (k + r) i j ≡ weave k (i / 3 ^ r) (j / 3 ^ r) * 9 ^ r + weave r i j
weave_split k r i j =
    let x : ℕ = weave k 0 (i / 3 ^ r) in
    let y : ℕ = weave k 0 (j / 3 ^ r) in
    let e : weave k (i / 3 ^ r) (j / 3 ^ r) * 9 ^ r ≡ (3 * x + y) * 9 ^ r = ap (λ (z : ℕ). z * 9 ^ r) (weave-apart k (i / 3 ^ r) (j / 3 ^ r)) in
    omega (
      arith,
      weave-apart (k + r) i j,
      weave-apart r i j,
      read-split weave-reads k r i,
      read-split weave-reads k r j,
      add-mul (3 * x) y (9 ^ r),
      mul_assoc 3 x (9 ^ r),
    )

-- the path without its last r digits is the path of the row and the column without theirs
pub weave-prefix : (k r i j : ℕ) → weave (k + r) i j / 9 ^ r ≡ weave k (i / 3 ^ r) (j / 3 ^ r)
weave-prefix k r i j = ap (λ (x : ℕ). x / 9 ^ r) (weave_split k r i j) ∙ digits_div (weave k (i / 3 ^ r) (j / 3 ^ r)) (weave-small r i j)

pub weave_more : (k r i j : ℕ) → i < 3 ^ k → j < 3 ^ k → weave (k + r) i j ≡ weave k i j
weave_more k r i j hi hj =
    ap (λ (n : ℕ). weave n i j) (add_comm k r)
    ∙ weave-apart (r + k) i j
    ∙ ap₂ (λ (x y : ℕ). 3 * x + y) (read_more weave-reads k r i hi) (read_more weave-reads k r j hj)
    ∙ sym (weave-apart k i j)

-- zeros behind the row's digits and the column's are zeros behind those of the path
pub weave-shift : (k r i j : ℕ) → weave (k + r) (i * 3 ^ r) (j * 3 ^ r) ≡ weave k i j * 9 ^ r
weave-shift k r i j =
    let same : (x : ℕ) → x * 3 ^ r ≡ x * 3 ^ r + 0 = λ x. omega arith in
    let cut : (x : ℕ) → x * 3 ^ r / 3 ^ r ≡ x = λ x. ap (λ (y : ℕ). y / 3 ^ r) (same x) ∙ digits_div x (one-le-pow r 3 (zero-lt-suc 2)) in
    let none : (x : ℕ) → weave r 0 (x * 3 ^ r) ≡ 0 = λ x. ap (weave r 0) (same x) ∙ read-before weave-reads r x 0 ∙ read-zeros weave-reads r in
    let e : weave k (i * 3 ^ r / 3 ^ r) (j * 3 ^ r / 3 ^ r) * 9 ^ r ≡ weave k i j * 9 ^ r = ap₂ (λ (x y : ℕ). weave k x y * 9 ^ r) (cut i) (cut j) in
    let a = none i in
    let b = none j in
    omega (arith, weave_split k r (i * 3 ^ r) (j * 3 ^ r), weave-apart r (i * 3 ^ r) (j * 3 ^ r))

-- a row or a column at resolution 15 as a part of 2^56: in its first part, rounded up, it is found again
pub cell-part : (x : ℕ) → x < 14348907 → (x * 5021817623 < 72057594037927936) × (x * 5021817623 * 14348907 / 72057594037927936 ≡ x)
cell-part x h = (omega arith, (let e : x * 5021817623 * 14348907 ≡ x * 72057594037927936 + x * 5460125 = omega arith in omega arith))

-- ---- there and back

-- the row or the column of a woven path
module _ {digit : ℕ → ℕ} {read : ℕ → ℕ → ℕ} (pick : ℕ → ℕ → ℕ) (s : Reads 9 3 digit read) (same : (i j : ℕ) → digit (3 * (i % 3) + j % 3) ≡ pick i j % 3)
    (third : (i j : ℕ) → pick i j / 3 ≡ pick (i / 3) (j / 3)) where
  read-weave : (k i j : ℕ) → pick i j < 3 ^ k → read k (weave k i j) ≡ pick i j
  unfolding weave
  read-weave zero i j h = s.none 0 ∙ omega arith
  read-weave (suc k) i j h =
      let w : ℕ = weave k (i / 3) (j / 3) in
      let d : ℕ = 3 * (i % 3) + j % 3 in
      let q : (w * 9 + d) / 9 ≡ w = omega arith in
      let r : (w * 9 + d) % 9 ≡ d = omega arith in
      let e : read k w ≡ pick (i / 3) (j / 3) = read-weave k (i / 3) (j / 3) (omega (arith, third i j, pow-suc 3 k)) in
      s.next k (w * 9 + d) ∙ ap₂ (λ (x y : ℕ). read k x * 3 + digit y) q r ∙ omega (arith, same i j, third i j)

pub row-weave : (k i j : ℕ) → i < 3 ^ k → row_in k (weave k i j) ≡ i
row-weave = read-weave (λ i j. i) row_reads (λ i j. omega arith) (λ i j. refl)

pub column-weave : (k i j : ℕ) → j < 3 ^ k → column_in k (weave k i j) ≡ j
column-weave = read-weave (λ i j. j) column-reads (λ i j. omega arith) (λ i j. refl)

-- the path of a row and a column taken from it
pub weave-row : (k p : ℕ) → p < 9 ^ k → weave k (row_in k p) (column_in k p) ≡ p
unfolding row_in column_in weave
weave-row zero p h = omega arith
weave-row (suc k) p h =
    let x = row_in k (p / 9) in
    let y = column_in k (p / 9) in
    let i : (x * 3 + p % 9 / 3) / 3 ≡ x = omega arith in
    let j : (y * 3 + p % 3) / 3 ≡ y = omega arith in
    let e : weave k x y ≡ p / 9 = weave-row k (p / 9) (omega (arith, pow-suc 9 k)) in
    ap₂ (λ (a b : ℕ). weave k a b * 9 + (3 * ((x * 3 + p % 9 / 3) % 3) + (y * 3 + p % 3) % 3)) i j ∙ (omega arith)

-- one path, one row and one column
pub weave-one : (k i j a b : ℕ) → i < 3 ^ k → j < 3 ^ k → a < 3 ^ k → b < 3 ^ k → weave k i j ≡ weave k a b → (i ≡ a) × (j ≡ b)
weave-one k i j a b hi hj ha hb e =
    (sym (row-weave k i j hi) ∙ ap (row_in k) e ∙ row-weave k a b ha, sym (column-weave k i j hj) ∙ ap (column_in k) e ∙ column-weave k a b hb)
