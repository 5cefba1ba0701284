-- A number below 3^15 as a part of 3^15 in units: products with 27 bring its digits of base 27, the first one first. Assumes nothing.
use mathlib.Core.Path.{◌≡◌, sym, ap, ap₂, subst, ◌∙◌}
use Prim.Native.Nat.{ℕ, zero, suc, ◌+◌, ◌-◌, ◌*◌, ◌/◌, ◌%◌, ◌^◌, ◌≤◌, ◌<◌}
use native.Mathlib.Nat.{add-mul, mul_assoc, mul_right_comm, mul-add-div_right, div-add-mod', div-lt_iff_lt-mul, mul-lt-mul_of_pos_right, mul-le-mul_left, mul-add-mod_self_right, zero-add}
use native.Mathlib.Omega.{arith}
use lib.Arith.{digits_div, digits_mod}
use Rattle.ternary.specs.Weave.{weave}
use Rattle.ternary.proofs.Laws.Powers.{power_pos, power-add, nine-add, nine-pos}
use Rattle.ternary.proofs.Laws.Weave.{weave_split, weave-small}
use Rattle.ternary.proofs.Laws.Threes.{weave-last-both}

-- the number that `left` times three digits of a part stand for
abbrev pub share : (left part : ℕ) → ℕ
share left part = part * 3 ^ (3 * left) / 134217728

-- its first digit of base 27, and the rest
module _ (l a : ℕ) where
  whole : share (suc l) a ≡ a * 27 / 134217728 * 3 ^ (3 * l) + share l (a * 27 % 134217728)
  whole =
      let d : ℕ = 134217728 in
      let m : ℕ = 3 ^ (3 * l) in
      let q : ℕ = a * 27 / d in
      let f : ℕ = a * 27 % d in
      let k : 3 * suc l ≡ 3 + 3 * l = omega arith in
      let e : a * 3 ^ (3 * suc l) ≡ a * 27 * m = ap (λ (x : ℕ). a * 3 ^ x) k ∙ ap (λ (x : ℕ). a * x) (power-add 3 (3 * l)) ∙ sym (mul_assoc a 27 m) in
      let g : a * 27 * m ≡ q * m * d + f * m =
      ap (λ (x : ℕ). x * m) (sym (div-add-mod' (a * 27) d)) ∙ add-mul (q * d) f m ∙ ap (λ (x : ℕ). x + f * m) (mul_right_comm q d m) in
      ap (λ (x : ℕ). x / d) (e ∙ g) ∙ mul-add-div_right {m = d} (omega arith) (q * m) (f * m)

  rest-small : share l (a * 27 % 134217728) < 3 ^ (3 * l)
  rest-small =
      let m : ℕ = 3 ^ (3 * l) in
      let f : ℕ = a * 27 % 134217728 in
      let h : f < 134217728 = omega arith in
      let p : f * m < 134217728 * m = mul-lt-mul_of_pos_right h (power_pos (3 * l)) in
      (div-lt_iff_lt-mul {k = 134217728} {x = f * m} {y = m} (omega arith)).1 (omega arith)

  pub share-first : share (suc l) a / 3 ^ (3 * l) ≡ a * 27 / 134217728
  share-first = ap (λ (x : ℕ). x / 3 ^ (3 * l)) whole ∙ digits_div (a * 27 / 134217728) rest-small

  pub share-rest : share (suc l) a % 3 ^ (3 * l) ≡ share l (a * 27 % 134217728)
  share-rest = ap (λ (x : ℕ). x % 3 ^ (3 * l)) whole ∙ digits_mod (a * 27 / 134217728) rest-small

-- the path of two parts: the first three digits, and those of the rests
pub shares-woven :
    (l a b : ℕ) →
    weave (3 * suc l) (share (suc l) a) (share (suc l) b)
    ≡ weave 3 (a * 27 / 134217728) (b * 27 / 134217728) * 9 ^ (3 * l) + weave (3 * l) (share l (a * 27 % 134217728)) (share l (b * 27 % 134217728))
shares-woven l a b =
    let k : 3 * suc l ≡ 3 + 3 * l = omega arith in
    let x : ℕ = share (suc l) a in
    let y : ℕ = share (suc l) b in
    ap (λ (n : ℕ). weave n x y) k
    ∙ weave_split 3 (3 * l) x y
    ∙ ap₂ (λ (u v : ℕ). u * 9 ^ (3 * l) + v) (ap₂ (weave 3) (share-first l a) (share-first l b))
    (sym (weave-last-both (3 * l) x y) ∙ ap₂ (weave (3 * l)) (share-rest l a) (share-rest l b))

-- with two parts in one number, `left` times three digits to go, and a path of those before
pub record Goes (row column left rest path : ℕ) : Type 0 where
  pub first : rest / 4294967296 < 134217728
  pub second : rest % 4294967296 < 134217728
  pub woven : path * 9 ^ (3 * left) + weave (3 * left) (share left (rest / 4294967296)) (share left (rest % 4294967296)) ≡ weave 15 row column

pub goes-start : {row column a b : ℕ} → a < 134217728 → b < 134217728 → share 5 a ≡ row → share 5 b ≡ column → Goes row column 5 (a * 4294967296 + b) 0
goes-start {row} {column} {a} {b} h k e f =
    let i : (a * 4294967296 + b) / 4294967296 ≡ a = omega arith in
    let j : (a * 4294967296 + b) % 4294967296 ≡ b = omega arith in
    let w : weave 15 (share 5 ((a * 4294967296 + b) / 4294967296)) (share 5 ((a * 4294967296 + b) % 4294967296)) ≡ weave 15 row column =
    ap₂ (λ (x y : ℕ). weave 15 (share 5 x) (share 5 y)) i j ∙ ap₂ (weave 15) e f in
    record { first = omega arith; second = omega arith; woven = zero-add _ ∙ w }

-- what is left of both
abbrev pub rest_of : ℕ → ℕ
rest_of next = next / 4294967296 % 134217728 * 4294967296 + next % 134217728

-- two products in one number
module _ (a b : ℕ) {n : ℕ} (h : b < 4294967296) (e : n ≡ a * 4294967296 + b) where
  high : n / 4294967296 ≡ a
  high = ap (λ (x : ℕ). x / 4294967296) e ∙ digits_div a h

  low : n % 134217728 ≡ b % 134217728
  low = let f : n ≡ a * 32 * 134217728 + b = omega arith in ap (λ (x : ℕ). x % 134217728) f ∙ mul-add-mod_self_right (a * 32) 134217728 b

  high-digits : n / 576460752303423488 ≡ a / 134217728
  high-digits = omega arith

  low-digits : n / 134217728 % 32 ≡ b / 134217728
  low-digits = let o : n / 134217728 ≡ a * 32 + b / 134217728 = omega arith in ap (λ (x : ℕ). x % 32) o ∙ digits_mod a {m = 32} (omega arith)

  high-rest : rest_of n / 4294967296 ≡ a % 134217728
  high-rest = digits_div (n / 4294967296 % 134217728) {m = 4294967296} (omega arith) ∙ ap (λ (x : ℕ). x % 134217728) high

  low-rest : rest_of n % 4294967296 ≡ b % 134217728
  low-rest = digits_mod (n / 4294967296 % 134217728) {m = 4294967296} (omega arith) ∙ low

module _ {row column left rest path : ℕ} (g : Goes row column left rest path) where
  pub fits_next : rest * 27 < 2 ^ 64
  fits_next = omega (arith, g.first, g.second)

  second_fits : rest % 4294967296 * 27 < 4294967296
  second_fits = omega (arith, g.second)

  two : rest * 27 ≡ rest / 4294967296 * 27 * 4294967296 + rest % 4294967296 * 27
  two = omega arith

  first-digits : rest * 27 / 576460752303423488 ≡ rest / 4294967296 * 27 / 134217728
  first-digits = high-digits (rest / 4294967296 * 27) (rest % 4294967296 * 27) second_fits two

  second_digits : rest * 27 / 134217728 % 32 ≡ rest % 4294967296 * 27 / 134217728
  second_digits = low-digits (rest / 4294967296 * 27) (rest % 4294967296 * 27) second_fits two

  -- the next three digits of each, in the product with 27
  pub digits-small : (rest * 27 / 576460752303423488 < 27) × (rest * 27 / 134217728 % 32 < 27)
  digits-small = (rw first-digits (omega (arith, g.first)), rw second_digits (omega (arith, g.second)))

module _ {row column l rest path digits : ℕ} (g : Goes row column (suc l) rest path) (e : digits ≡ weave 3 (rest * 27 / 576460752303423488) (rest * 27 / 134217728 % 32)) where
  -- the path so far with three digits more, and what is to come
  more :
      (path * 729 + digits) * 9 ^ (3 * l) + weave (3 * l) (share l (rest / 4294967296 * 27 % 134217728)) (share l (rest % 4294967296 * 27 % 134217728))
      ≡ weave 15 row column
  more =
      let k : 3 * suc l ≡ 3 + 3 * l = omega arith in
      let n : 9 ^ (3 * suc l) ≡ 729 * 9 ^ (3 * l) = ap (λ (x : ℕ). 9 ^ x) k ∙ nine-add 3 (3 * l) in
      let p : path * 9 ^ (3 * suc l) ≡ path * 729 * 9 ^ (3 * l) = ap (λ (x : ℕ). path * x) n ∙ sym (mul_assoc path 729 (9 ^ (3 * l))) in
      let d : weave 3 (rest / 4294967296 * 27 / 134217728) (rest % 4294967296 * 27 / 134217728) ≡ digits = sym (e ∙ ap₂ (weave 3) (first-digits g) (second_digits g)) in
      let f : weave 3 (rest / 4294967296 * 27 / 134217728) (rest % 4294967296 * 27 / 134217728) * 9 ^ (3 * l) ≡ digits * 9 ^ (3 * l) = ap (λ (x : ℕ). x * 9 ^ (3 * l)) d in
      omega (arith, g.woven, shares-woven l (rest / 4294967296) (rest % 4294967296), add-mul (path * 729) digits (9 ^ (3 * l)))

  next_fits : path * 729 + digits < 2 ^ 64
  next_fits =
      let h : (path * 729 + digits) * 1 ≤ (path * 729 + digits) * 9 ^ (3 * l) = mul-le-mul_left {m = 1} {n = 9 ^ (3 * l)} (path * 729 + digits) (nine-pos (3 * l)) in
      let w : weave 15 row column < 205891132094649 = weave-small 15 row column in
      omega (arith, more)

  next-goes : Goes row column l (rest_of (rest * 27)) (path * 729 + digits)
  next-goes =
      let i : rest_of (rest * 27) / 4294967296 ≡ rest / 4294967296 * 27 % 134217728 = high-rest (rest / 4294967296 * 27) (rest % 4294967296 * 27) (second_fits g) (two g) in
      let j : rest_of (rest * 27) % 4294967296 ≡ rest % 4294967296 * 27 % 134217728 = low-rest (rest / 4294967296 * 27) (rest % 4294967296 * 27) (second_fits g) (two g) in
      record {
        first = rw i (omega arith);
        second = rw j (omega arith);
        woven = ap₂ (λ (x y : ℕ). (path * 729 + digits) * 9 ^ (3 * l) + weave (3 * l) (share l x) (share l y)) i j ∙ more;
      }

module _ {row column rest path digits : ℕ} (e : digits ≡ weave 3 (rest * 27 / 576460752303423488) (rest * 27 / 134217728 % 32)) where
  pub fits-path : {left : ℕ} → 0 < left → Goes row column left rest path → path * 729 + digits < 2 ^ 64
  fits-path {left = zero} h g = absurd (omega arith)
  fits-path {left = suc l} h g = next_fits g e

  pub goes_on : {left : ℕ} → 0 < left → Goes row column left rest path → Goes row column (left - 1) (rest_of (rest * 27)) (path * 729 + digits)
  goes_on {left = zero} h g = absurd (omega arith)
  goes_on {left = suc l} h g =
      let k : l ≡ suc l - 1 = omega arith in
      subst (λ (x : ℕ). Goes row column x (rest_of (rest * 27)) (path * 729 + digits)) k (next-goes g e)

-- with none to go the path is whole
pub goes_end : {row column left rest path : ℕ} → Goes row column left rest path → left ≡ 0 → path ≡ weave 15 row column
unfolding weave
goes_end {left = zero} {path = path} g e = omega (arith, g.woven)
goes_end {left = suc l} g e = absurd (omega arith)
