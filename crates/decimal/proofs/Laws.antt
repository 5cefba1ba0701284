pub mod Decimal
pub mod Fraction
pub mod Long
-- Reading digits from the left and writing them from the right; what stands ahead of a space and behind it. Assumes nothing.
use Rattle.std.specs.Prelude.{None, Option, Some}
use mathlib.Core.Path.{◌≡◌, refl, sym, ap, ap₂, ◌∙◌}
use mathlib.Core.Bool.{Bool, true, false, ◌&&◌, cond}
use mathlib.Core.List.{List, [], ◌∷◌, ◌++◌, map, append_assoc}
use Prim.Native.Nat.{ℕ, zero, suc, ◌+◌, ◌-◌, ◌*◌, ◌/◌, ◌%◌, ◌^◌, ◌≤◌, ◌<◌}
use native.Mathlib.Numerals.{add-one}
use native.Mathlib.Nat.{pow-suc, mul_assoc, mul_comm, add-mul, zero-mul, mul-one, pow-le-pow_right, zero-lt-suc}
use native.Mathlib.Omega.{arith}
use lib.Dec.{eqb, leb, ltb}
use lib.IntN.{ℤ}
use lib.ListN.{length, take, drop, get_or, set, length-map, length-append, length-drop}
use lib.Seq.{drop-cons, take_all, take-take, set_split, drop_at, length-take-le}
use borrow.Author.Tests.{lt-leb, le-leb, lt-ltb, le-ltb, eq-eqb, ne_eqb, ltb-true}
use Rattle.logic.specs.Laws.Bools.{by_cond}
use Rattle.ternary.specs.Digits.{value}
use Rattle.signed.specs.Sign.{with_sign}
use Rattle.decimal.specs.Decimal.{is_decimal, all_decimal, decimal_value, whole_in, signed_number, number_in, ahead, behind, trimmed, fix_of, fix_in, printed_from, printed}

pub ten-le : {i j : ℕ} → i ≤ j → 10 ^ i ≤ 10 ^ j
ten-le h = pow-le-pow_right (zero-lt-suc 9) h

-- ---- reading

-- a number with the digits of some bytes after its own
unfoldable pub read : ℕ → List ℕ → ℕ
read p [] = p
read p (b ∷ bs) = read (p * 10 + (b - 48)) bs

read-value : (p : ℕ) (bs : List ℕ) → read p bs ≡ p * 10 ^ length bs + decimal_value bs
unfolding read value
read-value p [] = omega (arith, mul-one p)
read-value p (b ∷ bs) =
    let n : length (map (λ (x : ℕ). x - 48) bs) ≡ length bs = length-map bs (λ (x : ℕ). x - 48) in
    let e : read (p * 10 + (b - 48)) bs ≡ (p * 10 + (b - 48)) * 10 ^ length bs + decimal_value bs = read-value (p * 10 + (b - 48)) bs in
    let d : (p * 10 + (b - 48)) * 10 ^ length bs ≡ p * 10 * 10 ^ length bs + (b - 48) * 10 ^ length bs = add-mul (p * 10) (b - 48) (10 ^ length bs) in
    let q : p * 10 * 10 ^ length bs ≡ p * 10 ^ suc (length bs) = mul_assoc p 10 (10 ^ length bs) ∙ ap (λ (x : ℕ). p * x) (mul_comm 10 (10 ^ length bs) ∙ sym (pow-suc 10 (length bs))) in
    let r : (b - 48) * 10 ^ length (map (λ (x : ℕ). x - 48) bs) ≡ (b - 48) * 10 ^ length bs = ap (λ (x : ℕ). (b - 48) * 10 ^ x) n in
    omega arith

-- from the start, it is the number that they write
pub read_all : (bs : List ℕ) → read 0 bs ≡ decimal_value bs
read_all bs = read-value 0 bs ∙ ap (λ (x : ℕ). x + decimal_value bs) (zero-mul (10 ^ length bs)) ∙ omega arith

pub low_digit : (b : ℕ) → b < 48 → is_decimal b ≡ false
low_digit b h = ap (λ t. t && leb b 57) (lt-leb 48 b h)

pub high_digit : (b : ℕ) → 48 ≤ b → 57 < b → is_decimal b ≡ false
high_digit b h k = ap₂ ◌&&◌ (le-leb 48 b h) (lt-leb b 57 k)

pub a-digit : (b : ℕ) → 48 ≤ b → b ≤ 57 → is_decimal b ≡ true
a-digit b h k = ap₂ ◌&&◌ (le-leb 48 b h) (le-leb b 57 k)

-- the number read with one digit more is below the next power
pub next : (p i b : ℕ) → p < 10 ^ i → b - 48 ≤ 9 → p * 10 + (b - 48) < 10 ^ (i + 1)
next p i b k l =
    let e : 10 ^ (i + 1) ≡ 10 ^ i * 10 = ap (λ (x : ℕ). 10 ^ x) (add-one i) ∙ pow-suc 10 i in
    omega arith

module _ (s : List ℕ) (i : ℕ) (h : i < length s) where
  pub here : drop i s ≡ get_or s i 0 ∷ drop (i + 1) s
  here = rw (add-one, drop-cons s i 0)

  pub stopped : is_decimal (get_or s i 0) ≡ false → all_decimal (drop i s) ≡ false
  unfolding all_decimal
  stopped e = ap all_decimal here ∙ ap (λ (t : Bool). t && all_decimal (drop (i + 1) s)) e

  pub further : is_decimal (get_or s i 0) ≡ true → all_decimal (drop (i + 1) s) ≡ all_decimal (drop i s)
  unfolding all_decimal
  further e = sym (ap all_decimal here ∙ ap (λ (t : Bool). t && all_decimal (drop (i + 1) s)) e)

  pub read-on : (p : ℕ) → read (p * 10 + (get_or s i 0 - 48)) (drop (i + 1) s) ≡ read p (drop i s)
  unfolding read
  read-on p = sym (ap (read p) here)

-- the answers of the reader
module _ (s : List ℕ) where
  pub none_in : length s ≡ 0 → None ≡ whole_in s
  unfolding whole_in
  none_in e = simp (lt-leb 1 (length s) (omega arith))

  pub many-in : 19 < length s → None ≡ whole_in s
  unfolding whole_in
  many-in h = simp (le-leb 1 (length s) (omega arith), lt-leb (length s) 19 h)

  pub other-in : 0 < length s → length s ≤ 19 → all_decimal s ≡ false → None ≡ whole_in s
  unfolding whole_in
  other-in h k e = simp (le-leb 1 (length s) h, le-leb (length s) 19 k, e)

  pub digits_in : (x : ℕ) → 0 < length s → length s ≤ 19 → all_decimal s ≡ true → x ≡ decimal_value s → Some x ≡ whole_in s
  unfolding whole_in
  digits_in x h k e q = simp (le-leb 1 (length s) h, le-leb (length s) 19 k, e) (ap Some q)

-- ---- a number with its sign

pub no_size : (b : Bool) {s : Option ℕ} → s ≡ None → None ≡ signed_number b s
unfolding signed_number
no_size b e = sym (ap (signed_number b) e)

pub large : (b : Bool) {s : Option ℕ} (n : ℕ) → s ≡ Some n → 9223372036854775807 < n → None ≡ signed_number b s
unfolding signed_number
large b n e h = sym (ap (signed_number b) e ∙ simp (le-ltb n (2 ^ 63) (omega arith)))

pub small : {b : Bool} {s : Option ℕ} {z : ℤ} (t : Bool) (n : ℕ) → b ≡ t → s ≡ Some n → n ≤ 9223372036854775807 → z ≡ with_sign t n → Some z ≡ signed_number b s
unfolding signed_number
small t n f e h q = sym (ap₂ signed_number f e ∙ simp (lt-ltb n (2 ^ 63) (omega arith)) (ap Some (sym q)))

-- the bytes from k on, as the code has them
pub from_on : (k : ℕ) (s : List ℕ) → take (length s - k) (drop k s) ≡ drop k s
from_on k s = take_all (length s - k) (drop k s) (omega (arith, length-drop k s))

-- by the first byte
pub no_number : (s : List ℕ) → length s ≡ 0 → None ≡ number_in s
unfolding number_in
no_number [] e = refl
no_number (b ∷ s) e = absurd (omega arith)

pub minus-in : (s : List ℕ) → 0 < length s → get_or s 0 0 ≡ 45 → signed_number true (whole_in (drop 1 s)) ≡ number_in s
unfolding number_in
minus-in [] h e = absurd (omega arith)
minus-in (b ∷ s) h e = simp (eq-eqb b 45 e)

pub plain_in : (s : List ℕ) → 0 < length s → (get_or s 0 0 ≡ 45 → ⊥) → signed_number false (whole_in s) ≡ number_in s
unfolding number_in
plain_in [] h e = absurd (omega arith)
plain_in (b ∷ s) h e = simp (ne_eqb b 45 e)

-- ---- ahead of a byte and behind it

module _ (stop : ℕ) (s : List ℕ) (i : ℕ) (h : i < length s) where
  -- it stands here
  pub ahead_none : get_or s i 0 ≡ stop → ahead stop (drop i s) ≡ []
  ahead_none e = ap (ahead stop) (here s i h) ∙ simp (eq-eqb (get_or s i 0) stop e)

  pub ahead_more : (get_or s i 0 ≡ stop → ⊥) → length (ahead stop (drop i s)) ≡ suc (length (ahead stop (drop (i + 1) s)))
  ahead_more e = ap (λ (l : List ℕ). length (ahead stop l)) (here s i h) ∙ simp (ne_eqb (get_or s i 0) stop e)

-- what is ahead is a part of the bytes
pub take-ahead : (stop : ℕ) (s : List ℕ) → take (length (ahead stop s)) s ≡ ahead stop s
take-ahead stop [] = refl
take-ahead stop (b ∷ s) = by_cond (λ (l : List ℕ). take (length l) (b ∷ s) ≡ l) (eqb b stop) (λ t. refl) (λ t. ap (λ (l : List ℕ). b ∷ l) (take-ahead stop s))

pub ahead-le : (stop : ℕ) (s : List ℕ) → length (ahead stop s) ≤ length s
ahead-le stop [] = omega arith
ahead-le stop (b ∷ s) = by_cond (λ (l : List ℕ). length l ≤ suc (length s)) (eqb b stop) (λ t. omega arith) (λ t. omega (arith, ahead-le stop s))

-- what is behind begins one further
drop-next : (stop : ℕ) (s : List ℕ) → drop (suc (length (ahead stop s))) s ≡ behind stop s
drop-next stop [] = refl
drop-next stop (b ∷ s) = go (drop-next stop s) (eqb b stop)
  where
    go : drop (suc (length (ahead stop s))) s ≡ behind stop s → (t : Bool) → drop (suc (length (cond t [] (b ∷ ahead stop s)))) (b ∷ s) ≡ cond t s (behind stop s)
    go e true = refl
    go e false = e

pub drop-ahead : (stop : ℕ) (s : List ℕ) → drop (length (ahead stop s) + 1) s ≡ behind stop s
drop-ahead stop s = ap (λ (n : ℕ). drop n s) (add-one (length (ahead stop s))) ∙ drop-next stop s

-- nothing is, where all is ahead
pub behind-none : (stop : ℕ) (s : List ℕ) → length (ahead stop s) ≡ length s → behind stop s ≡ []
behind-none stop [] e = refl
behind-none stop (b ∷ s) e = go (behind-none stop s) (eqb b stop) e
  where
    go : (length (ahead stop s) ≡ length s → behind stop s ≡ []) → (t : Bool) → length (cond t [] (b ∷ ahead stop s)) ≡ suc (length s) → cond t s (behind stop s) ≡ []
    go f true e = absurd (omega arith)
    go f false e = f (omega arith)

-- ---- a line without its carriage return

pub trimmed-none : (s : List ℕ) → length s ≡ 0 → length (trimmed s) ≡ 0
trimmed-none [] e = refl
trimmed-none (b ∷ s) e = absurd (omega arith)

-- the last byte of a line is that of its rest
last_of : (b c : ℕ) (s : List ℕ) → get_or (b ∷ c ∷ s) (length (b ∷ c ∷ s) - 1) 0 ≡ get_or (c ∷ s) (length (c ∷ s) - 1) 0
last_of b c s = let q : suc (suc (length s)) - 1 ≡ suc (suc (length s) - 1) = omega arith in ap (λ (n : ℕ). get_or (b ∷ c ∷ s) n 0) q

pub trimmed-return : (s : List ℕ) → 0 < length s → get_or s (length s - 1) 0 ≡ 13 → length (trimmed s) ≡ length s - 1
trimmed-return [] h e = absurd (omega arith)
trimmed-return (b ∷ []) h e = simp (eq-eqb b 13 e)
trimmed-return (b ∷ c ∷ s) h e = omega (arith, trimmed-return (c ∷ s) (omega arith) (sym (last_of b c s) ∙ e))

pub trimmed-all : (s : List ℕ) → 0 < length s → (get_or s (length s - 1) 0 ≡ 13 → ⊥) → length (trimmed s) ≡ length s
trimmed-all [] h e = absurd (omega arith)
trimmed-all (b ∷ []) h e = simp (ne_eqb b 13 e)
trimmed-all (b ∷ c ∷ s) h e = ap suc (trimmed-all (c ∷ s) (omega arith) (λ q. e (last_of b c s ∙ q)))

pub take-trimmed : (s : List ℕ) → take (length (trimmed s)) s ≡ trimmed s
take-trimmed [] = refl
take-trimmed (b ∷ []) = by_cond (λ (l : List ℕ). take (length l) (b ∷ []) ≡ l) (eqb b 13) (λ t. refl) (λ t. refl)
take-trimmed (b ∷ c ∷ s) = ap (λ (l : List ℕ). b ∷ l) (take-trimmed (c ∷ s))

-- ---- the fix of a line

fix-second : (x : Option ℤ) → None ≡ fix_of x None
unfolding fix_of
fix-second (Some a) = refl
fix-second None = refl

module _ (s : List ℕ) where
  pub no-space : length (ahead 32 (trimmed s)) ≡ length (trimmed s) → None ≡ fix_in s
  unfolding fix_in number_in
  no-space e = fix-second (number_in (ahead 32 (trimmed s))) ∙ ap (λ (l : List ℕ). fix_of (number_in (ahead 32 (trimmed s))) (number_in l)) (sym (behind-none 32 (trimmed s) e))

  pub no-first : None ≡ number_in (ahead 32 (trimmed s)) → None ≡ fix_in s
  unfolding fix_in fix_of
  no-first e = ap (λ (x : Option ℤ). fix_of x (number_in (behind 32 (trimmed s)))) e

  pub no_second : None ≡ number_in (behind 32 (trimmed s)) → None ≡ fix_in s
  unfolding fix_in
  no_second e = fix-second (number_in (ahead 32 (trimmed s))) ∙ ap (fix_of (number_in (ahead 32 (trimmed s)))) e

  pub two-numbers : (a b : ℤ) → Some a ≡ number_in (ahead 32 (trimmed s)) → Some b ≡ number_in (behind 32 (trimmed s)) → Some (a, b) ≡ fix_in s
  unfolding fix_in fix_of
  two-numbers a b e f = ap₂ fix_of e f

-- ---- counting digits and writing them

-- a number of one digit, and one of more
pub one-digit : (k x : ℕ) → 0 < k → x ≤ 9 → length (printed_from k x) ≡ 1
one-digit zero x p h = absurd (omega arith)
one-digit (suc k) x p h = simp (lt-ltb x 10 (omega arith))

more-digits : (k x : ℕ) → 9 < x → length (printed_from (suc k) x) ≡ suc (length (printed_from k (x / 10)))
more-digits k x h = simp (le-ltb x 10 (omega arith)) (length-append (printed_from k (x / 10)) ((48 + x % 10) ∷ []) ∙ omega arith)

fewer : (j x : ℕ) → 9 < x → x < 10 ^ suc j → (0 < j) × (x / 10 < 10 ^ j)
fewer zero x h k = absurd (omega arith)
fewer (suc j) x h k = (omega arith, omega (arith, pow-suc 10 (suc j)))

-- one digit counted, as the n-th of at most 20
pub counted : (n x : ℕ) → n ≤ 20 → 9 < x → x < 10 ^ (21 - n) → (n < 20) × (x / 10 < 10 ^ (21 - (n + 1))) ×
    (length (printed_from (21 - n) x) ≡ suc (length (printed_from (21 - (n + 1)) (x / 10))))
counted n x l h k =
    let e : 21 - n ≡ suc (21 - (n + 1)) = omega arith in
    let f = fewer (21 - (n + 1)) x h (rw e at k) in
    (omega arith, f.1, ap (λ (i : ℕ). length (printed_from i x)) e ∙ more-digits (21 - (n + 1)) x h)

-- the last k digits of a number, as bytes
unfoldable pub last_bytes : ℕ → ℕ → List ℕ
last_bytes zero x = []
last_bytes (suc k) x = last_bytes k (x / 10) ++ ((48 + x % 10) ∷ [])

from_last : (k x : ℕ) → printed_from k x ≡ last_bytes (length (printed_from k x)) x
unfolding last_bytes
from_last zero x = refl
from_last (suc k) x =
    by_cond (λ (l : List ℕ). l ≡ last_bytes (length l) x) (ltb x 10)
    (λ t. let h = ltb-true x 10 t in ap (λ (y : ℕ). (48 + y) ∷ []) (omega arith))
    (λ t.
    let n : length (printed_from k (x / 10) ++ ((48 + x % 10) ∷ [])) ≡ suc (length (printed_from k (x / 10))) = length-append (printed_from k (x / 10)) ((48 + x % 10) ∷ []) ∙ omega arith in
    ap (λ (l : List ℕ). l ++ ((48 + x % 10) ∷ [])) (from_last k (x / 10)) ∙ ap (λ (i : ℕ). last_bytes i x) (sym n))

-- all of them are the number printed
pub printed-last : (x : ℕ) → printed x ≡ last_bytes (length (printed x)) x
unfolding printed
printed-last x = from_last 20 x

last_byte : (k x : ℕ) → 0 < k → last_bytes k x ≡ last_bytes (k - 1) (x / 10) ++ ((48 + x % 10) ∷ [])
unfolding last_bytes
last_byte zero x h = absurd (omega arith)
last_byte (suc k) x h = let e : k ≡ suc k - 1 = omega arith in ap (λ (i : ℕ). last_bytes i (x / 10) ++ ((48 + x % 10) ∷ [])) e

-- a store before i, from where on all is decimal_value, with those before it still to write
module _ (s : List ℕ) (at i : ℕ) (some : at < i) (h : i ≤ length s) where
  pub byte-kept : (x : ℕ) → last_bytes (i - 1 - at) (x / 10) ++ drop (i - 1) (set s (i - 1) (48 + x % 10)) ≡ last_bytes (i - at) x ++ drop i s
  byte-kept x =
      let b : ℕ = 48 + x % 10 in
      let e : i - 1 - at ≡ i - at - 1 = omega arith in
      let n : suc (i - 1) ≡ i = omega arith in
      let stored : drop (i - 1) (set s (i - 1) b) ≡ b ∷ drop i s =
      ap (drop (i - 1)) (set_split s (i - 1) b (omega arith)) ∙ drop_at (take (i - 1) s) (b ∷ drop (suc (i - 1)) s) (i - 1) (length-take-le (i - 1) s (omega arith)) ∙ ap
      (λ (y : ℕ). b ∷ drop y s) n in
      ap₂ (λ (k : ℕ) (l : List ℕ). last_bytes k (x / 10) ++ l) e stored ∙ sym (append_assoc (last_bytes (i - at - 1) (x / 10)) (b ∷ []) (drop i s)) ∙ ap
      (λ (l : List ℕ). l ++ drop i s) (sym (last_byte (i - at) x (omega arith)))

-- the same in front of i, the same in front of what is before it
pub front_kept : (s t : List ℕ) (i : ℕ) → take i s ≡ take i t → take (i - 1) s ≡ take (i - 1) t
front_kept s t i f = sym (take-take (i - 1) i s (omega arith)) ∙ ap (take (i - 1)) f ∙ take-take (i - 1) i t (omega arith)
