-- What is printed reads back as the same number. Assumes nothing.
use Rattle.std.specs.Prelude.{◌≡◌, refl, Bool, true, false, ◌&&◌, List, [], ◌∷◌, ◌++◌, map, ℕ, zero, suc, ◌+◌, ◌-◌, ◌*◌, ◌/◌, ◌%◌, ◌≤◌, ◌<◌, ◌^◌, leb, ltb, ℤ, pos, negsuc, length, Some}
use Rattle.std.proofs.Common.{sym, ap, ap₂, ◌∙◌, append_assoc, pow-suc, arith, length-append, leb-true, ltb-true, ltb-false, le-leb, lt-ltb, eq-eqb, ne_eqb}
use Rattle.std.proofs.lemmas.List.{map-append}
use Rattle.logic.specs.Laws.Bools.{and_left, and_right, by_cond}
use Rattle.ternary.specs.Digits.{value}
use Rattle.ternary.proofs.Laws.Digits.{value-snoc}
use Rattle.signed.specs.Sign.{with_sign}
use Rattle.decimal.specs.Decimal.{is_decimal, all_decimal, decimal_value, whole_in, signed_number, number_in, ahead, behind, trimmed, fix_of, fix_in, printed_from, printed, printed_number}

-- a number that a fix may be made of: its size is below 2^63
abbrev pub FitsSigned : ℤ → Type 0
FitsSigned (pos n) = n < 2 ^ 63
FitsSigned (negsuc n) = suc n < 2 ^ 63

-- ---- what is printed: digits, as many as there are powers of ten, whose number it is

digit-snoc : (bs : List ℕ) (d : ℕ) → all_decimal bs ≡ true → d < 10 → all_decimal (bs ++ ((48 + d) ∷ [])) ≡ true
unfolding all_decimal
digit-snoc [] d e h = simp (le-leb 48 (48 + d) (omega arith), le-leb (48 + d) 57 (omega arith))
digit-snoc (b ∷ bs) d e h = ap₂ ◌&&◌ (and_left (is_decimal b) (all_decimal bs) e) (digit-snoc bs d (and_right (is_decimal b) (all_decimal bs) e) h)

digits_from : (k x : ℕ) → all_decimal (printed_from k x) ≡ true
unfolding all_decimal
digits_from zero x = refl
digits_from (suc k) x =
    by_cond (λ (l : List ℕ). all_decimal l ≡ true) (ltb x 10)
    (λ t. digit-snoc [] x refl (ltb-true x 10 t))
    (λ t. digit-snoc (printed_from k (x / 10)) (x % 10) (digits_from k (x / 10)) (omega arith))

-- one byte at least, and one for each digit
some-from : (k x : ℕ) → 0 < length (printed_from (suc k) x)
some-from k x =
    by_cond (λ (l : List ℕ). 0 < length l) (ltb x 10)
    (λ t. omega arith)
    (λ t. omega (arith, length-append (printed_from k (x / 10)) ((48 + x % 10) ∷ [])))

-- at most j digits below 10^j
short-more : (j x : ℕ) (bs : List ℕ) → x < 10 ^ j → 10 ≤ x → ((i : ℕ) → 0 < i → x / 10 < 10 ^ i → length bs ≤ i) → length (bs ++ ((48 + x % 10) ∷ [])) ≤ j
short-more zero x bs h l f = absurd (omega arith)
short-more (suc zero) x bs h l f = absurd (omega arith)
short-more (suc (suc i)) x bs h l f =
    let n = length-append bs ((48 + x % 10) ∷ []) in
    let m = f (suc i) (omega arith) (omega (arith, pow-suc 10 (suc i))) in
    omega arith

short-from : (k j x : ℕ) → 0 < j → x < 10 ^ j → length (printed_from k x) ≤ j
short-from zero j x p h = omega arith
short-from (suc k) j x p h =
    by_cond (λ (l : List ℕ). length l ≤ j) (ltb x 10)
    (λ t. omega arith)
    (λ t. short-more j x (printed_from k (x / 10)) h (ltb-false x 10 t) (λ i. short-from k i (x / 10)))

written-snoc : (bs : List ℕ) (d : ℕ) → decimal_value (bs ++ ((48 + d) ∷ [])) ≡ decimal_value bs * 10 + d
written-snoc bs d =
    let n : 48 + d - 48 ≡ d = omega arith in
    ap (value 10) (map-append (λ (b : ℕ). b - 48) bs ((48 + d) ∷ [])) ∙ value-snoc 10 (map (λ (b : ℕ). b - 48) bs) (48 + d - 48) ∙ ap (λ (y : ℕ). decimal_value bs * 10 + y) n

written_from : (k x : ℕ) → x < 10 ^ k → decimal_value (printed_from k x) ≡ x
unfolding value
written_from zero x h = omega arith
written_from (suc k) x h =
    by_cond (λ (l : List ℕ). decimal_value l ≡ x) (ltb x 10)
    (λ t. written-snoc [] x ∙ omega arith)
    (λ t.
    let e = written_from k (x / 10) (omega (arith, pow-suc 10 k)) in
    let s = written-snoc (printed_from k (x / 10)) (x % 10) in
    omega arith)

module _ (x : ℕ) where
  pub printed-digits : all_decimal (printed x) ≡ true
  unfolding printed
  printed-digits = digits_from 20 x

  pub printed-some : 0 < length (printed x)
  unfolding printed
  printed-some = some-from 19 x

  pub printed-short : (j : ℕ) → 0 < j → x < 10 ^ j → length (printed x) ≤ j
  unfolding printed
  printed-short j = short-from 20 j x

  pub printed-written : x < 10 ^ 20 → decimal_value (printed x) ≡ x
  unfolding printed
  printed-written h = written_from 20 x h

pub whole-printed : (x : ℕ) → x < 10 ^ 19 → whole_in (printed x) ≡ Some x
unfolding whole_in
whole-printed x h =
    simp (le-leb 1 (length (printed x)) (printed-some x), le-leb (length (printed x)) 19 (printed-short x 19 (omega arith) h), printed-digits x)
    (ap Some (printed-written x (omega arith)))

-- ---- bytes among which one does not occur

-- none of them is `stop`
abbrev pub Free : ℕ → List ℕ → Type 0
Free stop [] = Unit {0}
Free stop (b ∷ bs) = (b ≡ stop → ⊥) × Free stop bs

pub free-digits : (stop : ℕ) (bs : List ℕ) → stop < 48 → all_decimal bs ≡ true → Free stop bs
unfolding all_decimal
free-digits stop [] h e = tt
free-digits stop (b ∷ bs) h e =
    let l = leb-true 48 b (and_left (leb 48 b) (leb b 57) (and_left (is_decimal b) (all_decimal bs) e)) in
    (λ q. omega arith, free-digits stop bs h (and_right (is_decimal b) (all_decimal bs) e))

free-append : (stop : ℕ) (bs cs : List ℕ) → Free stop bs → Free stop cs → Free stop (bs ++ cs)
free-append stop [] cs f g = g
free-append stop (b ∷ bs) cs f g = (f.0, free-append stop bs cs f.1 g)

-- a printed number has a sign and digits, no space and no return
free-number : (stop : ℕ) (x : ℤ) → stop < 45 → Free stop (printed_number x)
unfolding printed_number
free-number stop (pos n) h = free-digits stop (printed n) (omega arith) (printed-digits n)
free-number stop (negsuc n) h = (λ q. omega arith, free-digits stop (printed (suc n)) (omega arith) (printed-digits (suc n)))

pub ahead-free : (stop : ℕ) (bs cs : List ℕ) → Free stop bs → ahead stop (bs ++ (stop ∷ cs)) ≡ bs
ahead-free stop [] cs f = simp (eq-eqb stop stop refl)
ahead-free stop (b ∷ bs) cs f = simp (ne_eqb b stop f.0) (ap (λ (l : List ℕ). b ∷ l) (ahead-free stop bs cs f.1))

pub behind-free : (stop : ℕ) (bs cs : List ℕ) → Free stop bs → behind stop (bs ++ (stop ∷ cs)) ≡ cs
behind-free stop [] cs f = simp (eq-eqb stop stop refl)
behind-free stop (b ∷ bs) cs f = simp (ne_eqb b stop f.0) (behind-free stop bs cs f.1)

trimmed-free : (bs : List ℕ) → Free 13 bs → trimmed bs ≡ bs
trimmed-free [] f = refl
trimmed-free (b ∷ []) f = simp (ne_eqb b 13 f.0)
trimmed-free (b ∷ c ∷ bs) f = ap (λ (l : List ℕ). b ∷ l) (trimmed-free (c ∷ bs) f.1)

trimmed-return : (bs : List ℕ) → trimmed (bs ++ (13 ∷ [])) ≡ bs
trimmed-return [] = refl
trimmed-return (b ∷ []) = refl
trimmed-return (b ∷ c ∷ bs) = ap (λ (l : List ℕ). b ∷ l) (trimmed-return (c ∷ bs))

-- ---- numbers and fixes

-- with no minus sign
number-plain : (bs : List ℕ) → Free 45 bs → number_in bs ≡ signed_number false (whole_in bs)
unfolding number_in signed_number whole_in
number-plain [] f = refl
number-plain (b ∷ bs) f = simp (ne_eqb b 45 f.0)

number_of : (b : Bool) (n : ℕ) → n < 2 ^ 63 → signed_number b (Some n) ≡ Some (with_sign b n)
unfolding signed_number
number_of b n h = simp (lt-ltb n (2 ^ 63) h)

number-minus : (bs : List ℕ) → number_in (45 ∷ bs) ≡ signed_number true (whole_in bs)
unfolding number_in
number-minus bs = refl

pub number-printed : (x : ℤ) → FitsSigned x → number_in (printed_number x) ≡ Some x
unfolding printed_number
number-printed (pos n) h =
    number-plain (printed n) (free-digits 45 (printed n) (omega arith) (printed-digits n)) ∙ ap (signed_number false) (whole-printed n (omega arith)) ∙ number_of false n h
number-printed (negsuc n) h = number-minus (printed (suc n)) ∙ ap (signed_number true) (whole-printed (suc n) (omega arith)) ∙ number_of true (suc n) h

-- a line that is this once its return is off
fix-trimmed : (longitude z : ℤ) (line : List ℕ) → FitsSigned longitude → FitsSigned z → trimmed line ≡ printed_number longitude ++ (32 ∷ printed_number z) → fix_in line ≡
    Some (longitude, z)
unfolding fix_in fix_of
fix-trimmed longitude z line h k e =
    let f = free-number 32 longitude (omega arith) in
    let a = ap (ahead 32) e ∙ ahead-free 32 (printed_number longitude) (printed_number z) f in
    let b = ap (behind 32) e ∙ behind-free 32 (printed_number longitude) (printed_number z) f in
    ap₂ fix_of (ap number_in a ∙ number-printed longitude h) (ap number_in b ∙ number-printed z k)

-- a line made of two printed numbers is that fix
pub fix-printed : (longitude z : ℤ) → FitsSigned longitude → FitsSigned z → fix_in (printed_number longitude ++ (32 ∷ printed_number z)) ≡ Some (longitude, z)
fix-printed longitude z h k =
    let f = free-append 13 (printed_number longitude) (32 ∷ printed_number z) (free-number 13 longitude (omega arith)) (λ q. omega arith, free-number 13 z (omega arith)) in
    fix-trimmed longitude z (printed_number longitude ++ (32 ∷ printed_number z)) h k (trimmed-free (printed_number longitude ++ (32 ∷ printed_number z)) f)

-- and so it is with a carriage return at its end
pub fix-returned : (longitude z : ℤ) → FitsSigned longitude → FitsSigned z → fix_in (printed_number longitude ++ (32 ∷ (printed_number z ++ (13 ∷ [])))) ≡ Some (longitude, z)
fix-returned longitude z h k =
    let line = printed_number longitude ++ (32 ∷ printed_number z) in
    ap fix_in (sym (append_assoc (printed_number longitude) (32 ∷ printed_number z) (13 ∷ []))) ∙ fix-trimmed longitude z (line ++ (13 ∷ [])) h k (trimmed-return line)
