-- Reading a name's digits from the left, and writing them from the right. Assumes nothing.
use Rattle.std.specs.Prelude.{Err, Ok}
use mathlib.Core.Path.{◌≡◌, refl, sym, ap, ap₂, ◌∙◌}
use mathlib.Core.Bool.{Bool, true, false, ◌&&◌, not}
use Prim.Native.Nat.{ℕ, zero, suc, ◌+◌, ◌-◌, ◌*◌, ◌/◌, ◌%◌, ◌^◌, ◌≤◌, ◌<◌}
use mathlib.Core.List.{List, [], ◌∷◌, ◌++◌, map, map-append, append_assoc}
use native.Mathlib.Numerals.{add-one}
use native.Mathlib.Nat.{pow-suc, mul_assoc, mul_comm, add-mul, zero-mul, mul-one}
use native.Mathlib.Omega.{arith}
use lib.Dec.{leb}
use lib.ListN.{length, take, drop, get_or, set, length-map}
use lib.Seq.{drop-cons, take-take, take-set-le, set_split, drop_at, length-take-le}
use borrow.Author.Tests.{lt-leb, le-leb, lt-ltb, le-ltb}
use Rattle.logic.specs.Refusal.{refuse, given}
use Rattle.logic.specs.Laws.Refusal.{stops, passes}
use Rattle.ternary.specs.Digits.{value, digits}
use Rattle.code.specs.Code.{coded, code_refusal, cell_of}
use Rattle.name.specs.Name.{is_digit, all_digits, digit_bytes, first_letter, name_of, named, code_name_refusal}
use Rattle.name.specs.Laws.Name.{length-name}

-- ---- reading

-- a number with the digits of some bytes after its own
unfoldable pub read : ℕ → List ℕ → ℕ
read p [] = p
read p (b ∷ bs) = read (p * 9 + (b - 48)) bs

read-value : (p : ℕ) (bs : List ℕ) → read p bs ≡ p * 9 ^ length bs + value 9 (map (λ b. b - 48) bs)
unfolding read value
read-value p [] = omega (arith, mul-one p)
read-value p (b ∷ bs) =
    let n : length (map (λ (x : ℕ). x - 48) bs) ≡ length bs = length-map bs (λ (x : ℕ). x - 48) in
    let e : read (p * 9 + (b - 48)) bs ≡ (p * 9 + (b - 48)) * 9 ^ length bs + value 9 (map (λ x. x - 48) bs) = read-value (p * 9 + (b - 48)) bs in
    let d : (p * 9 + (b - 48)) * 9 ^ length bs ≡ p * 9 * 9 ^ length bs + (b - 48) * 9 ^ length bs = add-mul (p * 9) (b - 48) (9 ^ length bs) in
    let q : p * 9 * 9 ^ length bs ≡ p * 9 ^ suc (length bs) = mul_assoc p 9 (9 ^ length bs) ∙ ap (λ (x : ℕ). p * x) (mul_comm 9 (9 ^ length bs) ∙ sym (pow-suc 9 (length bs))) in
    let r : (b - 48) * 9 ^ length (map (λ (x : ℕ). x - 48) bs) ≡ (b - 48) * 9 ^ length bs = ap (λ (x : ℕ). (b - 48) * 9 ^ x) n in
    omega arith

-- from the start, it is the value of the digits
pub read_all : (bs : List ℕ) → read 0 bs ≡ value 9 (map (λ b. b - 48) bs)
read_all bs = read-value 0 bs ∙ ap (λ (x : ℕ). x + value 9 (map (λ b. b - 48) bs)) (zero-mul (9 ^ length bs)) ∙ omega arith

pub low_digit : (b : ℕ) → b < 48 → is_digit b ≡ false
low_digit b h = ap (λ t. t && leb b 56) (lt-leb 48 b h)

pub high_digit : (b : ℕ) → 48 ≤ b → 56 < b → is_digit b ≡ false
high_digit b h k = ap₂ ◌&&◌ (le-leb 48 b h) (lt-leb b 56 k)

pub a-digit : (b : ℕ) → 48 ≤ b → b ≤ 56 → is_digit b ≡ true
a-digit b h k = ap₂ ◌&&◌ (le-leb 48 b h) (le-leb b 56 k)

module _ (s : List ℕ) (i : ℕ) (h : i < length s) where
  here : drop i s ≡ get_or s i 0 ∷ drop (i + 1) s
  here = rw (add-one, drop-cons s i 0)

  pub stopped : is_digit (get_or s i 0) ≡ false → all_digits (drop i s) ≡ false
  unfolding all_digits
  stopped e = ap all_digits here ∙ ap (λ (t : Bool). t && all_digits (drop (i + 1) s)) e

  pub further : is_digit (get_or s i 0) ≡ true → all_digits (drop (i + 1) s) ≡ all_digits (drop i s)
  unfolding all_digits
  further e = sym (ap all_digits here ∙ ap (λ (t : Bool). t && all_digits (drop (i + 1) s)) e)

  pub read-on : (p : ℕ) → read (p * 9 + (get_or s i 0 - 48)) (drop (i + 1) s) ≡ read p (drop i s)
  unfolding read
  read-on p = sym (ap (read p) here)

-- the answers of a reader
pub no_digit : (t : Bool) (x : ℕ) → t ≡ false → Err 3 ≡ coded (refuse (not t) 3) x
unfolding coded
no_digit t x e = sym (ap (λ (b : Bool). coded (refuse (not b) 3) x) e)

pub all_digits_lem : (t : Bool) {x y : ℕ} → t ≡ true → x ≡ y → Ok x ≡ coded (refuse (not t) 3) y
unfolding coded
all_digits_lem t {y = y} e h = ap Ok h ∙ sym (ap (λ (b : Bool). coded (refuse (not b) 3) y) e)

-- ---- writing

-- the last digit, and those before it
last-digit : (k p : ℕ) → 0 < k → digit_bytes (digits 9 k p) ≡ digit_bytes (digits 9 (k - 1) (p / 9)) ++ ((48 + p % 9) ∷ [])
unfolding digits
last-digit zero p h = absurd (omega arith)
last-digit (suc k) p h =
    let e : suc k - 1 ≡ k = omega arith in
    map-append (λ (d : ℕ). 48 + d) (digits 9 k (p / 9)) (p % 9 ∷ []) ∙ ap (λ (x : ℕ). digit_bytes (digits 9 x (p / 9)) ++ ((48 + p % 9) ∷ [])) (sym e)

-- a store at k, above which all is written, with those below still to write
module _ (s : List ℕ) (k : ℕ) (some : 0 < k) (h : k < length s) where
  pub digit-kept : (p : ℕ) → digit_bytes (digits 9 (k - 1) (p / 9)) ++ drop (k - 1 + 1) (set s k (48 + p % 9)) ≡ digit_bytes (digits 9 k p) ++ drop (k + 1) s
  digit-kept p =
      let e : k - 1 + 1 ≡ k = omega arith in
      let b = 48 + p % 9 in
      let stored : drop k (set s k b) ≡ b ∷ drop (k + 1) s =
      ap (drop k) (set_split s k b h) ∙ drop_at (take k s) (b ∷ drop (suc k) s) k (length-take-le k s (omega arith)) ∙ ap (λ (x : ℕ). b ∷ drop x s) (sym (add-one k)) in
      ap (λ (x : ℕ). digit_bytes (digits 9 (k - 1) (p / 9)) ++ drop x (set s k b)) e ∙ ap (λ (l : List ℕ). digit_bytes (digits 9 (k - 1) (p / 9)) ++ l) stored ∙ sym
      (append_assoc (digit_bytes (digits 9 (k - 1) (p / 9))) (b ∷ []) (drop (k + 1) s)) ∙ ap (λ (l : List ℕ). l ++ drop (k + 1) s) (sym (last-digit k p some))

  pub front_kept : (t : List ℕ) (b : ℕ) → take (k + 1) s ≡ take (k + 1) t → take (k - 1 + 1) (set s k b) ≡ take (k - 1 + 1) t
  front_kept t b f =
      let e : k - 1 + 1 ≡ k = omega arith in
      ap (λ (x : ℕ). take x (set s k b)) e ∙ take-set-le k s k b (omega arith) ∙ sym (take-take k (k + 1) s (omega arith)) ∙ ap (take k) f ∙ take-take k (k + 1) t (omega arith)
      ∙ ap (λ (x : ℕ). take x t) (sym e)

-- ---- the letter

pub no-letter : (s : List ℕ) → length s ≡ 0 → first_letter s ≡ false
unfolding first_letter
no-letter [] e = refl
no-letter (b ∷ bs) e = absurd (omega arith)

pub letter_at : (s : List ℕ) → 0 < length s → first_letter s ≡ (leb 78 (get_or s 0 0) && leb (get_or s 0 0) 83)
unfolding first_letter
letter_at [] h = absurd (omega arith)
letter_at (b ∷ bs) h = refl

-- a store at the front
pub front : (s t : List ℕ) (x : ℕ) → 0 < length s → set (take 1 s ++ t) 0 x ≡ x ∷ t
front [] t x h = absurd (omega arith)
front (b ∷ s) t x h = refl

-- ---- the answers of `code_name`

module _ (code : ℕ) (room : ℕ) where
  pub refused-4 : code_refusal code ≡ 4 → code_name_refusal code room ≡ 4
  unfolding code_name_refusal
  refused-4 e = stops _ _ (λ z. let k : 4 ≡ 0 = sym e ∙ z in omega arith) ∙ e

  pub refused-8 : code_refusal code ≡ 0 → room ≤ (cell_of code).resolution → code_name_refusal code room ≡ 8
  unfolding code_name_refusal
  refused-8 e h =
      let n = length-name (cell_of code) in
      passes _ e ∙ ap (λ (t : Bool). refuse t 8) (lt-ltb room (length (name_of (cell_of code))) (omega arith))

  pub not-refused : code_refusal code ≡ 0 → (cell_of code).resolution < room → code_name_refusal code room ≡ 0
  unfolding code_name_refusal
  not-refused e h =
      let n = length-name (cell_of code) in
      passes _ e ∙ ap (λ (t : Bool). refuse t 8) (le-ltb room (length (name_of (cell_of code))) (omega arith))

-- a refusal leaves the lent bytes as they were
pub nothing_written : {q : ℕ} (r n : ℕ) (x s : List ℕ) → q ≡ suc r → (Err (suc r) ≡ named q n) × (s ≡ given q x s)
unfolding named given
nothing_written r n x s e = (sym (ap (λ (y : ℕ). named y n) e), sym (ap (λ (y : ℕ). given y x s) e))

pub name-written : {q n m : ℕ} {t x : List ℕ} (s : List ℕ) → q ≡ 0 → n ≡ m → t ≡ x → (Ok n ≡ named q m) × (t ≡ given q x s)
unfolding named given
name-written {m = m} {x = x} s e h k = (ap Ok h ∙ sym (ap (λ (y : ℕ). named y m) e), k ∙ sym (ap (λ (y : ℕ). given y x s) e))

-- ---- the answers of `name_code`

-- what the reader of the digits said
pub read-bad : (t : Bool) (v x : ℕ) → Err x ≡ coded (refuse (not t) 3) v → t ≡ false
unfolding coded
read-bad true v x e = let k : ◌≡◌ {A = ℕ} 0 1 = cc in absurd (omega arith)
read-bad false v x e = refl

pub read-good : (t : Bool) (v x : ℕ) → Ok x ≡ coded (refuse (not t) 3) v → (t ≡ true) × (x ≡ v)
unfolding coded
read-good true v x e = (refl, cc)
read-good false v x e = let k : ◌≡◌ {A = ℕ} 0 1 = cc in absurd (omega arith)
