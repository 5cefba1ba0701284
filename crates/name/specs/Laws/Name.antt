-- Names and codes turn into each other without loss. Assumes nothing.
use Rattle.std.specs.Prelude.{◌≡◌, refl, true, false, ◌&&◌, ℕ, suc, ◌+◌, ◌-◌, ◌/◌, ◌^◌, ◌≤◌, ◌<◌, List, [], ◌∷◌, map, leb, ltb, length, drop, get_or}
use Rattle.std.proofs.Common.{sym, ap, ap₂, ◌∙◌, arith, le-leb, le-ltb, leb-true, ltb-false}
use Rattle.std.proofs.lemmas.List.{length-map}
use Rattle.std.proofs.lemmas.Bool.{not-false}
use Rattle.logic.specs.Laws.Bools.{and_left, and_right, clash}
use Rattle.logic.specs.Refusal.{◌otherwise◌}
use Rattle.logic.specs.Laws.Refusal.{both, allowed}
use Rattle.ternary.specs.Digits.{value, digits, Below}
use Rattle.ternary.proofs.Laws.Digits.{value-below, digits_value}
use Rattle.cell.specs.declared.Cell.{Cell}
use Rattle.cell.specs.declared.Arrangement.{Arrangement}
use Rattle.cell.specs.Cell.{IsCell, IsArrangement}
use Rattle.code.specs.Code.{digits_of, code_at, cell_code, code_of, path_of, cell_of, path_in, is_code}
use Rattle.code.proofs.Laws.Code.{made-face, made-resolution, code-path, is-code, cell-digits, length-digits-of, digits-of-below}
use Rattle.name.specs.Name.{NameForm, digit_bytes, name_of, first_letter, is_digit, all_digits, name_refusal, digits_in, name_code}

pub length-name : (c : Cell) → length (name_of c) ≡ c.resolution + 1
unfolding name_of
length-name c =
    let e = length-map (digits_of c.resolution c.row c.column) (λ (d : ℕ). 48 + d) ∙ length-digits-of c.resolution c.row c.column in
    omega arith

-- the name of a code's cell, from the code's own path
pub code-name-is : (code : ℕ) → name_of (cell_of code) ≡ (78 + (cell_of code).face) ∷ digit_bytes (digits 9 (cell_of code).resolution (path_in (code / 16)))
unfolding name_of
code-name-is code = ap (λ (l : List ℕ). (78 + (cell_of code).face) ∷ digit_bytes l) (cell-digits code)

-- ---- digits as bytes, and back

digits-back : (ds : List ℕ) → map (λ b. b - 48) (digit_bytes ds) ≡ ds
digits-back [] = refl
digits-back (d ∷ ds) = ap₂ ◌∷◌ (omega arith) (digits-back ds)

bytes-digits : (ds : List ℕ) → Below 9 ds → all_digits (digit_bytes ds) ≡ true
unfolding all_digits
bytes-digits [] h = refl
bytes-digits (d ∷ ds) h =
    ap₂ ◌&&◌ (ap₂ ◌&&◌ (le-leb 48 (48 + d) (omega arith)) (le-leb (48 + d) 56 (omega (arith, h.0)))) (bytes-digits ds h.1)

is_digit_lem : (b : ℕ) → is_digit b ≡ true → (48 ≤ b) × (b ≤ 56)
is_digit_lem b e = (leb-true 48 b (and_left _ _ e), leb-true b 56 (and_right (leb 48 b) _ e))

pub bytes_back : (bs : List ℕ) → all_digits bs ≡ true → digit_bytes (map (λ b. b - 48) bs) ≡ bs
unfolding all_digits
bytes_back [] e = refl
bytes_back (b ∷ bs) e =
    let d = is_digit_lem b (and_left _ _ e) in ap₂ ◌∷◌ (omega arith) (bytes_back bs (and_right (is_digit b) _ e))

pub digits-below-nine : (bs : List ℕ) → all_digits bs ≡ true → Below 9 (map (λ b. b - 48) bs)
unfolding all_digits
digits-below-nine [] e = tt
digits-below-nine (b ∷ bs) e =
    let d = is_digit_lem b (and_left _ _ e) in (omega arith, digits-below-nine bs (and_right (is_digit b) _ e))

-- ---- a cell's name is accepted, and is its code's

pub name-accepted : (c : Cell) → IsCell c → name_refusal (name_of c) ≡ 0
unfolding name_refusal ◌otherwise◌ name_of
name-accepted c v =
    let n : length (name_of c) ≡ c.resolution + 1 = length-name c in
    let h : length (name_of c) ≤ 16 = omega (arith, v.fine) in
    let a : ltb 16 (length (name_of c)) ≡ false = le-ltb 16 (length (name_of c)) h in
    let p : leb 78 (78 + c.face) ≡ true = le-leb 78 (78 + c.face) (omega arith) in
    let q : leb (78 + c.face) 83 ≡ true = le-leb (78 + c.face) 83 (omega (arith, v.faced)) in
    let d : all_digits (digit_bytes (digits_of c.resolution c.row c.column)) ≡ true =
    bytes-digits (digits_of c.resolution c.row c.column) (digits-of-below c.resolution c.row c.column) in
    simp (a, p, q, d)

pub name-code : (a : Arrangement) (c : Cell) → name_code a (name_of c) ≡ code_of a c
unfolding name_code name_of code_at code_of cell_code path_of
name-code a c =
    let n : length (name_of c) - 1 ≡ c.resolution = let e = length-name c in omega arith in
    let f : 78 + c.face - 78 ≡ c.face = omega arith in
    ap₂ (λ (x y : ℕ). code_at a x y (value 9 (map (λ b. b - 48) (digit_bytes (digits_of c.resolution c.row c.column))))) f n
    ∙ ap (λ (l : List ℕ). code_at a c.face c.resolution (value 9 l)) (digits-back (digits_of c.resolution c.row c.column))

-- ---- an accepted name is the name of its code's cell

pub accepted : (bs : List ℕ) → name_refusal bs ≡ 0 → NameForm bs
unfolding name_refusal
accepted bs e =
    let p = both _ _ e in
    let q = both _ _ p.1 in
    record {
      short = ltb-false 16 (length bs) (allowed 1 _ p.0);
      lettered = not-false (first_letter bs) (allowed 0 _ q.0);
      digital = not-false (all_digits (drop 1 bs)) (allowed 2 _ q.1);
    }

pub not-refused : (bs : List ℕ) → NameForm bs → name_refusal bs ≡ 0
unfolding name_refusal ◌otherwise◌
not-refused bs a = simp (le-ltb 16 (length bs) a.short, a.lettered, a.digital)

-- what a letter in front says
pub letter-bounds : (bs : List ℕ) → first_letter bs ≡ true → (0 < length bs) × (78 ≤ get_or bs 0 0) × (get_or bs 0 0 ≤ 83)
unfolding first_letter
letter-bounds [] e = clash (sym e)
letter-bounds (b ∷ bs) e = (omega arith, leb-true 78 b (and_left _ _ e), leb-true b 83 (and_right (leb 78 b) _ e))

pub path-below : (bs : List ℕ) → NameForm bs → value 9 (digits_in bs) < 9 ^ (length bs - 1)
path-below [] a = clash (letterless a.lettered)
  where
    letterless : first_letter [] ≡ true → true ≡ false
    letterless e = absurd (let h = letter-bounds [] e in omega arith)
path-below (b ∷ bs) a =
    let n : length (map (λ (x : ℕ). x - 48) bs) ≡ suc (length bs) - 1 = length-map bs (λ (x : ℕ). x - 48) ∙ omega arith in
    rw n at (value-below 9 (map (λ x. x - 48) bs) (digits-below-nine bs a.digital))

pub name-code-is : {r : Arrangement} (bs : List ℕ) → IsArrangement r → NameForm bs → is_code (name_code r bs) ≡ true
unfolding name_code
name-code-is bs g a =
    let l = letter-bounds bs a.lettered in
    is-code g (get_or bs 0 0 - 78) (length bs - 1) (value 9 (digits_in bs)) (omega arith) (omega (arith, a.short)) (path-below bs a)

pub code-name : {r : Arrangement} (bs : List ℕ) → IsArrangement r → NameForm bs → name_of (cell_of (name_code r bs)) ≡ bs
unfolding name_code
code-name [] g a = absurd (let h = letter-bounds [] a.lettered in omega arith)
code-name {r} (b ∷ bs) g a =
    let l : (0 < suc (length bs)) × (78 ≤ b) × (b ≤ 83) = letter-bounds (b ∷ bs) a.lettered in
    let ds : List ℕ = map (λ (x : ℕ). x - 48) bs in
    let k : ℕ = suc (length bs) - 1 in
    let f : b - 78 ≤ 5 = omega arith in
    let h : k ≤ 15 = omega (arith, a.short) in
    let p = path-below (b ∷ bs) a in
    let n : k ≡ length ds = sym (length-map bs (λ (x : ℕ). x - 48) ∙ omega arith) in
    let face = made-face g (b - 78) k (value 9 ds) f h p in
    let resolution = made-resolution g (b - 78) k (value 9 ds) f h p in
    let path = code-path g (b - 78) k (value 9 ds) f h p in
    let letter : 78 + (b - 78) ≡ b = omega arith in
    code-name-is (code_at r (b - 78) k (value 9 ds))
    ∙ ap₂ (λ (x : ℕ) (m : List ℕ). x ∷ digit_bytes m) (ap (λ (x : ℕ). 78 + x) face ∙ letter) (ap₂ (digits 9) (resolution ∙ n) path ∙ digits_value 9 ds (omega arith)
    (digits-below-nine bs a.digital))
    ∙ ap (λ (m : List ℕ). b ∷ m) (bytes_back bs a.digital)
