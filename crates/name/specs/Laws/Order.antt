-- Code order is the byte order of names. Assumes nothing.
use Rattle.std.specs.Prelude.{◌≡◌, refl, ◌⊎◌, ℕ, zero, suc, ◌+◌, ◌-◌, ◌*◌, ◌/◌, ◌%◌, ◌^◌, ◌≤◌, ◌<◌, List, [], ◌∷◌, ◌++◌, length}
use Rattle.std.proofs.Common.{sym, ap, ap₂, ◌∙◌, inl, inr, add-mul, mul_assoc, suc-mul, mul-le-mul_right, mul-lt-mul_of_pos_right, zero-mul, add-one, arith}
use Rattle.std.proofs.Math.Logic.{⊎_elim}
use Rattle.std.proofs.lemmas.List.{map-append}
use Rattle.logic.specs.Laws.Order.{three_ways}
use Rattle.ternary.specs.Digits.{value, Below}
use Rattle.ternary.proofs.Laws.Digits.{value-below}
use Rattle.ternary.proofs.Laws.Powers.{nine-pos, nine-add}
use Rattle.cell.specs.declared.Cell.{Cell}
use Rattle.cell.specs.declared.Arrangement.{Arrangement}
use Rattle.cell.specs.Cell.{IsCell}
use Rattle.cell.specs.Hierarchy.{child_of}
use Rattle.code.specs.Code.{digits_of, path_of, cell_code_at, cell_code, code_of}
use Rattle.code.proofs.Laws.Code.{length-digits-of, digits-of-below, code-order}
use Rattle.name.specs.Name.{digit_bytes, name_of, name_code}
use Rattle.name.specs.Laws.Name.{name-code}
use Rattle.name.specs.Order.{Before}

-- ---- digits with zeros behind them, r digits in all

rank : ℕ → List ℕ → ℕ
rank r ds = value 9 ds * 9 ^ (r - length ds)

rank-nil : (r : ℕ) → rank r [] ≡ 0
unfolding rank value
rank-nil r = zero-mul (9 ^ (r - 0))

-- the first digit counts 9^r of the others
rank-cons : (r d : ℕ) (ds : List ℕ) → length ds ≤ r → rank (suc r) (d ∷ ds) ≡ d * 9 ^ r + rank r ds
unfolding rank value
rank-cons r d ds h =
    let n = length ds in
    let e : suc r - suc n ≡ r - n = omega arith in
    let s : n + (r - n) ≡ r = omega arith in
    let p : 9 ^ n * 9 ^ (r - n) ≡ 9 ^ r = sym (nine-add n (r - n)) ∙ ap (λ (x : ℕ). 9 ^ x) s in
    ap (λ (x : ℕ). (d * 9 ^ n + value 9 ds) * 9 ^ x) e ∙ add-mul (d * 9 ^ n) (value 9 ds) (9 ^ (r - n)) ∙ ap (λ (x : ℕ). x + value 9 ds * 9 ^ (r - n))
    (mul_assoc d (9 ^ n) (9 ^ (r - n)) ∙ ap (λ (x : ℕ). d * x) p)

rank-small : (r : ℕ) (ds : List ℕ) → Below 9 ds → length ds ≤ r → rank r ds < 9 ^ r
unfolding rank
rank-small r ds b h =
    let n = length ds in
    let s : n + (r - n) ≡ r = omega arith in
    let p : 9 ^ n * 9 ^ (r - n) ≡ 9 ^ r = sym (nine-add n (r - n)) ∙ ap (λ (x : ℕ). 9 ^ x) s in
    let m : value 9 ds * 9 ^ (r - n) < 9 ^ n * 9 ^ (r - n) = mul-lt-mul_of_pos_right (value-below 9 ds b) (nine-pos (r - n)) in
    omega arith

-- digits that stand before others have the smaller rank, or the same and fewer digits
before-rank : (r : ℕ) (ds es : List ℕ) → r ≤ 15 → Below 9 ds → Below 9 es → length ds ≤ r → length es ≤ r → Before ds es → rank r ds * 16 + length ds < rank r es *
    16 + length es
before-rank r [] [] h b c l m f = absurd f
before-rank r [] (e ∷ es) h b c l m f = let z = rank-nil r in omega arith
before-rank r (d ∷ ds) [] h b c l m f = absurd f
before-rank zero (d ∷ ds) (e ∷ es) h b c l m f = absurd (omega arith)
before-rank (suc r) (d ∷ ds) (e ∷ es) h b c l m f =
    let p = rank-cons r d ds (omega arith) in
    let q = rank-cons r e es (omega arith) in
    ⊎_elim
    (λ k.
    let s = rank-small r ds b.1 (omega arith) in
    let t : suc d * 9 ^ r ≤ e * 9 ^ r = mul-le-mul_right (9 ^ r) k in
    let u : suc d * 9 ^ r ≡ d * 9 ^ r + 9 ^ r = suc-mul d (9 ^ r) in
    omega arith)
    (λ k.
    let i = before-rank r ds es (omega arith) b.1 c.1 (omega arith) (omega arith) k.1 in
    let v : d * 9 ^ r ≡ e * 9 ^ r = ap (λ (x : ℕ). x * 9 ^ r) k.0 in
    omega arith)
    f

-- ---- bytes of digits stand as the digits do

bytes-before : (ds es : List ℕ) → Before (digit_bytes ds) (digit_bytes es) → Before ds es
bytes-before [] [] f = f
bytes-before [] (e ∷ es) f = tt
bytes-before (d ∷ ds) [] f = f
bytes-before (d ∷ ds) (e ∷ es) f = ⊎_elim (λ k. inl (omega arith)) (λ k. inr (omega (arith, k.0), bytes-before ds es k.1)) f

-- ---- of two names one stands before the other, or they are the same

total-order : (xs ys : List ℕ) → Before xs ys ⊎ ((xs ≡ ys) ⊎ Before ys xs)
total-order [] [] = inr (inl refl)
total-order [] (y ∷ ys) = inl tt
total-order (x ∷ xs) [] = inr (inr tt)
total-order (x ∷ xs) (y ∷ ys) =
    ⊎_elim (λ k. inl (inl k))
    (⊎_elim
    (λ e. ⊎_elim (λ k. inl (inr (e, k))) (⊎_elim (λ k. inr (inl (ap₂ ◌∷◌ e k))) (λ k. inr (inr (inr (sym e, k))))) (total-order xs ys))
    (λ k. inr (inr (inl k))))
    (three_ways x y)

-- ---- the theorem, both ways

code-rank : (c : Cell) → cell_code c ≡ (c.face * 205891132094649 + rank 15 (digits_of c.resolution c.row c.column)) * 16 + c.resolution
unfolding cell_code cell_code_at path_of rank
code-rank c =
    ap (λ (x : ℕ). (c.face * 205891132094649 + value 9 (digits_of c.resolution c.row c.column) * 9 ^ (15 - x)) * 16 + c.resolution)
    (sym (length-digits-of c.resolution c.row c.column))

module _ (a b : Cell) (v : IsCell a) (w : IsCell b) where
  before-cells : Before (name_of a) (name_of b) → cell_code a < cell_code b
  unfolding name_of
  before-cells f =
      let ds = digits_of a.resolution a.row a.column in
      let es = digits_of b.resolution b.row b.column in
      let m = length-digits-of a.resolution a.row a.column in
      let n = length-digits-of b.resolution b.row b.column in
      let p = code-rank a in
      let q = code-rank b in
      ⊎_elim
      (λ k.
      let s : rank 15 ds < 205891132094649 = rank-small 15 ds (digits-of-below a.resolution a.row a.column) (omega (arith, v.fine)) in
      omega (arith, v.fine))
      (λ k.
      let i = before-rank 15 ds es (omega arith) (digits-of-below a.resolution a.row a.column) (digits-of-below b.resolution b.row b.column) (omega (arith, v.fine))
      (omega (arith, w.fine)) (bytes-before ds es k.1) in
      let e : 78 + a.face ≡ 78 + b.face = k.0 in
      omega arith)
      f

-- "Code order is the byte order of names", among cells of one arrangement
pub before-code : (r : Arrangement) (a b : Cell) → IsCell a → IsCell b → Before (name_of a) (name_of b) → code_of r a < code_of r b
before-code r a b v w f = (code-order r a b).1 (before-cells a b v w f)

pub code-before : (r : Arrangement) (a b : Cell) → IsCell a → IsCell b → code_of r a < code_of r b → Before (name_of a) (name_of b)
code-before r a b v w h =
    ⊎_elim (λ k. k)
    (⊎_elim
    (λ e. absurd (let p : code_of r a ≡ code_of r b = sym (name-code r a) ∙ ap (name_code r) e ∙ name-code r b in omega arith))
    (λ k. absurd (let p = before-code r b a w v k in omega arith)))
    (total-order (name_of a) (name_of b))

-- ---- a child's name is its cell's, with one digit more

pub name-child : (c : Cell) (d : ℕ) → d ≤ 8 → name_of (child_of c d) ≡ name_of c ++ ((48 + d) ∷ [])
unfolding name_of child_of digits_of
name-child c d h =
    let k = c.resolution in
    let i : (3 * c.row + d / 3) / 3 ≡ c.row = omega arith in
    let j : (3 * c.column + d % 3) / 3 ≡ c.column = omega arith in
    let e : 3 * ((3 * c.row + d / 3) % 3) + (3 * c.column + d % 3) % 3 ≡ d = omega arith in
    let p : digits_of (k + 1) (3 * c.row + d / 3) (3 * c.column + d % 3) ≡ digits_of k c.row c.column ++ (d ∷ []) =
    ap (λ (x : ℕ). digits_of x (3 * c.row + d / 3) (3 * c.column + d % 3)) (add-one k)
    ∙ ap₂ (λ (l : List ℕ) (x : ℕ). l ++ (x ∷ [])) (ap₂ (digits_of k) i j) e in
    ap (λ (l : List ℕ). (78 + c.face) ∷ l) (ap digit_bytes p ∙ map-append (λ (x : ℕ). 48 + x) (digits_of k c.row c.column) (d ∷ []))
