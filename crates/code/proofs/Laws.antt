pub mod Code
pub mod Coded
pub mod Decoded
pub mod Exact
pub mod Inside
pub mod Number
pub mod Size
-- What taking a code apart answers, and what is woven. Assumes nothing.
use Rattle.std.specs.Prelude.{Err, Ok}
use mathlib.Core.Path.{◌≡◌, refl, sym, ap, ap₂, ◌∙◌}
use mathlib.Core.Bool.{Bool, true, false, ◌&&◌}
use Prim.Native.Nat.{ℕ, suc, ◌+◌, ◌-◌, ◌*◌, ◌/◌, ◌%◌, ◌^◌, ◌≤◌, ◌<◌}
use native.Mathlib.Nat.{div-add-mod', dvd-mul_right, mod-mod_of_dvd, mul_assoc, mul_comm, mul_left_comm, mul-le-mul_right, suc-mul}
use native.Mathlib.Omega.{arith}
use lib.Dec.{eqb, ltb}
use borrow.Author.Tests.{lt-ltb, le-ltb, eq-eqb, ne_eqb, eqb-true, eqb-false}
use Rattle.ternary.proofs.Laws.Powers.{power-add, power_le, power_pos, nine-le, nine-split}
use Rattle.ternary.specs.Weave.{weave, row_in, column_in}
use Rattle.ternary.proofs.Laws.Weave.{weave-shift, cell-part, row_more, column-more}
use Rattle.cell.specs.declared.Cell.{Cell}
use Rattle.cell.specs.declared.Arrangement.{Arrangement}
use Rattle.cell.specs.Cell.{IsCell, IsArrangement}
use Rattle.code.specs.Code.{cell_split, arrangement_of, is_of, is_cell_code, cell_code_refusal, path_in, cell_code, cell_code_at, code_at, code_of}
use Rattle.code.proofs.Laws.Code.{path-weave, path-in-small, cell-code-passes, cell-code-stops}

-- a face has a whole number of cells of each size, so the face need not be taken off
pub rest-cut : (n j : ℕ) → j ≤ 15 → n % 9 ^ 15 % 9 ^ j ≡ n % 9 ^ j
rest-cut n j h = ap (λ (x : ℕ). n % x % 9 ^ j) (sym (nine-split j h)) ∙ mod-mod_of_dvd (9 ^ j) n (dvd-mul_right (9 ^ j) (9 ^ (15 - j)))

-- ---- a row or a column as the first part of its finest ones

module _ (k i : ℕ) (fine : k ≤ 15) (h : i < 3 ^ k) where
  abbrev step : ℕ
  step = 3 ^ (15 - k)

  three-split : 3 ^ k * step ≡ 14348907
  three-split = let e : k + (15 - k) ≡ 15 = omega arith in sym (power-add k (15 - k)) ∙ ap (λ (x : ℕ). 3 ^ x) e

  finest-below : i * step < 14348907
  finest-below =
      let m : suc i * step ≤ 3 ^ k * step = mul-le-mul_right step h in
      let p = power_pos (15 - k) in
      let e = three-split in
      let f = suc-mul i step in
      omega arith

  first_part : i * (5021817623 * step) ≡ i * step * 5021817623
  first_part = simp (mul_assoc, mul_comm, mul_left_comm)

  pub part-below : i * (5021817623 * step) < 72057594037927936
  part-below = let e = first_part in let b = (cell-part (i * step) finest-below).0 in omega arith

  pub part-is : i * (5021817623 * step) * 14348907 / 72057594037927936 ≡ i * step
  part-is = ap (λ (x : ℕ). x * 14348907 / 72057594037927936) first_part ∙ (cell-part (i * step) finest-below).1

pub cell-fits : (k : ℕ) → k ≤ 15 → 5021817623 * 3 ^ (15 - k) < 144115188075855872
cell-fits k h = let e : 15 - k ≤ 15 = omega arith in let p : 3 ^ (15 - k) ≤ 14348907 = power_le e in omega arith

-- the code by the finest path
pub ended :
    (a : Arrangement) (face k i j row column : ℕ) → k ≤ 15 → row * 14348907 / 72057594037927936 ≡ i * 3 ^ (15 - k) →
    column * 14348907 / 72057594037927936 ≡ j * 3 ^ (15 - k) →
    weave 15 (row * 14348907 / 72057594037927936) (column * 14348907 / 72057594037927936) * 256 + (face * 52708129816230144 + (16 * k + (4 * a.north + a.south)))
    ≡ code_at a face k (weave k i j)
unfolding code_at cell_code_at
ended a face k i j row column h u v =
    let e : 15 ≡ k + (15 - k) = omega arith in
    let w : weave 15 (row * 14348907 / 72057594037927936) (column * 14348907 / 72057594037927936) ≡ weave k i j * 9 ^ (15 - k) =
    ap₂ (weave 15) u v ∙ ap (λ (n : ℕ). weave n (i * 3 ^ (15 - k)) (j * 3 ^ (15 - k))) e ∙ weave-shift k (15 - k) i j in
    omega arith

-- a cell's numbers, and its code by them
pub cell-numbers : {c : Cell} → IsCell c → (c.face ≤ 5) × (c.resolution ≤ 15) × (c.row < 3 ^ c.resolution) × (c.column < 3 ^ c.resolution)
cell-numbers v = (v.faced, v.fine, v.rowed, v.columned)

pub woven-code : (a : Arrangement) (c : Cell) → code_at a c.face c.resolution (weave c.resolution c.row c.column) ≡ code_of a c
unfolding code_at code_of cell_code
woven-code a c = ap (code_at a c.face c.resolution) (sym (path-weave c))

module _ (code : ℕ) (t : is_cell_code code ≡ true) where
  fine : code % 16 ≤ 15
  fine = omega arith

  sum : 16 ≡ 16 - code % 16 + code % 16
  sum = omega arith

  pub path-below : path_in code < 1853020188851841
  path-below = let p : 9 ^ (code % 16) ≤ 205891132094649 = nine-le {i = code % 16} {j = 15} fine in omega (arith, path-in-small code t)

  pub row-sixteen : row_in 16 (path_in code) ≡ row_in (code % 16) (path_in code)
  row-sixteen = ap (λ (x : ℕ). row_in x (path_in code)) sum ∙ row_more (code % 16) (16 - code % 16) (path_in code) (path-in-small code t)

  pub column-sixteen : column_in 16 (path_in code) ≡ column_in (code % 16) (path_in code)
  column-sixteen = ap (λ (x : ℕ). column_in x (path_in code)) sum ∙ column-more (code % 16) (16 - code % 16) (path_in code) (path-in-small code t)

-- ---- what is answered

-- 4 where a number is no code
pub no_code : (code : ℕ) → is_cell_code code ≡ false → Err 4 ≡ cell_split (cell_code_refusal code) code
unfolding cell_split
no_code code e = sym (ap (λ (r : ℕ). cell_split r code) (cell-code-stops code e))

-- and else its parts
pub a-cell-code : (code : ℕ) {p : ℕ} → is_cell_code code ≡ true → p ≡ path_in code → Ok (record { face = code / 16 / 205891132094649; resolution = code % 16; path = p }) ≡ cell_split (cell_code_refusal code) code
unfolding cell_split
a-cell-code code e h = ap (λ (x : ℕ). Ok (record { face = code / 16 / 205891132094649; resolution = code % 16; path = x })) h ∙ sym (ap (λ (r : ℕ). cell_split r code) (cell-code-passes code e))

-- a number is no code where its face is none of the six
pub no-face : (code : ℕ) → 6 ≤ code / 16 / 205891132094649 → is_cell_code code ≡ false
unfolding is_cell_code
no-face code h = ap (λ (b : Bool). b && eqb (code / 16 % 9 ^ 15 % 9 ^ (15 - code % 16)) 0) (le-ltb (code / 16 / 9 ^ 15) 6 h)

and-false : (b : Bool) → (b && false) ≡ false
and-false true = refl
and-false false = refl

-- or where its place in the face is no multiple of its size; otherwise it is one
module _ (code : ℕ) {size : ℕ} (e : size ≡ 9 ^ (15 - code % 16)) where
  pub a-rest : (code / 16 % 205891132094649 / size * size ≡ code / 16 % 205891132094649 → ⊥) → is_cell_code code ≡ false
  unfolding is_cell_code
  a-rest h =
      let x = code / 16 % 205891132094649 in
      let n = 9 ^ (15 - code % 16) in
      let z : x % n ≡ 0 → x / size * size ≡ x = λ r. ap (λ (y : ℕ). x / y * y) e ∙ (let d = div-add-mod' x n in omega arith) in
      ap (λ (b : Bool). ltb (code / 16 / 9 ^ 15) 6 && b) (ne_eqb (x % n) 0 (λ r. h (z r))) ∙ and-false (ltb (code / 16 / 9 ^ 15) 6)

  pub no-rest : code / 16 / 205891132094649 < 6 → code / 16 % 205891132094649 / size * size ≡ code / 16 % 205891132094649 → is_cell_code code ≡ true
  unfolding is_cell_code
  no-rest f h =
      let x = code / 16 % 205891132094649 in
      let n = 9 ^ (15 - code % 16) in
      let g : x / n * n ≡ x = sym (ap (λ (y : ℕ). x / y * y) e) ∙ h in
      let z : x % n ≡ 0 = let d = div-add-mod' x n in omega arith in
      ap₂ ◌&&◌ (lt-ltb (code / 16 / 9 ^ 15) 6 f) (eq-eqb (x % n) 0 z)

-- ---- the arrangement is what is left of a code by 16

pub arranged : {a : Arrangement} → IsArrangement a → (code : ℕ) → eqb (code % 16) (4 * a.north + a.south) ≡ is_of a code
unfolding is_of arrangement_of
arranged {a} g code = go (eqb (code / 4 % 4) a.north) refl (eqb (code % 4) a.south) refl
  where
    go :
        (n : Bool) → eqb (code / 4 % 4) a.north ≡ n → (s : Bool) → eqb (code % 4) a.south ≡ s →
        eqb (code % 16) (4 * a.north + a.south) ≡ (n && s)
    go true e true f = eq-eqb (code % 16) (4 * a.north + a.south) (omega (arith, eqb-true (code / 4 % 4) a.north e, eqb-true (code % 4) a.south f))
    go true e false f = ne_eqb (code % 16) (4 * a.north + a.south) (λ h. eqb-false (code % 4) a.south f (omega (arith, g.southern)))
    go false e s f = ne_eqb (code % 16) (4 * a.north + a.south) (λ h. eqb-false (code / 4 % 4) a.north e (omega (arith, g.southern)))
