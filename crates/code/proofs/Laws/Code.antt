-- Codes and cells determine each other. Assumes nothing.
use Rattle.std.specs.Prelude.{◌≡◌, ◌↔◌, Bool, true, false, not, ℕ, zero, suc, ◌+◌, ◌-◌, ◌*◌, ◌/◌, ◌%◌, ◌^◌, ◌≤◌, ◌<◌, List, [], ◌∷◌, ◌++◌, eqb, ltb, length}
use Rattle.std.proofs.Math.Path.{refl, ap, ap₂}
use Rattle.std.proofs.Common.{sym, ◌∙◌, mul-lt-mul_of_pos_right, div-lt_iff_lt-mul, length-append}
use Rattle.std.proofs.Math.Bool.{◌&&◌}
use Rattle.std.proofs.Math.Nat.{mul-div_cancel, mul-mod_left, div-add-mod'}
use native.Mathlib.Omega.{arith}
use borrow.Author.Tests.{lt-ltb, eq-eqb, ltb-true, eqb-true, not-false}
use Rattle.logic.specs.Laws.Bools.{and_left, and_right}
use Rattle.logic.specs.Refusal.{refuse}
use Rattle.logic.specs.Laws.Refusal.{allowed}
use Rattle.ternary.specs.Digits.{value, digits, Below}
use Rattle.ternary.proofs.Laws.Digits.{value-snoc, below-snoc}
use Rattle.ternary.proofs.Laws.Powers.{nine-pos, nine-split}
use Rattle.ternary.specs.Weave.{weave, row_in, column_in}
use Rattle.ternary.proofs.Laws.Weave.{weave-small, weave-row, row-weave, column-weave, row_small, column-small}
use Rattle.cell.specs.declared.Cell.{Cell}
use Rattle.cell.specs.declared.Arrangement.{Arrangement}
use Rattle.cell.specs.Cell.{IsCell, IsArrangement, found}
use Rattle.code.specs.Code.{digits_of, path_of, cell_code_at, cell_code, path_in, cell_coded, is_cell_code, cell_code_refusal}
use Rattle.code.specs.Code.{code_at, code_of, cell_of, arrangement_of, is_code, is_of, code_refusal, coded, Placed, found_code}

-- the digits, read in base nine, are the woven path
pub value-weave : (k i j : ℕ) → value 9 (digits_of k i j) ≡ weave k i j
unfolding digits_of weave value
value-weave zero i j = refl
value-weave (suc k) i j =
    value-snoc 9 (digits_of k (i / 3) (j / 3)) (3 * (i % 3) + j % 3) ∙ ap (λ (x : ℕ). x * 9 + (3 * (i % 3) + j % 3)) (value-weave k (i / 3) (j / 3))

pub path-weave : (c : Cell) → path_of c ≡ weave c.resolution c.row c.column
unfolding path_of
path-weave c = value-weave c.resolution c.row c.column

pub path-small : (c : Cell) → path_of c < 9 ^ c.resolution
path-small c = rw (path-weave c) (weave-small c.resolution c.row c.column)

-- the first finest cell of a path is one of the face's 9^15
pub finest-small : (k path : ℕ) → k ≤ 15 → path < 9 ^ k → path * 9 ^ (15 - k) < 205891132094649
finest-small k path h l =
    let m : path * 9 ^ (15 - k) < 9 ^ k * 9 ^ (15 - k) = mul-lt-mul_of_pos_right l (nine-pos (15 - k)) in
    let e : 9 ^ k * 9 ^ (15 - k) ≡ 205891132094649 = nine-split k h in
    omega arith

-- ---- what is read from a code that was made
module _ (face k path : ℕ) (f : face ≤ 5) (h : k ≤ 15) (l : path < 9 ^ k) where
  made : cell_code_at face k path ≡ (face * 205891132094649 + path * 9 ^ (15 - k)) * 16 + k
  unfolding cell_code_at
  made = refl

  cell-code-resolution : cell_code_at face k path % 16 ≡ k
  cell-code-resolution = let e = made in omega arith

  pub cell-code-start : cell_code_at face k path / 16 ≡ face * 205891132094649 + path * 9 ^ (15 - k)
  cell-code-start = let e = made in omega arith

  cell-code-face : cell_code_at face k path / 16 / 9 ^ 15 ≡ face
  cell-code-face =
      let e : cell_code_at face k path / 16 ≡ face * 205891132094649 + path * 9 ^ (15 - k) = cell-code-start in
      let s = finest-small k path h l in
      let g : (face * 205891132094649 + path * 9 ^ (15 - k)) / 205891132094649 ≡ face = omega arith in
      ap (λ (x : ℕ). x / 9 ^ 15) e ∙ g

  rest : cell_code_at face k path / 16 % 9 ^ 15 ≡ path * 9 ^ (15 - k)
  rest =
      let e : cell_code_at face k path / 16 ≡ face * 205891132094649 + path * 9 ^ (15 - k) = cell-code-start in
      let s = finest-small k path h l in
      let g : (face * 205891132094649 + path * 9 ^ (15 - k)) % 205891132094649 ≡ path * 9 ^ (15 - k) = omega arith in
      ap (λ (x : ℕ). x % 9 ^ 15) e ∙ g

  cell-code-path : path_in (cell_code_at face k path) ≡ path
  unfolding path_in
  cell-code-path =
      ap₂ (λ (x y : ℕ). x / 9 ^ (15 - y)) rest cell-code-resolution ∙ mul-div_cancel path (nine-pos (15 - k))

  coded-face : (cell_coded (cell_code_at face k path)).face ≡ face
  unfolding cell_coded
  coded-face = cell-code-face

  coded-resolution : (cell_coded (cell_code_at face k path)).resolution ≡ k
  unfolding cell_coded
  coded-resolution = cell-code-resolution

  is-cell-code : is_cell_code (cell_code_at face k path) ≡ true
  unfolding is_cell_code
  is-cell-code =
      let z : cell_code_at face k path / 16 % 9 ^ 15 % 9 ^ (15 - cell_code_at face k path % 16) ≡ 0 =
      ap₂ (λ (x y : ℕ). x % 9 ^ (15 - y)) rest cell-code-resolution ∙ mul-mod_left path (9 ^ (15 - k)) in
      let g : cell_code_at face k path / 16 / 9 ^ 15 < 6 = rw cell-code-face (omega arith) in
      ap₂ ◌&&◌ (lt-ltb (cell_code_at face k path / 16 / 9 ^ 15) 6 g) (eq-eqb _ 0 z)

  -- "The greatest code is 19,765,548,681,086,303."
  pub cell-code-at-most : cell_code_at face k path ≤ 19765548681086303
  cell-code-at-most = let e = made in let s = finest-small k path h l in omega arith

-- ---- decode after encode is the cell

pub has-cell-code : (c : Cell) → IsCell c → is_cell_code (cell_code c) ≡ true
unfolding cell_code
has-cell-code c v = is-cell-code c.face c.resolution (path_of c) v.faced v.fine (path-small c)

pub cell-coded : (c : Cell) → IsCell c → cell_coded (cell_code c) ≡ c
unfolding cell_code cell_coded
cell-coded c v =
    let k = c.resolution in
    let r = cell-code-resolution c.face k (path_of c) v.faced v.fine (path-small c) in
    let p = cell-code-path c.face k (path_of c) v.faced v.fine (path-small c) ∙ path-weave c in
    λ i. record {
      face = cell-code-face c.face k (path_of c) v.faced v.fine (path-small c) i;
      resolution = r i;
      row = (ap₂ row_in r p ∙ row-weave k c.row c.column v.rowed) i;
      column = (ap₂ column_in r p ∙ column-weave k c.row c.column v.columned) i;
    }

pub cell-code-most : (c : Cell) → IsCell c → cell_code c ≤ 19765548681086303
unfolding cell_code
cell-code-most c v = cell-code-at-most c.face c.resolution (path_of c) v.faced v.fine (path-small c)

-- two cells with one code are one cell
pub cell-code-one : (c d : Cell) → IsCell c → IsCell d → cell_code c ≡ cell_code d → c ≡ d
cell-code-one c d v w e = sym (cell-coded c v) ∙ ap cell_coded e ∙ cell-coded d w

-- ---- encode after decode is the code

module _ (code : ℕ) (t : is_cell_code code ≡ true) where
  faced-in : code / 16 / 205891132094649 < 6
  unfolding is_cell_code
  faced-in = ltb-true (code / 16 / 9 ^ 15) 6 (and_left _ (eqb (code / 16 % 9 ^ 15 % 9 ^ (15 - code % 16)) 0) t)

  no-rest : code / 16 % 9 ^ 15 % 9 ^ (15 - code % 16) ≡ 0
  unfolding is_cell_code
  no-rest = eqb-true (code / 16 % 9 ^ 15 % 9 ^ (15 - code % 16)) 0 (and_right (ltb (code / 16 / 9 ^ 15) 6) _ t)

  -- the path, moved up, is the finest cell's number in its face
  pub path-finest : path_in code * 9 ^ (15 - code % 16) ≡ code / 16 % 205891132094649
  unfolding path_in
  path-finest =
      let e = div-add-mod' (code / 16 % 9 ^ 15) (9 ^ (15 - code % 16)) in
      let z = no-rest in
      omega arith

  pub path-in-small : path_in code < 9 ^ (code % 16)
  unfolding path_in
  path-in-small =
      let e : 9 ^ (code % 16) * 9 ^ (15 - code % 16) ≡ 205891132094649 = nine-split (code % 16) (omega arith) in
      (div-lt_iff_lt-mul {k = 9 ^ (15 - code % 16)} {x = code / 16 % 9 ^ 15} {y = 9 ^ (code % 16)} (nine-pos (15 - code % 16))).1 (omega arith)

  pub coded-is-cell : IsCell (cell_coded code)
  unfolding cell_coded
  coded-is-cell =
      record {
        fine = omega arith;
        faced = let f = faced-in in omega arith;
        rowed = row_small (code % 16) (path_in code);
        columned = column-small (code % 16) (path_in code);
      }

  pub coded-path : path_of (cell_coded code) ≡ path_in code
  unfolding cell_coded
  coded-path = path-weave (cell_coded code) ∙ weave-row (code % 16) (path_in code) path-in-small

  pub coded-cell : cell_code (cell_coded code) ≡ code
  unfolding cell_code cell_code_at cell_coded
  coded-cell =
      let p : path_of (cell_coded code) * 9 ^ (15 - code % 16) ≡ code / 16 % 205891132094649 = ap (λ (x : ℕ). x * 9 ^ (15 - code % 16)) coded-path ∙ path-finest in
      omega arith

-- ---- the digits of a cell are those of its path

pub digits-woven : (k path : ℕ) → digits_of k (row_in k path) (column_in k path) ≡ digits 9 k path
unfolding digits_of digits row_in column_in
digits-woven zero path = refl
digits-woven (suc k) path =
    let x = row_in k (path / 9) in
    let y = column_in k (path / 9) in
    let i : (x * 3 + path % 9 / 3) / 3 ≡ x = omega arith in
    let j : (y * 3 + path % 3) / 3 ≡ y = omega arith in
    let d : 3 * ((x * 3 + path % 9 / 3) % 3) + (y * 3 + path % 3) % 3 ≡ path % 9 = omega arith in
    ap₂ (λ (a b : ℕ). digits_of k a b ++ ((3 * ((x * 3 + path % 9 / 3) % 3) + (y * 3 + path % 3) % 3) ∷ [])) i j
    ∙ ap₂ (λ (l : List ℕ) (a : ℕ). l ++ (a ∷ [])) (digits-woven k (path / 9)) d

pub coded-digits : (code : ℕ) → digits_of (cell_coded code).resolution (cell_coded code).row (cell_coded code).column ≡ digits 9 (cell_coded code).resolution (path_in code)
unfolding cell_coded
coded-digits code = digits-woven (code % 16) (path_in code)

pub length-digits-of : (k i j : ℕ) → length (digits_of k i j) ≡ k
unfolding digits_of
length-digits-of zero i j = refl
length-digits-of (suc k) i j =
    length-append (digits_of k (i / 3) (j / 3)) ((3 * (i % 3) + j % 3) ∷ []) ∙ (let e = length-digits-of k (i / 3) (j / 3) in omega arith)

pub digits-of-below : (k i j : ℕ) → Below 9 (digits_of k i j)
unfolding digits_of
digits-of-below zero i j = tt
digits-of-below (suc k) i j =
    below-snoc 9 (digits_of k (i / 3) (j / 3)) (3 * (i % 3) + j % 3) (digits-of-below k (i / 3) (j / 3)) (omega arith)

-- a number is refused with 4 or is the cell's part of a code
pub a-cell-code : (code : ℕ) → cell_code_refusal code ≡ 0 → is_cell_code code ≡ true
unfolding cell_code_refusal
a-cell-code code e = not-false (is_cell_code code) (allowed 3 _ e)

pub cell-code-passes : (code : ℕ) → is_cell_code code ≡ true → cell_code_refusal code ≡ 0
unfolding cell_code_refusal
cell-code-passes code e = ap (λ (t : Bool). refuse (not t) 4) e

pub cell-code-stops : (code : ℕ) → is_cell_code code ≡ false → cell_code_refusal code ≡ 4
unfolding cell_code_refusal
cell-code-stops code e = ap (λ (t : Bool). refuse (not t) 4) e

pub cell-code-four : (code : ℕ) → (cell_code_refusal code ≡ 0 → ⊥) → cell_code_refusal code ≡ 4
unfolding cell_code_refusal
cell-code-four code h = go (is_cell_code code) h
  where
    go : (t : Bool) → (refuse (not t) 4 ≡ 0 → ⊥) → refuse (not t) 4 ≡ 4
    go true h = absurd (h refl)
    go false h = refl

-- ---- a code: the cell's part and the arrangement, which take turns of sixteen

cell-refusal : (code : ℕ) → code_refusal code ≡ cell_code_refusal (code / 16)
unfolding code_refusal cell_code_refusal is_code
cell-refusal code = refl

module _ {a : Arrangement} (g : IsArrangement a) (x : ℕ) where
  pub cell-part : (16 * x + (4 * a.north + a.south)) / 16 ≡ x
  cell-part = omega (arith, g.northern, g.southern)

  pub north-part : (16 * x + (4 * a.north + a.south)) / 4 % 4 ≡ a.north
  north-part = omega (arith, g.northern, g.southern)

  pub south-part : (16 * x + (4 * a.north + a.south)) % 4 ≡ a.south
  south-part = omega (arith, g.northern, g.southern)

module _ {a : Arrangement} (g : IsArrangement a) (c : Cell) (v : IsCell c) where
  pub cell-has-code : is_code (code_of a c) ≡ true
  unfolding is_code code_of
  cell-has-code = ap is_cell_code (cell-part g (cell_code c)) ∙ has-cell-code c v

  pub cell-code : cell_of (code_of a c) ≡ c
  unfolding cell_of code_of
  cell-code = ap cell_coded (cell-part g (cell_code c)) ∙ cell-coded c v

  pub arrangement-code : arrangement_of (code_of a c) ≡ a
  unfolding arrangement_of code_of
  arrangement-code = λ i. record { north = north-part g (cell_code c) i; south = south-part g (cell_code c) i }

  -- the greatest code
  pub code-at-most-greatest : code_of a c ≤ 316248778897380863
  unfolding code_of
  code-at-most-greatest = omega (arith, cell-code-most c v, g.northern, g.southern)

-- "N0 at n = s = 0 is 16", and the greatest code is that of S and fifteen digits 8 at n = s = 3
pub code-of-n0 : code_of (record { north = 0; south = 0 }) (record { face = 0; resolution = 1; row = 0; column = 0 }) ≡ 16
unfolding code_of cell_code value
code-of-n0 = refl

-- "plus 4n + s": at n = 1 and s = 2 it is 6 more
pub code-of-n0-arranged : code_of (record { north = 1; south = 2 }) (record { face = 0; resolution = 1; row = 0; column = 0 }) ≡ 22
unfolding code_of cell_code value
code-of-n0-arranged = refl

pub code-greatest : code_of (record { north = 3; south = 3 }) (record { face = 5; resolution = 15; row = 3 ^ 15 - 1; column = 3 ^ 15 - 1 }) ≡ 316248778897380863
unfolding code_of cell_code value
code-greatest = refl

-- what is read from a code that was made
module _ {a : Arrangement} (g : IsArrangement a) (face k path : ℕ) (f : face ≤ 5) (h : k ≤ 15) (l : path < 9 ^ k) where
  cell-made : code_at a face k path / 16 ≡ cell_code_at face k path
  unfolding code_at
  cell-made = cell-part g (cell_code_at face k path)

  pub made-face : (cell_of (code_at a face k path)).face ≡ face
  unfolding cell_of
  made-face = ap (λ (x : ℕ). (cell_coded x).face) cell-made ∙ coded-face face k path f h l

  pub made-resolution : (cell_of (code_at a face k path)).resolution ≡ k
  unfolding cell_of
  made-resolution = ap (λ (x : ℕ). (cell_coded x).resolution) cell-made ∙ coded-resolution face k path f h l

  pub code-path : path_in (code_at a face k path / 16) ≡ path
  code-path = ap path_in cell-made ∙ cell-code-path face k path f h l

  pub is-code : is_code (code_at a face k path) ≡ true
  unfolding is_code
  is-code = ap is_cell_code cell-made ∙ is-cell-code face k path f h l

-- codes and (arrangement, cell) determine each other
pub code_one :
    {a b : Arrangement} (c d : Cell) → IsArrangement a → IsArrangement b → IsCell c → IsCell d → code_of a c ≡ code_of b d → (a ≡ b) × (c ≡ d)
code_one c d g h v w e = (
  sym (arrangement-code g c v) ∙ ap arrangement_of e ∙ arrangement-code h d w,
  sym (cell-code g c v) ∙ ap cell_of e ∙ cell-code h d w,
)

-- "codes of two arrangements are never equal"
pub arrangements-apart :
    {a b : Arrangement} (c d : Cell) → IsArrangement a → IsArrangement b → IsCell c → IsCell d → (a ≡ b → ⊥) → code_of a c ≡ code_of b d → ⊥
arrangements-apart c d g h v w n e = n (code_one c d g h v w e).0

-- "Code order among cells of one arrangement is as before"
pub code-order : (a : Arrangement) (c d : Cell) → (code_of a c < code_of a d) ↔ (cell_code c < cell_code d)
unfolding code_of
code-order a c d = ((λ h. omega arith), (λ h. omega arith))

pub code-arranged : (code : ℕ) → IsArrangement (arrangement_of code)
unfolding arrangement_of
code-arranged code = record { northern = omega arith; southern = omega arith }

module _ (code : ℕ) (t : is_code code ≡ true) where
  pub code-is-cell : IsCell (cell_of code)
  unfolding is_code cell_of
  code-is-cell = coded-is-cell (code / 16) t

  pub code-cell : code_of (arrangement_of code) (cell_of code) ≡ code
  unfolding is_code code_of cell_of arrangement_of
  code-cell = let e = coded-cell (code / 16) t in omega arith

-- ---- the test of an arrangement

pub of-arrangement : (a : Arrangement) (code : ℕ) → is_of a code ≡ true → arrangement_of code ≡ a
unfolding is_of
of-arrangement a code t =
    let n = eqb-true (arrangement_of code).north a.north (and_left _ (eqb (arrangement_of code).south a.south) t) in
    let s = eqb-true (arrangement_of code).south a.south (and_right (eqb (arrangement_of code).north a.north) _ t) in
    λ i. record { north = n i; south = s i }

pub arrangement-of : (a : Arrangement) (code : ℕ) → arrangement_of code ≡ a → is_of a code ≡ true
unfolding is_of
arrangement-of a code e =
    ap₂ ◌&&◌ (eq-eqb (arrangement_of code).north a.north (ap (λ (x : Arrangement). x.north) e)) (eq-eqb (arrangement_of code).south a.south (ap (λ (x : Arrangement). x.south) e))

-- of two codes of one arrangement the lesser is the one whose cell comes first
pub codes-order :
    {a : Arrangement} (c x : ℕ) → is_code c ≡ true → is_code x ≡ true → arrangement_of c ≡ a → arrangement_of x ≡ a → (c < x) ↔ (cell_code (cell_of c) < cell_code (cell_of x))
codes-order {a} c x i j e f =
    let p : code_of a (cell_of c) ≡ c = ap (λ (b : Arrangement). code_of b (cell_of c)) (sym e) ∙ code-cell c i in
    let q : code_of a (cell_of x) ≡ x = ap (λ (b : Arrangement). code_of b (cell_of x)) (sym f) ∙ code-cell x j in
    let o = code-order a (cell_of c) (cell_of x) in
    ((λ h. o.0 (omega arith)), (λ h. let k = o.1 h in omega arith))

-- ---- a number is refused with 4 or is a code

pub a-code : (code : ℕ) → code_refusal code ≡ 0 → is_code code ≡ true
unfolding is_code
a-code code e = a-cell-code (code / 16) (sym (cell-refusal code) ∙ e)

pub code-passes : (code : ℕ) → is_code code ≡ true → code_refusal code ≡ 0
unfolding is_code
code-passes code e = cell-refusal code ∙ cell-code-passes (code / 16) e

pub code-stops : (code : ℕ) → is_code code ≡ false → code_refusal code ≡ 4
unfolding is_code
code-stops code e = cell-refusal code ∙ cell-code-stops (code / 16) e

pub four-refused : (code : ℕ) → (code_refusal code ≡ 0 → ⊥) → code_refusal code ≡ 4
four-refused code h = cell-refusal code ∙ cell-code-four (code / 16) (λ e. h (cell-refusal code ∙ e))

-- the digits of a code's cell are those of its path
pub cell-digits :
    (code : ℕ) → digits_of (cell_of code).resolution (cell_of code).row (cell_of code).column ≡ digits 9 (cell_of code).resolution (path_in (code / 16))
unfolding cell_of
cell-digits code = coded-digits (code / 16)

-- a cell or its refusal, made by `found`
pub found-placed : {a : Arrangement} (r : ℕ) (c : Cell) → (r ≡ 0 → IsArrangement a × IsCell c) → Placed a (found r c)
unfolding found
found-placed zero c h = h refl
found-placed (suc r) c h = tt

pub found-coded : (a : Arrangement) (r : ℕ) (c : Cell) → found_code a (found r c) ≡ coded r (code_of a c)
unfolding found coded
found-coded a zero c = refl
found-coded a (suc r) c = refl
