-- What the parts of a place say of its row and its column. Assumes nothing.
use Rattle.std.specs.Prelude.{◌≡◌, true, ℕ, ◌+◌, ◌-◌, ◌*◌, ◌/◌, ◌%◌, ◌^◌, ◌≤◌, ◌<◌, ℤ, neg_ℤ}
use Rattle.std.proofs.Common.{sym, ap₂, ◌∙◌, div-add-mod', div-one, mul_comm, lit<, lit≤}
use Rattle.std.proofs.Math.Path.{ap}
use Rattle.std.proofs.Math.Nat.{mul-div-mul_right}
use native.Mathlib.Omega.{arith}
use Rattle.ternary.specs.Weave.{weave}
use Rattle.ternary.proofs.Laws.Weave.{weave-prefix}
use Rattle.ternary.proofs.Laws.Powers.{power-add, power_pos}
use Rattle.cell.specs.declared.Cell.{Cell}
use Rattle.cell.specs.declared.Arrangement.{Arrangement}
use Rattle.code.specs.Code.{code_at, code_of, cell_code, cell_code_at}
use Rattle.code.proofs.Laws.Code.{path-weave}
use Rattle.wide.specs.High.{high_word}
use Rattle.wide.specs.Laws.High.{high-under, high-over}
use Rattle.root.specs.declared.Axis.{Axis}
use Rattle.root.specs.Floor.{root_floor, axis_of}
use Rattle.root.specs.Part.{firm, part_of}
use Rattle.root.specs.Laws.Part.{firm-low, firm-high, part-lt, part-floor}
use Rattle.locate.specs.Fix.{CapPoint, quarter, belt_cell, cap_cell}
use Rattle.locate.proofs.Laws.Part.{part-coarser}
use Rattle.locate.specs.Internal.Parts.{place_at, east_part}

-- a cell's code by its numbers
pub cell-code : (a : Arrangement) (c : Cell) → code_at a c.face c.resolution (weave c.resolution c.row c.column) ≡ code_of a c
unfolding code_at code_of cell_code
cell-code a c = ap (code_at a c.face c.resolution) (sym (path-weave c))

-- ---- the first digits of a finest path

-- the first digits of a finest row
coarser : (k i : ℕ) → k ≤ 15 → i / 3 ^ (15 - k) ≡ i * 3 ^ k / 3 ^ 15
coarser k i h =
    let f : 15 - k + k ≡ 15 = omega arith in
    let e : 3 ^ 15 ≡ 3 ^ (15 - k) * 3 ^ k = ap (λ (x : ℕ). 3 ^ x) (sym f) ∙ power-add (15 - k) k in
    sym (ap (λ (x : ℕ). i * 3 ^ k / x) e ∙ mul-div-mul_right i (3 ^ (15 - k)) (power_pos k))

pub path-places : (k row column : ℕ) → k ≤ 15 → weave 15 (row * 3 ^ 15 / 2 ^ 56) (column * 3 ^ 15 / 2 ^ 56) / 9 ^ (15 - k) ≡ weave k (place_at k row) (place_at k column)
unfolding place_at
path-places k row column h =
    let i = row * 3 ^ 15 / 2 ^ 56 in
    let j = column * 3 ^ 15 / 2 ^ 56 in
    let e : 15 ≡ k + (15 - k) = omega arith in
    ap (λ (n : ℕ). weave n i j / 9 ^ (15 - k)) e ∙ weave-prefix k (15 - k) i j ∙ ap₂ (weave k) (coarser k i h) (coarser k j h)

pub path-whole : (row column : ℕ) → weave 15 (row * 3 ^ 15 / 2 ^ 56) (column * 3 ^ 15 / 2 ^ 56) ≡ weave 15 (place_at 15 row) (place_at 15 column)
path-whole row column = sym (div-one (weave 15 (row * 3 ^ 15 / 2 ^ 56) (column * 3 ^ 15 / 2 ^ 56))) ∙ path-places 15 row column (lit≤ tt)

-- the code by the finest path without its last digits
pub cut-code :
    (a : Arrangement) (face k row column : ℕ) {step ending finest : ℕ} → k ≤ 15 → ending < 256 → step ≡ 9 ^ (15 - k) → ending ≡ 16 * k + (4 * a.north + a.south) →
    finest ≡ weave 15 (row * 3 ^ 15 / 2 ^ 56) (column * 3 ^ 15 / 2 ^ 56) * 256 + (0 * (9 ^ 15 * 256) + ending) →
    finest - 256 * (finest / 256 % step) + face * (205891132094649 * 256) ≡ code_at a face k (weave k (place_at k row) (place_at k column))
unfolding code_at cell_code_at
cut-code a face k row column {step} {ending} {finest} h small e f g =
    let w : ℕ = weave 15 (row * 3 ^ 15 / 2 ^ 56) (column * 3 ^ 15 / 2 ^ 56) in
    let p : finest / 256 ≡ w = omega arith in
    let q : w / step * step + w % step ≡ w = div-add-mod' w step in
    let r : w / step ≡ weave k (place_at k row) (place_at k column) = ap (λ (x : ℕ). w / x) e ∙ path-places k row column h in
    let m : w / step * step ≡ weave k (place_at k row) (place_at k column) * 9 ^ (15 - k) = ap₂ ◌*◌ r e in
    let c : finest / 256 % step ≡ w % step = ap (λ (x : ℕ). x % step) p in
    omega arith

-- and by all of it
pub whole_code :
    (a : Arrangement) (face k row column : ℕ) {ending finest : ℕ} → 15 ≡ k → ending ≡ 16 * 15 + (4 * a.north + a.south) →
    finest ≡ weave 15 (row * 3 ^ 15 / 2 ^ 56) (column * 3 ^ 15 / 2 ^ 56) * 256 + (face * (9 ^ 15 * 256) + ending) →
    finest ≡ code_at a face k (weave k (place_at k row) (place_at k column))
unfolding code_at cell_code_at
whole_code a face k row column {ending} {finest} e f g =
    let p = path-whole row column in
    let q : finest ≡ code_at a face 15 (weave 15 (place_at 15 row) (place_at 15 column)) = omega arith in
    q ∙ ap (λ (n : ℕ). code_at a face n (weave n (place_at n row) (place_at n column))) e

-- ---- the belt

module _ (offset : ℕ) (small : offset < 4 * 10 ^ 18) where
  abbrev part : ℕ
  part = high_word offset 332306998946228968

  pub row-part-lt : part < 2 ^ 56
  row-part-lt = part-lt 4000000000000000000 332306998946228968 offset (lit< tt) (lit≤ tt) (lit≤ tt) (omega arith) small

  finest-row : firm part 14349345 ≡ true → part * 3 ^ 15 / 2 ^ 56 ≡ 3 ^ 15 * offset / (4 * 10 ^ 18)
  finest-row t =
      let a = firm-low 4000000000000000000 332306998946228968 offset 0 0 14349345 (lit< tt) (lit≤ tt) (lit≤ tt) (omega arith) in
      let b = firm-high 4000000000000000000 332306998946228968 offset 0 0 14349345 (lit< tt) (lit≤ tt) (lit≤ tt) (omega arith) (lit≤ tt) (lit≤ tt) t in
      let w : ℕ = part * 14348907 / 72057594037927936 in
      omega arith

  pub row_is : (k : ℕ) → k ≤ 15 → firm part 14349345 ≡ true → place_at k part ≡ 3 ^ k * offset / (4 * 10 ^ 18)
  unfolding place_at
  row_is k h t = ap (λ (w : ℕ). w * 3 ^ k / 3 ^ 15) (finest-row t) ∙ part-coarser k offset (4 * 10 ^ 18) h (lit< tt)

-- a / quarter, rounded up by less than 2 parts: 3^15 a / quarter is a multiple of 1 / 10^8, which is more
column-at : (a d : ℕ) → a * 2 ^ 56 < d * quarter → d * quarter < a * 2 ^ 56 + 2 * quarter → d * 3 ^ 15 / 2 ^ 56 ≡ 3 ^ 15 * a / quarter
column-at a d h l =
    let w : ℕ = a * 1594323 / 100000000 in
    let e : 14348907 * a / 900000000 ≡ w = omega arith in
    let low : w * 72057594037927936 ≤ d * 14348907 = omega arith in
    let high : d * 14348907 < (w + 1) * 72057594037927936 = omega arith in
    let f : d * 14348907 / 72057594037927936 ≡ w = omega arith in
    f ∙ sym e

module _ (east : ℕ) (small : east ≤ 3600000000) where
  -- east / quarter of 2^56, rounded up by less than 2
  east-between : (east * 2 ^ 56 < east_part east * quarter) × (east_part east * quarter < east * 2 ^ 56 + 2 * quarter)
  unfolding east_part
  east-between =
      let h = high-under (east * 2 ^ 32) 343872233134827855 in
      let l = high-over (east * 2 ^ 32) 343872233134827855 in
      (omega arith, omega arith)

  pub east-fits : high_word (east * 2 ^ 32) 343872233134827855 < 2 ^ 60
  unfolding east_part
  east-fits = let b = east-between in omega arith

  pub face-is : east_part east / 2 ^ 56 ≡ east / quarter
  face-is = let b = east-between in omega arith

  pub east-rest-lt : east_part east % 2 ^ 56 < 2 ^ 56
  east-rest-lt = omega arith

  finest-column : east_part east % 2 ^ 56 * 3 ^ 15 / 2 ^ 56 ≡ 3 ^ 15 * (east % quarter) / quarter
  finest-column =
      let b = east-between in
      let f = face-is in
      column-at (east % quarter) (east_part east % 2 ^ 56) (omega arith) (omega arith)

  pub column-is : (k : ℕ) → k ≤ 15 → place_at k (east_part east % 2 ^ 56) ≡ east % quarter * 3 ^ k / quarter
  unfolding place_at
  column-is k h =
      ap (λ (w : ℕ). w * 3 ^ k / 3 ^ 15) finest-column ∙ part-coarser k (east % quarter) quarter h (lit< tt) ∙ ap (λ (x : ℕ). x / quarter) (mul_comm (3 ^ k) (east % quarter))

-- a full turn changes neither the place in a quarter turn nor, around four, which one it is
turn-off : (x : ℕ) → (x % quarter ≡ x % 3600000000 % quarter) × (x / quarter % 4 ≡ x % 3600000000 / quarter)
turn-off x =
    let q : ℕ = x / 3600000000 in
    let c : ℕ = x % 3600000000 / 900000000 in
    let a : ℕ = x % 3600000000 % 900000000 in
    let e : x ≡ (4 * q + c) * 900000000 + a = omega arith in
    let f : x / 900000000 ≡ 4 * q + c = omega arith in
    (omega arith, omega arith)

pub belt-parts :
    (a : Arrangement) (k east offset : ℕ) {row column : ℕ} → k ≤ 15 → east ≤ 3600000000 → offset < 4 * 10 ^ 18 →
    row ≡ high_word offset 332306998946228968 → column ≡ east_part east → firm row 14349345 ≡ true →
    code_at a (1 + column / 2 ^ 56 % 4) k (weave k (place_at k row) (place_at k (column % 2 ^ 56))) ≡ code_of a (belt_cell k (east % 3600000000) offset)
unfolding belt_cell
belt-parts a k east offset {row} {column} h he ho e f t =
    let r = ap (place_at k) e ∙ row_is offset ho k h (ap (λ (x : ℕ). firm x 14349345) (sym e) ∙ t) in
    let o = turn-off east in
    let u = o.0 in
    let v = o.1 in
    let j = ap (λ (x : ℕ). place_at k (x % 2 ^ 56)) f ∙ column-is east he k h ∙ ap (λ (x : ℕ). x * 3 ^ k / quarter) u in
    let c = ap (λ (x : ℕ). x / 2 ^ 56 % 4) f ∙ ap (λ (x : ℕ). x % 4) (face-is east he) ∙ v in
    (λ i. code_at a (1 + c i) k (weave k (r i) (j i))) ∙ cell-code a (belt_cell k (east % 3600000000) offset)

-- ---- the caps

pub cap-parts :
    (a : Arrangement) (face k t : ℕ) (x : CapPoint) (row column : ℕ) → place_at k row ≡ root_floor (3 ^ k) t (neg_ℤ x.1) → place_at k column ≡ root_floor (3 ^ k) t x.0 →
    code_at a face k (weave k (place_at k row) (place_at k column)) ≡ code_of a (cap_cell face k t x)
unfolding cap_cell
cap-parts a face k t x row column r j = (λ i. code_at a face k (weave k (r i) (j i))) ∙ cell-code a (cap_cell face k t x)

-- a floor over a root, by the part of its lower end
pub floor-place :
    (k t root : ℕ) (p : Axis) {part : ℕ} → k ≤ 15 → t < 10 ^ 18 → p.size ≤ quarter → root * root ≤ t → t < (root + 1) * (root + 1) →
    part ≡ part_of p.minus p.size root → firm part 7902744606 ≡ true → place_at k part ≡ root_floor (3 ^ k) t (axis_of p)
unfolding place_at
floor-place k t root p h ht hp lo hi e f =
    ap (λ (x : ℕ). x * 3 ^ 15 / 2 ^ 56 * 3 ^ k / 3 ^ 15) e ∙ part-floor t root p ht hp lo hi k h (ap (λ (x : ℕ). firm x 7902744606) (sym e) ∙ f)
