-- The code and the finest cells of a cell from its resolution and its number. Assumes nothing.
use Rattle.std.specs.Prelude.{◌≡◌, true, ℕ, suc, ◌+◌, ◌-◌, ◌*◌, ◌/◌, ◌%◌, ◌^◌, ◌≤◌, ◌<◌}
use Rattle.std.proofs.Common.{sym, ◌∙◌, add-one, pow-suc, add-mul, mul_assoc, mul-le-mul_right, suc-mul, eq-eqb, lt-ltb}
use Rattle.std.proofs.Math.Path.{ap, ap₂}
use Rattle.std.proofs.Math.Bool.{◌&&◌}
use Rattle.std.proofs.Math.Nat.{mul-mod_left, mod-mod_of_dvd, dvd-mul_right}
use native.Mathlib.Omega.{arith}
use Rattle.std.proofs.Math.Dec.{ltb, eqb}
use Rattle.ternary.proofs.Laws.Powers.{nine-split, nine-pos}
use Rattle.cell.specs.declared.Cell.{Cell}
use Rattle.cell.specs.declared.Arrangement.{Arrangement}
use Rattle.cell.specs.Cell.{IsCell, IsArrangement}
use Rattle.code.specs.Code.{path_of, cell_code, cell_coded, is_cell_code, code_of, cell_of, is_code, size_of}
use Rattle.code.proofs.Laws.Code.{coded-is-cell, cell-part}
use Rattle.code.specs.Inside.{start_of, end_of}
use Rattle.code.proofs.Laws.Inside.{start-code, start-coded}
use Rattle.code.specs.Number.{number_of, start_as, end_as, cell_code_as, code_as, cell_as}

pub start-as : (c : Cell) → IsCell c → start_as c.resolution (number_of c) ≡ start_of c
unfolding start_as number_of start_of
start-as c v =
    let k = c.resolution in
    add-mul (c.face * 9 ^ k) (path_of c) (9 ^ (15 - k))
    ∙ ap (λ (x : ℕ). x + path_of c * 9 ^ (15 - k)) (mul_assoc c.face (9 ^ k) (9 ^ (15 - k)) ∙ ap (λ (x : ℕ). c.face * x) (nine-split k v.fine))

pub end-as : (c : Cell) → IsCell c → end_as c.resolution (number_of c) ≡ end_of c
unfolding end_as end_of size_of
end-as c v = ap (λ (x : ℕ). x + 9 ^ (15 - c.resolution)) (start-as c v)

cell-code-as : (c : Cell) → IsCell c → cell_code_as c.resolution (number_of c) ≡ cell_code c
unfolding cell_code_as
cell-code-as c v = ap (λ (x : ℕ). x * 16 + c.resolution) (start-as c v) ∙ sym (start-code c v)

pub code-as : (a : Arrangement) (c : Cell) → IsCell c → code_as a c.resolution (number_of c) ≡ code_of a c
unfolding code_as code_of
code-as a c v = ap (λ (x : ℕ). 16 * x + (4 * a.north + a.south)) (cell-code-as c v)

-- the finest cells of a number of k + 1 digits are among the first 9^16
pub end-as-small : (k n : ℕ) → k ≤ 15 → n < 9 ^ (k + 1) → n * 9 ^ (15 - k) + 9 ^ (15 - k) ≤ 1853020188851841
end-as-small k n h l =
    let m : suc n * 9 ^ (15 - k) ≤ 9 ^ (k + 1) * 9 ^ (15 - k) = mul-le-mul_right (9 ^ (15 - k)) l in
    let s : suc n * 9 ^ (15 - k) ≡ n * 9 ^ (15 - k) + 9 ^ (15 - k) = suc-mul n (9 ^ (15 - k)) in
    let p : 9 ^ (k + 1) ≡ 9 * 9 ^ k = ap (λ (x : ℕ). 9 ^ x) (add-one k) ∙ pow-suc 9 k ∙ omega arith in
    let q : 9 ^ (k + 1) * 9 ^ (15 - k) ≡ 9 * (9 ^ k * 9 ^ (15 - k)) = ap (λ (x : ℕ). x * 9 ^ (15 - k)) p ∙ mul_assoc 9 (9 ^ k) (9 ^ (15 - k)) in
    let e : 9 ^ k * 9 ^ (15 - k) ≡ 205891132094649 = nine-split k h in
    omega arith

-- ---- the cell of a resolution and a number

module _ (k n : ℕ) (h : k ≤ 15) (l : n < 6 * 9 ^ k) where
  -- its first finest cell is one of the grid's
  small : n * 9 ^ (15 - k) < 6 * 9 ^ 15
  small =
      let z : ℕ = 9 ^ (15 - k) in
      let m : suc n * z ≤ 6 * 9 ^ k * z = mul-le-mul_right z l in
      let s : suc n * z ≡ n * z + z = suc-mul n z in
      let e : 6 * 9 ^ k * z ≡ 6 * (9 ^ k * z) = mul_assoc 6 (9 ^ k) z in
      let f : 9 ^ k * z ≡ 9 ^ 15 = nine-split k h in
      let p : 0 < z = nine-pos (15 - k) in
      omega arith

  -- no digit stands below the resolution
  even : n * 9 ^ (15 - k) % 9 ^ 15 % 9 ^ (15 - k) ≡ 0
  even =
      let z : ℕ = 9 ^ (15 - k) in
      ap (λ (x : ℕ). n * z % x % z) (sym (nine-split (15 - k) (omega arith)))
      ∙ mod-mod_of_dvd z (n * z) (dvd-mul_right z (9 ^ (15 - (15 - k))))
      ∙ mul-mod_left n z

  quotient : cell_code_as k n / 16 ≡ start_as k n
  unfolding cell_code_as
  quotient = omega arith

  rest : cell_code_as k n % 16 ≡ k
  unfolding cell_code_as
  rest = omega arith

  code-good : is_cell_code (cell_code_as k n) ≡ true
  unfolding is_cell_code start_as
  code-good =
      let s = small in
      ap₂ (λ (x y : ℕ). ltb (x / 9 ^ 15) 6 && eqb (x % 9 ^ 15 % 9 ^ (15 - y)) 0) quotient rest
      ∙ ap₂ ◌&&◌ (lt-ltb (n * 9 ^ (15 - k) / 9 ^ 15) 6 (omega arith)) (eq-eqb (n * 9 ^ (15 - k) % 9 ^ 15 % 9 ^ (15 - k)) 0 even)

  pub cell_as_lem : IsCell (cell_as k n)
  cell_as_lem = coded-is-cell (cell_code_as k n) code-good

  pub as-fine : (cell_as k n).resolution ≡ k
  unfolding cell_coded
  as-fine = rest

  pub as-start : start_of (cell_as k n) ≡ start_as k n
  as-start = sym (start-coded (cell_code_as k n) code-good) ∙ quotient

  -- its code, in an arrangement
  module _ {a : Arrangement} (g : IsArrangement a) where
    pub as_code : is_code (code_as a k n) ≡ true
    unfolding is_code code_as
    as_code = ap is_cell_code (cell-part g (cell_code_as k n)) ∙ code-good

    pub as-cell : cell_of (code_as a k n) ≡ cell_as k n
    unfolding cell_of code_as
    as-cell = ap cell_coded (cell-part g (cell_code_as k n))
