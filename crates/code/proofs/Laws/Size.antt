-- A cell's size is its number of finest cells, and its nine children share these out, one after the other. Assumes nothing.
use Rattle.std.specs.Prelude.{◌≡◌, Bool, true, leb, ltb}
use Rattle.std.proofs.Math.Path.{sym}
use Rattle.std.proofs.Common.{ap, ap₂, subst, ◌∙◌, add-one, pow-suc, add-mul, mul_assoc, mul_comm, mul-one, leb-true, ltb-true}
use Prim.Native.Nat.{ℕ, suc, ◌+◌, ◌-◌, ◌*◌, ◌/◌, ◌%◌, ◌^◌, ◌≤◌, ◌<◌}
use native.Mathlib.Omega.{arith}
use Rattle.logic.specs.Laws.Bools.{and_left, and_right, same_truth}
use Rattle.counting.specs.Count.{total, count_of, between}
use Rattle.counting.specs.Laws.Count.{count_same, count-between, between_in}
use Rattle.ternary.specs.Weave.{weave}
use Rattle.cell.specs.declared.Cell.{Cell}
use Rattle.cell.specs.Cell.{IsCell}
use Rattle.cell.specs.Hierarchy.{child_of}
use Rattle.code.specs.Code.{path_of, size_of}
use Rattle.code.proofs.Laws.Code.{path-weave, cell-code-one}
use Rattle.code.specs.Inside.{Inside, start_of, end_of}
use Rattle.code.proofs.Laws.Inside.{start-code, end-small, size-pos, finest-inside, inside-finest}
use Rattle.code.specs.Finest.{Finest}
use Rattle.code.specs.Number.{start_as, cell_as}
use Rattle.code.proofs.Laws.Number.{cell_as_lem, as-fine, as-start}

-- a child's path is its cell's, with one digit more
pub child-path : (c : Cell) (d : ℕ) → d ≤ 8 → path_of (child_of c d) ≡ path_of c * 9 + d
unfolding child_of weave
child-path c d h =
    let k = c.resolution in
    let i : (3 * c.row + d / 3) / 3 ≡ c.row = omega arith in
    let j : (3 * c.column + d % 3) / 3 ≡ c.column = omega arith in
    let e : 3 * ((3 * c.row + d / 3) % 3) + (3 * c.column + d % 3) % 3 ≡ d = omega arith in
    path-weave (child_of c d)
    ∙ ap (λ (x : ℕ). weave x (3 * c.row + d / 3) (3 * c.column + d % 3)) (add-one k)
    ∙ ap₂ (λ (x y : ℕ). x * 9 + y) (ap₂ (weave k) i j ∙ sym (path-weave c)) e

pub child-size : (c : Cell) (d : ℕ) → c.resolution < 15 → size_of c ≡ size_of (child_of c d) * 9
unfolding size_of child_of
child-size c d h =
    let e : 15 - c.resolution ≡ suc (15 - (c.resolution + 1)) = omega arith in
    ap (λ (x : ℕ). 9 ^ x) e ∙ pow-suc 9 (15 - (c.resolution + 1))

-- "A parent's nine children have sizes that add up to its own."
pub children-sizes : (c : Cell) → c.resolution < 15 → total 9 (λ d. size_of (child_of c d)) ≡ size_of c
unfolding total size_of child_of
children-sizes c h = let e = child-size c 0 h in omega arith

-- the finest cells of child d begin where those of the children before it end
pub child-start : (c : Cell) (d : ℕ) → c.resolution < 15 → d ≤ 8 → start_of (child_of c d) ≡ start_of c + d * size_of (child_of c d)
unfolding start_of size_of child_of
child-start c d h l =
    let s : ℕ = 9 ^ (15 - (c.resolution + 1)) in
    let z : 9 ^ (15 - c.resolution) ≡ s * 9 = child-size c d h in
    let p : path_of (child_of c d) ≡ path_of c * 9 + d = child-path c d l in
    let q : path_of (child_of c d) * s ≡ path_of c * 9 * s + d * s = ap (λ (x : ℕ). x * s) p ∙ add-mul (path_of c * 9) d s in
    let r : path_of c * 9 * s ≡ path_of c * 9 ^ (15 - c.resolution) =
    mul_assoc (path_of c) 9 s ∙ ap (λ (x : ℕ). path_of c * x) (mul_comm 9 s ∙ sym z) in
    omega arith

-- ---- "A cell's size is its number of finest cells"

-- each number below 6 x 9^15 is the start of a finest cell,
pub finest-at : (n : ℕ) → n < 6 * 9 ^ 15 → (x : Cell) × Finest x × (start_of x ≡ n)
unfolding start_as
finest-at n h =
    (cell_as 15 n, record { cell = cell_as_lem 15 n (omega arith) h; finest = as-fine 15 n (omega arith) h }, as-start 15 n (omega arith) h ∙ mul-one n)

-- of one only,
pub one-finest : {x y : Cell} → Finest x → Finest y → start_of x ≡ start_of y → x ≡ y
one-finest {x} {y} f g e =
    cell-code-one x y f.cell g.cell (omega (arith, f.finest, g.finest, start-code x f.cell, start-code y g.cell))

-- and no other number is one
pub finest-small : (x : Cell) → Finest x → start_of x < 6 * 9 ^ 15
unfolding end_of
finest-small x f = omega (arith, end-small x f.cell, size-pos x, f.cell.faced)

module _ (c : Cell) (v : IsCell c) where
  -- a finest cell lies inside exactly when its number is in the cell's range
  pub finest-between : (x : Cell) → Finest x → (Inside c x → between (start_of c) (end_of c) (start_of x) ≡ true) × (between (start_of c) (end_of c) (start_of x) ≡ true → Inside c x)
  finest-between x f = (
    (λ i. let k = inside-finest c x v f.cell i in between_in (start_of c) (end_of c) (start_of x) k.0 k.1),
    (λ t.
        finest-inside c x v f.cell f.finest (leb-true (start_of c) (start_of x) (and_left (leb (start_of c) (start_of x)) (ltb (start_of x) (end_of c)) t))
        (ltb-true (start_of x) (end_of c) (and_right (leb (start_of c) (start_of x)) (ltb (start_of x) (end_of c)) t))),
  )

  -- so many of the numbers of finest cells are in its range
  pub size-between : count_of (6 * 9 ^ 15) 0 (between (start_of c) (end_of c)) ≡ size_of c
  unfolding end_of
  size-between =
      let b : ℕ = 6 * 9 ^ 15 - end_of c in
      let e : start_of c + (size_of c + b) ≡ 6 * 9 ^ 15 = omega (arith, end-small c v, v.faced) in
      let s : 0 + start_of c ≡ start_of c = omega arith in
      sym (ap₂ (λ (n a : ℕ). count_of n 0 (between a (a + size_of c))) e s) ∙ count-between (start_of c) (size_of c) b 0

  -- and so many finest cells lie inside, however it is tested
  pub size_counts :
      (test : ℕ → Bool) → ((x : Cell) → Finest x → (Inside c x → test (start_of x) ≡ true) × (test (start_of x) ≡ true → Inside c x)) →
      count_of (6 * 9 ^ 15) 0 test ≡ size_of c
  size_counts test f =
      count_same (6 * 9 ^ 15) 0 test (between (start_of c) (end_of c)) (λ y l h. agree y (omega arith)) ∙ size-between
    where
      agree : (y : ℕ) → y < 6 * 9 ^ 15 → test y ≡ between (start_of c) (end_of c) y
      agree y h =
          let k = finest-at y h in
          let i = f k.0 k.1 in
          let j = finest-between k.0 k.1 in
          subst (λ (n : ℕ). test n ≡ between (start_of c) (end_of c) n) k.2
          (same_truth (test (start_of k.0)) (between (start_of c) (end_of c) (start_of k.0)) (λ t. j.0 (i.1 t)) (λ t. i.0 (j.1 t)))
