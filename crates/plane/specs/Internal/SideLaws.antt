-- The cells of a row, or of a column, fill the side of their face. Assumes nothing.
use Rattle.std.specs.Prelude.{◌≡◌, Bool, ℕ, ◌+◌, ◌-◌, ◌*◌, ◌^◌, ◌≤◌, ◌<◌}
use Rattle.std.proofs.Math.Path.{refl}
use Rattle.std.proofs.Common.{sym, ap, ◌∙◌, mul_left_comm, mul-le-mul_right, suc-mul, pow-add}
use Rattle.std.proofs.Math.Bool.{true, false, cond}
use native.Mathlib.Omega.{arith}
use Rattle.std.proofs.Math.Dec.{ltb}
use borrow.Author.Tests.{ltb-true}
use Rattle.cell.specs.declared.Cell.{Cell}
use Rattle.cell.specs.declared.Arrangement.{Arrangement}
use Rattle.cell.specs.Cell.{IsCell, IsArrangement}
use Rattle.ternary.proofs.Laws.Powers.{power_pos}
use Rattle.plane.specs.Plane.{face_side, side_of, face_left}
use Rattle.plane.specs.Internal.Depth.{face_depth, left_in, depth_in}

pub side-pos : (k : ℕ) → 0 < side_of k
side-pos k = let h = power_pos (15 - k) in omega arith

-- 3^k cells of side 2 x 3^(15-k) make M
pub whole : {k : ℕ} → k ≤ 15 → 3 ^ k * side_of k ≡ face_side
whole {k} h =
    let e : k + (15 - k) ≡ 15 = omega arith in
    mul_left_comm (3 ^ k) 2 (3 ^ (15 - k)) ∙ ap (λ (x : ℕ). 2 * x) (sym (pow-add 3 k (15 - k)) ∙ ap (λ (x : ℕ). 3 ^ x) e)

-- each of them ends within it
pub within : {k i : ℕ} → k ≤ 15 → i < 3 ^ k → i * side_of k + side_of k ≤ face_side
within {k} {i} h l =
    let a = mul-le-mul_right (side_of k) l in
    let b = suc-mul i (side_of k) in
    let e = whole h in
    omega arith

-- so a cell's edges are within the image
module _ {a : Arrangement} {c : Cell} (g : IsArrangement a) (v : IsCell c) where
  pub face-left-small : face_left a c.face ≤ 3 * face_side
  unfolding face_left
  face-left-small = go (ltb c.face 1) (ltb c.face 5) refl
    where
      go : (t u : Bool) → ltb c.face 5 ≡ u → cond t (a.north * face_side) (cond u ((c.face - 1) * face_side) (a.south * face_side)) ≤ 3 * face_side
      go true u e = omega (arith, g.northern)
      go false true e = let h = ltb-true c.face 5 e in omega arith
      go false false e = omega (arith, g.southern)

  pub left-small : left_in a c + side_of c.resolution ≤ 4 * face_side
  left-small = let h = face-left-small in let l = within v.fine v.columned in omega arith

pub face-depth-small : (face : ℕ) → face_depth face ≤ 2 * face_side
unfolding face_depth
face-depth-small face = go (ltb face 1) (ltb face 5)
  where
    go : (t u : Bool) → cond t 0 (cond u face_side (2 * face_side)) ≤ 2 * face_side
    go true u = omega arith
    go false true = omega arith
    go false false = omega arith

pub depth_small : {c : Cell} → IsCell c → depth_in c + side_of c.resolution ≤ 3 * face_side
depth_small {c} v = let h = face-depth-small c.face in let l = within v.fine v.rowed in omega arith
