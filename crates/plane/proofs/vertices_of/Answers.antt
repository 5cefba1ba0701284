-- `plane::vertices_of` meets its contract. Assumes nothing.
use mathlib.Core.Path.{sym, ap, ap₂, ◌∙◌}
use mathlib.Core.List.{[], ◌∷◌}
use Prim.Native.Nat.{◌+◌}
use native.Mathlib.Omega.{arith}
use lib.IntN.{pos, sub_ℕ}
use Rattle.signed.specs.Laws.Sign.{back_as}
use Rattle.plane.specs.Plane.{three_halves, vertices_of}
use Rattle.plane.specs.Internal.SideLaws.{left-small, depth_small}
use Rattle.plane.specs.Internal.DepthLaws.{left_is, right_is, top-is, bottom-is}
use Rattle.plane.proofs.vertices_of.Goals as goal

pub as_signed-left-requires : goal.as_signed-left-requires
as_signed-left-requires c =
    let s = c in
    omega (arith, c.left_in-x.ensures, left-small s.requires.arrangement s.requires.cell)

pub overflow_add-x : goal.overflow_add-x
overflow_add-x c =
    let l = c in
    let s = l in
    omega (arith, l.left_in-x.ensures, l.side_of-side.ensures, left-small s.requires.arrangement s.requires.cell)

pub as_signed-right-requires : goal.as_signed-right-requires
as_signed-right-requires c =
    let l = c in
    let s = l in
    omega (arith, l.left_in-x.ensures, l.side_of-side.ensures, left-small s.requires.arrangement s.requires.cell)

pub difference-top-requires : goal.difference-top-requires
difference-top-requires c =
    let d = c in
    omega (arith, d.depth_in-depth.ensures, depth_small d.requires.cell)

pub overflow_add-depth : goal.overflow_add-depth
overflow_add-depth c =
    let d = c in
    omega (arith, d.depth_in-depth.ensures, d.side_of-side.ensures, depth_small d.requires.cell)

pub difference-bottom-requires : goal.difference-bottom-requires
difference-bottom-requires c =
    let d = c in
    omega (arith, d.depth_in-depth.ensures, d.side_of-side.ensures, depth_small d.requires.cell)

pub returns : goal.returns
unfolding vertices_of
returns c =
    let r = c in
    let d = r in
    let w = d.side_of-side.ensures in
    let l = d.left_in-x.ensures in
    let s = d in
    let left = back_as r.as_signed-left.type_inv (r.as_signed-left.ensures ∙ ap pos l) ∙ sym (left_is s.args.arrangement s.args.cell) in
    let right = back_as r.as_signed-right.type_inv (r.as_signed-right.ensures ∙ ap pos (ap₂ ◌+◌ l w)) ∙ sym (right_is s.args.arrangement s.args.cell) in
    let top = back_as c.difference-top.type_inv (c.difference-top.ensures ∙ ap (sub_ℕ three_halves) d.depth_in-depth.ensures) ∙ sym (top-is s.args.cell) in
    let bottom = back_as c.difference-bottom.type_inv (c.difference-bottom.ensures ∙ ap (sub_ℕ three_halves) (ap₂ ◌+◌ d.depth_in-depth.ensures w)) ∙ sym (bottom-is s.args.cell) in
    λ i. record { x = left i ∷ right i ∷ right i ∷ left i ∷ []; y = top i ∷ top i ∷ bottom i ∷ bottom i ∷ [] }
