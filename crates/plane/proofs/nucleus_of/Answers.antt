-- `plane::nucleus_of` meets its contract. Assumes nothing.
use mathlib.Core.Path.{sym, ap, ap₂, ◌∙◌}
use Prim.Native.Nat.{◌+◌}
use native.Mathlib.Omega.{arith}
use lib.IntN.{pos, sub_ℕ}
use Rattle.signed.specs.Laws.Sign.{back_as}
use Rattle.plane.specs.Plane.{three_halves, nucleus_of}
use Rattle.plane.specs.Internal.SideLaws.{left-small, depth_small}
use Rattle.plane.specs.Internal.DepthLaws.{nucleus-x, nucleus-y}
use Rattle.plane.proofs.nucleus_of.Goals as goal

pub overflow_add-left_in : goal.overflow_add-left_in
overflow_add-left_in c =
    let s = c in
    omega (arith, c.left_in.ensures, c.power-half.ensures, left-small s.requires.arrangement s.requires.cell)

pub as_signed-requires : goal.as_signed-requires
as_signed-requires c =
    let s = c in
    omega (arith, c.left_in.ensures, c.power-half.ensures, left-small s.requires.arrangement s.requires.cell)

pub overflow_add-depth_in : goal.overflow_add-depth_in
overflow_add-depth_in c =
    let p = c in
    omega (arith, c.depth_in.ensures, p.power-half.ensures, depth_small p.requires.cell)

pub difference-requires : goal.difference-requires
difference-requires c =
    let p = c in
    omega (arith, c.depth_in.ensures, p.power-half.ensures, depth_small p.requires.cell)

pub returns : goal.returns
unfolding nucleus_of
returns c =
    let x = c in
    let p = x in
    let s = p in
    λ i.
    record {
      x = (back_as x.as_signed.type_inv (x.as_signed.ensures ∙ ap pos (ap₂ ◌+◌ x.left_in.ensures p.power-half.ensures)) ∙ sym (nucleus-x s.args.arrangement s.args.cell)) i;
      y = (back_as c.difference.type_inv (c.difference.ensures ∙ ap (sub_ℕ three_halves) (ap₂ ◌+◌ c.depth_in.ensures p.power-half.ensures)) ∙ sym (nucleus-y s.args.cell)) i;
    }
