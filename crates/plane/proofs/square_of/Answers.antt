-- `plane::square_of` meets its contract. Assumes nothing.
use mathlib.Core.Path.{sym, ap, ◌∙◌}
use native.Mathlib.Omega.{arith}
use lib.IntN.{pos, sub_ℕ}
use Rattle.signed.specs.Laws.Sign.{back_as}
use Rattle.plane.specs.Plane.{three_halves, square_of}
use Rattle.plane.specs.Internal.SideLaws.{left-small, depth_small}
use Rattle.plane.specs.Internal.DepthLaws.{left_is, top-is}
use Rattle.plane.proofs.square_of.Goals as goal

pub as_signed-requires : goal.as_signed-requires
as_signed-requires c = omega (arith, c.left_in.ensures, left-small c.requires.arrangement c.requires.cell)

pub difference-requires : goal.difference-requires
difference-requires c = omega (arith, c.depth_in.ensures, depth_small c.requires.cell)

pub as_signed-requires-2 : goal.as_signed-requires-2
as_signed-requires-2 c = omega (arith, c.side_of.ensures, depth_small c.requires.cell)

pub returns : goal.returns
unfolding square_of
returns c =
    let d = c in
    let l = d in
    let s = l in
    λ i.
    record {
      left = (back_as d.as_signed.type_inv (d.as_signed.ensures ∙ ap pos l.left_in.ensures) ∙ sym (left_is s.args.arrangement s.args.cell)) i;
      top = (back_as c.difference.type_inv (c.difference.ensures ∙ ap (sub_ℕ three_halves) d.depth_in.ensures) ∙ sym (top-is s.args.cell)) i;
      side = back_as c.as_signed-2.type_inv (c.as_signed-2.ensures ∙ ap pos c.side_of.ensures) i;
    }
