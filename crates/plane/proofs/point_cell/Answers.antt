-- `plane::point_cell` meets its contract: refusals in their order, nothing left of O, and else the cell by its depth. Assumes nothing.
use Rattle.std.specs.Prelude.{Err}
use mathlib.Core.Path.{◌≡◌, sym, ap, ap₂, ◌∙◌}
use mathlib.Core.Bool.{Bool, true, false, not, true≢false}
use Prim.Native.Nat.{ℕ, ◌≤◌}
use native.Mathlib.Omega.{arith}
use borrow.Author.Tests.{lt-ltb}
use lib.IntN.{ℤ, pos, negsuc, nat_abs}
use Rattle.logic.specs.Refusal.{refuse, ◌otherwise◌}
use Rattle.cell.specs.declared.Arrangement.{Arrangement}
use Rattle.cell.specs.Cell.{IsArrangement, found}
use Rattle.cell.proofs.Laws.Cell.{is-arrangement}
use Rattle.cell.proofs.Laws.Found.{refused, then}
use Rattle.signed.specs.Sign.{negative}
use Rattle.signed.specs.Laws.Sign.{back}
use Rattle.plane.specs.Plane.{in_image, point_cell, point_refusal}
use Rattle.plane.specs.Internal.Depth.{depth_below, found_at}
use Rattle.plane.specs.Internal.ImageLaws.{image-west, refusal_is, found-is}
use Rattle.plane.proofs.point_cell.Goals as goal
use Rattle.plane.proofs.point_cell.Goals.{After-is_negative, Else-refusal-ne0}

-- a good arrangement and resolution leave the image to decide
decides : {a : Arrangement} {k : ℕ} (x y : ℤ) → IsArrangement a → k ≤ 15 → found (refuse (not (in_image a x y)) 7) (point_cell a k x y) ≡ found (point_refusal a k x y) (point_cell a k x y)
decides {a} {k} x y g h = ap (λ (r : ℕ). found r (point_cell a k x y)) (sym (refusal_is x y g h))

west : (a : Arrangement) (k : ℕ) (x y : ℤ) → negative x ≡ true → Err 7 ≡ found (refuse (not (in_image a x y)) 7) (point_cell a k x y)
unfolding found
west a k (pos n) y e = absurd (true≢false (sym e))
west a k (negsuc n) y e = ap (λ (t : Bool). found (refuse (not t) 7) (point_cell a k (negsuc n) y)) (sym (image-west a n y))

east : (a : Arrangement) (k : ℕ) (x y : ℤ) → negative x ≡ false → found_at a k (nat_abs x) (depth_below y) ≡ found (refuse (not (in_image a x y)) 7) (point_cell a k x y)
east a k (pos n) y e = sym (found-is a k n y)
east a k (negsuc n) y e = absurd (true≢false e)

-- past the first test this is an arrangement
arranged : (c : Else-refusal-ne0) → IsArrangement c.args.arrangement
arranged c = is-arrangement (sym c.refusal-refusal.ensures ∙ c.if-refusal-ne0.false)

sign-is : (c : After-is_negative) → c.is_negative.result ≡ negative c.args.x
sign-is c = c.is_negative.ensures ∙ ap negative (back c.ranges.x)

pub returns-then-refusal-ne0 : goal.returns-then-refusal-ne0
unfolding point_refusal
returns-then-refusal-ne0 c = refused _ _ c.refusal-refusal.ensures c.if-refusal-ne0.true

pub returns-then-resolution-gt15 : goal.returns-then-resolution-gt15
unfolding point_refusal found ◌otherwise◌
returns-then-resolution-gt15 c = then _ _ c.refusal-refusal.ensures c.if-refusal-ne0.false (simp (lt-ltb 15 c.args.resolution (omega arith)))

pub returns-then-is_negative : goal.returns-then-is_negative
returns-then-is_negative c =
    let e = c in
    let s = e in
    west s.args.arrangement s.args.resolution s.args.x s.args.y (sym (sign-is (goal.at.returns-then-is_negative c).After-is_negative) ∙ c.if-is_negative.true) ∙ decides s.args.x s.args.y (arranged (goal.at.returns-then-is_negative c).Else-refusal-ne0) (omega arith)

pub cell_at_depth-requires : goal.cell_at_depth-requires
cell_at_depth-requires c = let e = c in record { arrangement = arranged (goal.at.cell_at_depth-requires c).Else-refusal-ne0; resolution_bound = omega arith }

pub returns : goal.returns
returns c =
    let f = c in
    let e = f in
    let s = e in
    c.cell_at_depth.ensures
    ∙ ap₂ (found_at s.args.arrangement s.args.resolution) (c.magnitude.ensures ∙ ap nat_abs (back s.ranges.x))
    (c.depth_below.ensures ∙ ap depth_below (back s.ranges.y))
    ∙ east s.args.arrangement s.args.resolution s.args.x s.args.y (sym (sign-is (goal.at.returns c).After-is_negative) ∙ f.if-is_negative.false)
    ∙ decides s.args.x s.args.y (arranged (goal.at.returns c).Else-refusal-ne0) (omega arith)
