-- `shape::shape_of` meets its contract. Assumes nothing.
use mathlib.Core.Path.{◌≡◌, ap, ◌∙◌}
use Prim.Native.Nat.{ℕ, ◌^◌, ◌≤◌, ◌<◌}
use native.Mathlib.Omega.{arith}
use borrow.Author.Tests.{lt-ltb, le-ltb}
use Rattle.ternary.proofs.Laws.Powers.{power_le}
use Rattle.shape.specs.Shape.{cap_shape, shape_of}
use Rattle.shape.proofs.shape_of.Goals as goal
use Rattle.shape.proofs.shape_of.Goals.{in_default-via-then-face-lt1, in_default-via-else-face-lt1+else-face-lt5}

pub cap_shape-requires : goal.cap_shape-requires
cap_shape-requires c =
    let s = c in
    let p = power_le {i = s.args.cell.resolution} {j = 15} s.requires.fine in
    let e = c.power-m.ensures in
    (omega arith, omega (arith, s.requires.rowed), omega (arith, s.requires.columned))

pub returns-in-1-to-4 : goal.returns-in-1-to-4
unfolding shape_of
returns-in-1-to-4 c =
    let x = c.args.cell in
    let from : 1 ≤ x.face = omega arith in
    let to : x.face < 5 = omega arith in
    simp (le-ltb _ _ from, lt-ltb _ _ to)

pub returns-in_default : goal.returns-in_default
unfolding shape_of
returns-in_default c =
    let x = c.args.cell in
    let capped : c.cap_shape.result ≡ cap_shape (3 ^ x.resolution) x.row x.column
    = c.cap_shape.ensures ∙ ap (λ (m : ℕ). cap_shape m x.row x.column) c.power-m.ensures in
    elim c.in_default.branch [
      | in_default-via-then-face-lt1 w ↦ let below : x.face < 1 = omega arith in simp (lt-ltb _ _ below) capped
      | in_default-via-else-face-lt1+else-face-lt5 w ↦
          let from : 1 ≤ x.face = omega arith in
          let past : 5 ≤ x.face = omega arith in
          simp (le-ltb _ _ from, le-ltb _ _ past) capped
    ]
