pub mod Above
pub mod Bottom
pub mod Fix
pub mod Floors
pub mod Held
pub mod Meet
pub mod Part
pub mod Turn
-- Facts that the proofs of the functions cite. Assumes nothing.
use mathlib.Core.Path.{◌≡◌}
use mathlib.Core.Bool.{Bool, true, false, ◌&&◌}
use Prim.Native.Nat.{ℕ}
use Rattle.root.specs.Floor.{axis_of}
use Rattle.locate.specs.declared.End.{End}
use Rattle.locate.specs.Fix.{CapPoint, cap_cell}
use Rattle.locate.specs.Internal.End.{Stands}

-- ---- four tests one after the other, as the range of a fix has them

module _ (a b c d : Bool) where
  pub last : a ≡ true → b ≡ true → c ≡ true → d ≡ ((a && b) && (c && d))
  last p q r = rw (p, q, r)

  pub no_third : a ≡ true → b ≡ true → c ≡ false → false ≡ ((a && b) && (c && d))
  no_third p q r = rw (p, q, r)

module _ (a b rest : Bool) where
  pub no_second : a ≡ true → b ≡ false → false ≡ ((a && b) && rest)
  no_second p q = rw (p, q)

  pub no-first : a ≡ false → false ≡ ((a && b) && rest)
  no-first p = rw p

-- ---- the cell at an end is that of the point where it stands
pub stands-cell : (face k t : ℕ) (x : CapPoint) (r : End) → Stands x r → cap_cell face k t (axis_of r.p, axis_of r.q) ≡ cap_cell face k t x
stands-cell face k t x r h = λ i. cap_cell face k t (h.first i, h.second i)
