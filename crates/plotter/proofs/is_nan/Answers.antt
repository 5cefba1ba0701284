-- A value that is not a number, and nothing else, differs from itself. Assumes nothing.
use mathlib.Core.Path.{◌≡◌, refl}
use mathlib.Core.Bool.{true, false}
use Prim.Native.Nat.{◌*◌}
use borrow.Author.Tests.{eq-eqb}
use lib.Ieee.{Float, nan, inf, fin, up, down, ne, is_nan}
use Rattle.plotter.proofs.is_nan.Goals as goal

-- a NaN, and nothing else, differs from itself
itself : (x : Float) → ne x x ≡ is_nan x
unfolding ne is_nan
itself nan = refl
itself (inf true) = refl
itself (inf false) = refl
itself (fin true m e) = simp (eq-eqb (m * up e * down e) (m * up e * down e) refl)
itself (fin false m e) = simp (eq-eqb (m * up e * down e) (m * up e * down e) refl)

pub returns : goal.returns
returns c = itself c.args.value
