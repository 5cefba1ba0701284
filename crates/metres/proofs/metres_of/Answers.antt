-- A planar number is exact as a double, since it is below 2^53. Assumes nothing.
use mathlib.Core.Path.{sym, ap₂}
use lib.IntN.{ℤ}
use lib.Ieee.{Float, binary64, of_bits, of_int, mul, div}
use mir.Syntax.{w64}
use mir.ValLaws.{to_z-of_z}
use Rattle.metres.specs.Metres.{metres_of}
use Rattle.metres.proofs.Laws.Metres.{face-side-is}
use Rattle.metres.proofs.metres_of.Goals as goal

pub returns : goal.returns
unfolding of_bits metres_of
returns c =
    let side = c.args.side in
    let x = c.args.x in
    ap₂ (λ (z : ℤ) (m : Float). div binary64 (mul binary64 (of_int binary64 z) side) m) (to_z-of_z w64 x c.ranges.x) (sym face-side-is)
