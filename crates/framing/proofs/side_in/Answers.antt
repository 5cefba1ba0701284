-- Both whole numbers are exact as doubles, since they are below 2^53. Assumes nothing.
use mathlib.Core.Path.{sym, ap, ◌∙◌}
use Prim.Native.Nat.{ℕ, ◌^◌, ◌≤◌}
use native.Mathlib.Omega.{arith}
use lib.Dec.{T, le→leb}
use lib.IntN.{pos}
use lib.Ieee.{binary64, in_float, of_bits}
use Rattle.decimal.proofs.Laws.Fraction.{fraction-small}
use Rattle.framing.specs.Framing.{side_of, side_in}
use Rattle.framing.proofs.side_in.Goals as goal

exact : (n : ℕ) → n ≤ 10 ^ 15 → T (in_float binary64 (pos n))
unfolding in_float
exact n h = le→leb n (2 ^ 53) (omega arith)

pub int_to_float-result : goal.int_to_float-result
int_to_float-result c =
    let k = c in
    let h = fraction-small _ _ k.args.text.now (sym k.fraction_in.ensures ∙ k.in-Some.is) in
    exact _ (omega (arith, h.0))

pub int_to_float-result-in-Some : goal.int_to_float-result-in-Some
int_to_float-result-in-Some c =
    let k = c in
    let h = fraction-small _ _ k.args.text.now (sym k.fraction_in.ensures ∙ k.in-Some.is) in
    exact _ h.2

pub returns-in-Some : goal.returns-in-Some
unfolding side_in
returns-in-Some c = let k = c in ap side_of (sym k.in-Some.is ∙ k.fraction_in.ensures)

pub returns-in-None : goal.returns-in-None
unfolding side_in of_bits
returns-in-None c = ap side_of (sym c.in-None.is ∙ c.fraction_in.ensures)
