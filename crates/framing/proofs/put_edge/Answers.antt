-- Sixteen digits, since the bits are below 2^64; the byte stands where they end. Assumes nothing.
use mathlib.Core.Path.{◌≡◌, sym, ap, ◌∙◌, subst}
use mathlib.Core.List.{List, ◌++◌}
use Prim.Native.Nat.{ℕ, ◌+◌, ◌-◌, ◌≤◌}
use native.Mathlib.Omega.{arith}
use lib.Dec.{T}
use lib.ListN.{length, take, drop}
use lib.Seq.{length-take-le}
use lib.Ieee.{binary64, to_bits}
use lib.Ieee.Bits.{to_bits-lt}
use Rattle.io.specs.Digits.{last_digits}
use Rattle.report.proofs.Laws.Put.{then-byte}
use Rattle.report.proofs.Laws.Part.{part-put}
use Rattle.framing.specs.Framing.{hexadecimal}
use Rattle.framing.proofs.Laws.{sixteen}
use Rattle.framing.proofs.put_edge.Goals as goal
use Rattle.framing.proofs.put_edge.Goals.{After-hex-count}

count-is : (c : After-hex-count) → c.hex-count.result ≡ 16
count-is c = sixteen (to_bits binary64 c.args.edge) _ c.hex-count.ensures.len (to_bits-lt binary64 c.args.edge (subst T (sym c.well_formed.0.1) tt))

digits_are : (c : After-hex-count) → take c.hex-count.result c.hex-count.new.out ≡ hexadecimal c.args.edge
unfolding hexadecimal
digits_are c = c.hex-count.ensures.digits ∙ ap (λ (k : ℕ). last_digits 16 k (to_bits binary64 c.args.edge)) (count-is c)

long : (c : After-hex-count) → length (take c.hex-count.result c.hex-count.new.out) ≡ 16
long c = length-take-le _ _ (omega (arith, c.hex-count.ensures.in_bounds)) ∙ count-is c

pub returns : goal.returns
returns c =
    let h = (goal.at.returns c).After-hex-count in
    let a = c.args in
    let room_at : a.at + 17 ≤ length a.out.now = c.requires.at_in_bounds in
    let bytes = hexadecimal a.edge in
    let out = a.out.now in
    let room = take (length out - a.at) (drop a.at out) in
    let put = c.copy.ensures.bytes ∙ ap (λ (s : List ℕ). s ++ drop (length s) room) (digits_are h) in
    let f = part-put out a.at (omega arith) bytes put in
    let e = ap (λ (n : ℕ). a.at + n) (c.copy.ensures.value ∙ ap length (digits_are h)) in
    let n : c.copy.result ≡ 16 = c.copy.ensures.value ∙ long h in
    record { put = then-byte a.at bytes out a.byte e f (omega (arith, n)); value = omega (arith, n) }
