-- `fields::put_number` meets its contract: with the bytes that are still to be put, the bytes are the whole. Assumes nothing.
use mathlib.Core.Path.{◌≡◌, sym, ap, ◌∙◌}
use Prim.Native.Nat.{ℕ}
use lib.ListN.{length-set}
use lib.Seq.{sets}
use Rattle.ternary.specs.Digits.{digits}
use Rattle.fields.proofs.Laws.{last_byte}
use native.Mathlib.Omega.{arith}
use Rattle.fields.proofs.put_number.Goals as goal

pub loop-left-preserved : goal.loop-left-preserved
loop-left-preserved c =
    let l = c.loop-left in
    let a = c.args in
    (simp length-set l.invariant.0, last_byte l.bytes a.at l.left l.rest (omega arith) ∙ l.invariant.1)

pub returns : goal.returns
unfolding digits
returns c =
    let l = c.loop-left in
    let e : l.left ≡ 0 = omega arith in
    ap (λ (i : ℕ). sets l.bytes c.args.at (digits 256 i l.rest)) (sym e) ∙ l.invariant.1
