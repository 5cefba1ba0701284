-- `sheet::put_number` meets its contract. Assumes nothing.
use mathlib.Core.Path.{sym, ◌∙◌}
use Prim.Native.Nat.{◌%◌}
use lib.ListN.{length-set}
use Rattle.sheet.proofs.Bytes.{put_byte, none-put}
use native.Mathlib.Omega.{arith}
use Rattle.sheet.proofs.put_number.Goals as goal

pub loop-n-preserved : goal.loop-n-preserved
loop-n-preserved c =
    let l = c.loop-n in
    let e = length-set l.buffer l.i (l.rest % 256) in
    (omega (arith, l.invariant.0, e), e ∙ l.invariant.1, l.invariant.2 ∙ put_byte l.buffer l.i l.n l.rest c.loop-n-test.true)

pub returns : goal.returns
returns c =
    let l = c.loop-n in
    sym (l.invariant.2 ∙ none-put l.buffer l.i l.n l.rest (omega arith))
