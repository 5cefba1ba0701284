-- `asking::letters_in` meets its contract. Assumes nothing.
use native.Mathlib.Omega.{arith}
use Rattle.asking.proofs.Counts.{part-on, between-one}
use Rattle.asking.proofs.letters_in.Goals as goal

pub loop-i-preserved : goal.loop-i-preserved
loop-i-preserved c =
    let l = c.loop-i in
    let s = c in
    part-on l.invariant (omega arith) (omega arith) (between-one s.args.text.now l.i (omega arith) c.letter_in-count.ensures)
