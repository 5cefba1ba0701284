-- `asking::letters_before` meets its contract. Assumes nothing.
use native.Mathlib.Omega.{arith}
use Prim.Native.Nat.{◌-◌}
use Rattle.asking.proofs.Counts.{part-on}
use Rattle.asking.proofs.letters_before.Goals as goal

pub loop-i-preserved : goal.loop-i-preserved
loop-i-preserved c =
    let p = c.part_end-end in
    part-on c.loop-i.invariant (omega (arith, p.ensures.0)) p.ensures.1 c.letters_in.ensures
