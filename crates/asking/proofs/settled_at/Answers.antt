-- `asking::settled_at` meets its contract. Assumes nothing.
use native.Mathlib.Omega.{arith}
use Rattle.asking.proofs.Counts.{between-most}
use Rattle.asking.proofs.settled_at.Goals as goal

pub overflow_add-result : goal.overflow_add-result
overflow_add-result c =
    let a = c in
    omega (arith, c.letters_before-counted.ensures, between-most a.args.text.now a.args.body a.args.at a.requires.0, a.requires.1, a.well_formed)
