-- `authalic::step` meets its contract: x g is at most g / 100. Assumes nothing.
use mathlib.Core.Path.{ap}
use Prim.Native.Nat.{ℕ, ◌+◌}
use native.Mathlib.Omega.{arith}
use Rattle.authalic.specs.Internal.SeriesLaws.{hundredth}
use Rattle.authalic.proofs.step.Goals as goal

pub overflow_add-result : goal.overflow_add-result
overflow_add-result c = let s = c in omega (arith, c.high.ensures, hundredth s.args.x s.requires.x_bound s.args.g)

pub returns : goal.returns
returns c =
    let s = c in
    (ap (λ (z : ℕ). s.args.c + z) c.high.ensures, omega (arith, c.high.ensures, hundredth s.args.x s.requires.x_bound s.args.g))
