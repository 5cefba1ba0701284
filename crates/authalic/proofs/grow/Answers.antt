-- `authalic::grow` meets its contract: y a is at most y / 100. Assumes nothing.
use mathlib.Core.Path.{ap}
use Prim.Native.Nat.{ℕ, ◌+◌}
use native.Mathlib.Omega.{arith}
use Rattle.authalic.specs.Computed.{grown}
use Rattle.authalic.specs.Internal.SeriesLaws.{hundredth-of}
use Rattle.authalic.proofs.grow.Goals as goal

pub overflow_add-result : goal.overflow_add-result
overflow_add-result c = let s = c in omega (arith, c.high.ensures, hundredth-of s.args.y s.args.a s.requires.a_bound)

pub returns : goal.returns
unfolding grown
returns c =
    let s = c in
    (ap (λ (z : ℕ). s.args.y + z) c.high.ensures, omega (arith, c.high.ensures, hundredth-of s.args.y s.args.a s.requires.a_bound))
