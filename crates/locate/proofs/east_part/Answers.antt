-- `locate::east_part` meets its contract. Assumes nothing.
use native.Mathlib.Omega.{arith}
use mathlib.Core.Path.{ap}
use Prim.Native.Nat.{ℕ, ◌+◌}
use Rattle.locate.specs.Internal.Parts.{east_part}
use Rattle.locate.proofs.Internal.PartLaws.{east-fits}
use Rattle.locate.proofs.east_part.Goals as goal

pub overflow_add-result : goal.overflow_add-result
overflow_add-result c = omega (arith, c.high.ensures, east-fits c.args.east c.requires)

pub returns : goal.returns
unfolding east_part
returns c = ap (λ (x : ℕ). x + 1) c.high.ensures
