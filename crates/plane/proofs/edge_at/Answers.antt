-- `plane::edge_at` meets its contract: the edge is within the image, so nothing wraps. Assumes nothing.
use mathlib.Core.Path.{◌≡◌, ap}
use Prim.Native.Nat.{ℕ, ◌*◌}
use native.Mathlib.Omega.{arith}
use Rattle.plane.specs.Plane.{side_of}
use Rattle.plane.specs.Internal.SideLaws.{within}
use Rattle.plane.proofs.edge_at.Goals as goal
use Rattle.plane.proofs.edge_at.Goals.{After-side_of}

-- what is added, by the side's definition
added : (c : After-side_of) → c.args.index * c.side_of.result ≡ c.args.index * side_of c.args.resolution
added c = ap (λ (s : ℕ). c.args.index * s) c.side_of.ensures

pub overflow_mul-result : goal.overflow_mul-result
overflow_mul-result c = omega (arith, added (goal.at.overflow_mul-result c).After-side_of, within c.requires.resolution_bound c.requires.index_bound)

pub overflow_add-result : goal.overflow_add-result
overflow_add-result c = omega (arith, added (goal.at.overflow_add-result c).After-side_of, within c.requires.resolution_bound c.requires.index_bound)
