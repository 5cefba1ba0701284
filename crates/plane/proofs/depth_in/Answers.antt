-- `plane::depth_in` meets its contract. Assumes nothing.
use native.Mathlib.Omega.{arith}
use Rattle.plane.specs.Internal.SideLaws.{face-depth-small}
use Rattle.plane.proofs.depth_in.Goals as goal

pub edge_at-requires : goal.edge_at-requires
edge_at-requires c = omega (arith, face-depth-small c.args.cell.face)
