-- `plane::left_in` meets its contract. Assumes nothing.
use native.Mathlib.Omega.{arith}
use Rattle.plane.specs.Internal.SideLaws.{face-left-small}
use Rattle.plane.proofs.left_in.Goals as goal

pub edge_at-requires : goal.edge_at-requires
edge_at-requires c = omega (arith, face-left-small c.requires.arrangement c.requires.cell)
