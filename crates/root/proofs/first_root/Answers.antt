-- `root::first_root` meets its contract: a step from any guess above 0 ends at or above the root. Assumes nothing.
use native.Mathlib.Omega.{arith}
use Rattle.root.proofs.Newton.{newton_above}
use Rattle.root.proofs.first_root.Goals as goal

pub returns-then-r-lt1000000000 : goal.returns-then-r-lt1000000000
returns-then-r-lt1000000000 c = (newton_above c.args.radicand c.near_root-near.result c.near_root-near.ensures.0, omega arith)
