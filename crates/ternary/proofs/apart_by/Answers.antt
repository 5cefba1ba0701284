-- `ternary::apart_by` meets its contract: the row and the column stand in one number. Assumes nothing.
use mathlib.Core.Path.{◌≡◌, refl}
use Prim.Native.Nat.{◌+◌, ◌*◌}
use native.Mathlib.Omega.{arith}
use lib.Dec.{lit≤}
use Rattle.ternary.specs.Weave.{both_in}
use Rattle.ternary.proofs.Both.{both-split, both-fits, both-apart}
use Rattle.ternary.proofs.apart_by.Goals as goal
use Rattle.ternary.proofs.apart_by.Goals.{After-twelve_apart}

-- the first three digits and the other twelve
joined : (c : After-twelve_apart) → c.three_apart-high.result * 531441 + c.twelve_apart.result ≡ both_in 15 c.args.path
joined c = both-split 3 12 c.args.path c.three_apart-high.ensures c.twelve_apart.ensures

pub overflow_mul-high : goal.overflow_mul-high
overflow_mul-high c = omega (arith, both-fits 3 12 c.args.path (lit≤ tt) c.three_apart-high.ensures refl)

pub overflow_add-fifteen : goal.overflow_add-fifteen
overflow_add-fifteen c = omega (arith, both-fits 3 12 c.args.path (lit≤ tt) c.three_apart-high.ensures c.twelve_apart.ensures)

pub returns : goal.returns
returns c = both-apart 15 c.args.path (lit≤ tt) (joined (goal.at.returns c).After-twelve_apart)
