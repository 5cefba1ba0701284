-- `code::code_by` meets its contract. Assumes nothing.
use Prim.Native.Nat.{◌<◌}
use native.Mathlib.Omega.{arith}
use Rattle.ternary.proofs.Laws.Weave.{weave-small}
use Rattle.code.proofs.code_by.Goals as goal
use Rattle.code.proofs.code_by.Goals.{After-woven-path}

-- a path of fifteen digits is below 9^15
small : (c : After-woven-path) → c.woven-path.result < 205891132094649
small c = rw c.woven-path.ensures (weave-small 15 _ _)

pub overflow_mul-result : goal.overflow_mul-result
overflow_mul-result c = let h = small (goal.at.overflow_mul-result c).After-woven-path in omega arith

pub overflow_add-result-2 : goal.overflow_add-result-2
overflow_add-result-2 c = let h = small (goal.at.overflow_add-result-2 c).After-woven-path in omega arith
