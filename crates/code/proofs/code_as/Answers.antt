-- `code::code_as` meets its contract: the first finest cell is one of 9^16. Assumes nothing.
use mathlib.Core.Path.{ap, ◌∙◌}
use Prim.Native.Nat.{ℕ, ◌+◌, ◌*◌, ◌≤◌}
use native.Mathlib.Omega.{arith}
use Rattle.code.specs.Number.{start_as, cell_code_as, code_as}
use Rattle.code.proofs.Laws.Number.{end-as-small}
use Rattle.code.proofs.code_as.Goals as goal
use Rattle.code.proofs.code_as.Goals.{After-nine_power}

small : (c : After-nine_power) → let a = c.args in a.number * c.nine_power.result + c.nine_power.result ≤ 1853020188851841
small c =
    let a = c.args in
    rw c.nine_power.ensures (end-as-small a.resolution a.number c.requires.resolution_bound.0 c.requires.resolution_bound.1)

pub overflow_mul-part : goal.overflow_mul-part
overflow_mul-part c = let s = small (goal.at.overflow_mul-part c).After-nine_power in omega arith

pub overflow_mul-part-2 : goal.overflow_mul-part-2
overflow_mul-part-2 c = let s = small (goal.at.overflow_mul-part-2 c).After-nine_power in omega arith

pub overflow_add-part : goal.overflow_add-part
overflow_add-part c = let s = small (goal.at.overflow_add-part c).After-nine_power in omega arith

pub with_arrangement-requires : goal.with_arrangement-requires
with_arrangement-requires c = let s = small (goal.at.with_arrangement-requires c).After-nine_power in record { arrangement = c.requires.arrangement; part_bound = omega arith }

pub returns : goal.returns
unfolding start_as cell_code_as code_as
returns c =
    let n = c in
    let a = n.args in
    c.with_arrangement.ensures
    ∙ ap (λ (x : ℕ). 16 * (a.number * x * 16 + a.resolution) + (4 * a.arrangement.north + a.arrangement.south)) n.nine_power.ensures
