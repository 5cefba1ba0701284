-- `code::cell_code_at` meets its contract: the path, moved up to the finest digits, is below 9^15. Assumes nothing.
use mathlib.Core.Path.{sym, ap, subst}
use Prim.Native.Nat.{ℕ, ◌+◌, ◌*◌, ◌<◌}
use native.Mathlib.Omega.{arith}
use Rattle.code.specs.Code.{cell_code_at}
use Rattle.code.proofs.Laws.Code.{finest-small}
use Rattle.code.proofs.cell_code_at.Goals as goal
use Rattle.code.proofs.cell_code_at.Goals.{After-nine_power}

small : (c : After-nine_power) → c.args.path * c.nine_power.result < 205891132094649
small c =
    let a = c.args in
    subst (λ (x : ℕ). a.path * x < 205891132094649) (sym c.nine_power.ensures) (finest-small a.resolution a.path c.requires.1 c.requires.2)

pub overflow_mul-finest : goal.overflow_mul-finest
overflow_mul-finest c = let s = small (goal.at.overflow_mul-finest c).After-nine_power in omega arith

pub overflow_add-result : goal.overflow_add-result
overflow_add-result c = let s = small (goal.at.overflow_add-result c).After-nine_power in omega arith

pub overflow_mul-result-2 : goal.overflow_mul-result-2
overflow_mul-result-2 c = let s = small (goal.at.overflow_mul-result-2 c).After-nine_power in omega arith

pub overflow_add-result-2 : goal.overflow_add-result-2
overflow_add-result-2 c = let s = small (goal.at.overflow_add-result-2 c).After-nine_power in omega arith

pub returns : goal.returns
unfolding cell_code_at
returns c =
    let a = c.args in
    let s = small (goal.at.returns c).After-nine_power in (
      ap (λ (x : ℕ). (a.face * 205891132094649 + a.path * x) * 16 + a.resolution) c.nine_power.ensures,
      omega arith,
    )
