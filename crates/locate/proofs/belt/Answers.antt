-- `locate::belt` meets its contract. Assumes nothing.
use Prim.Native.Nat.{◌+◌, ◌*◌, ◌/◌, ◌%◌, ◌≤◌}
use native.Mathlib.Nat.{mul-le-mul}
use native.Mathlib.Omega.{arith}
use Rattle.ternary.proofs.Laws.Powers.{power_le}
use Rattle.locate.specs.Fix.{quarter, belt_cell}
use Rattle.locate.proofs.belt.Goals as goal

pub overflow_mul-result : goal.overflow_mul-result
overflow_mul-result c =
    let s = c in
    let h = power_le {i = s.args.resolution} {j = 15} (omega arith) in
    let p : s.args.east % quarter * s.args.m ≤ quarter * 14348907 = mul-le-mul {n₂ = quarter} {m₂ = 14348907} (omega arith) (omega arith) in
    omega arith

pub returns : goal.returns
unfolding belt_cell
returns c =
    let s = c in
    let a = s.args in
    λ i. record {
      face = 1 + a.east / quarter;
      resolution = a.resolution;
      row = c.belt_row.ensures i;
      column = a.east % quarter * s.requires.m_value i / quarter;
    }
