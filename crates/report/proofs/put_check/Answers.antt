-- `report::put_check` meets its contract: each case has its eight numbers. Assumes nothing.
use mathlib.Core.Path.{sym, ap, ap₂, ◌∙◌}
use mathlib.Core.List.{◌++◌}
use Prim.Native.Nat.{ℕ}
use Rattle.report.specs.Lines.{four_numbers, check_line}
use Rattle.report.proofs.Laws.Put.{then-put}
use Rattle.report.proofs.Facts.{put_as}
use native.Mathlib.Omega.{arith}
use Rattle.report.proofs.put_check.Goals as goal

pub returns-in-Ok : goal.returns-in-Ok
unfolding check_line
returns-in-Ok c =
    let p = c.put_four-middle.ensures in
    let q = c.put_four.ensures in
    let g = c.in-Ok in
    let e =
    ap₂ (λ (v d : ℕ). four_numbers 0 0 v d 32 ++ four_numbers g.checked.arrangement.north g.checked.arrangement.south g.checked.cells g.checked.size 10)
    c.version_of-version.ensures
    c.depth_of-depth.ensures in record { put = put_as (e ∙ ap check_line (sym g.is)) (then-put p.put (omega (arith, p.upper_bound)) q.put); upper_bound = omega (arith, p.upper_bound, q.upper_bound) }

pub returns-in-Err : goal.returns-in-Err
unfolding check_line
returns-in-Err c =
    let p = c.put_four-middle-in-Err.ensures in
    let q = c.put_four-in-Err.ensures in record {
      put = put_as (ap check_line (sym c.in-Err.is)) (then-put p.put (omega (arith, p.upper_bound)) q.put);
      upper_bound = omega
          (arith, p.upper_bound, q.upper_bound);
    }
