-- `report::put_asked` meets its contract: each case has its line. Assumes nothing.
use Rattle.std.specs.Prelude.{Ok}
use mathlib.Core.Path.{sym, ap, ◌∙◌}
use mathlib.Core.Bool.{Bool}
use Rattle.report.specs.Lines.{asked_line}
use Rattle.report.proofs.Facts.{put_as}
use native.Mathlib.Omega.{arith}
use Rattle.report.proofs.put_asked.Goals as goal

pub returns-then-covered : goal.returns-then-covered
unfolding asked_line
returns-then-covered c =
    let q = c.copy.ensures in
    let e = c.in-Ok.is ∙ ap (λ (b : Bool). Ok (record { covered = b; settled = c.in-Ok.asked.settled })) c.if-covered.true in
    record { put = put_as (ap asked_line (sym e)) (record { ends = q.value; is = q.bytes }); upper_bound = omega (arith, q.value) }

pub returns-else-covered : goal.returns-else-covered
unfolding asked_line
returns-else-covered c =
    let q = c.copy-in-Ok.ensures in
    let e = c.in-Ok.is ∙ ap (λ (b : Bool). Ok (record { covered = b; settled = c.in-Ok.asked.settled })) c.if-covered.false in
    record { put = put_as (ap asked_line (sym e)) (record { ends = q.value; is = q.bytes }); upper_bound = omega (arith, q.value) }

pub returns-in-Err : goal.returns-in-Err
unfolding asked_line
returns-in-Err c = let q = c.put_line.ensures in record { put = put_as (ap asked_line (sym c.in-Err.is)) q.put; upper_bound = q.upper_bound }
