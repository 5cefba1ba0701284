-- `sheet_parts::put_judged` meets its contract: each case has its line. Assumes nothing.
use mathlib.Core.Path.{sym, ap}
use mathlib.Core.List.{[], ◌∷◌}
use Rattle.decimal.specs.Decimal.{printed}
use Rattle.report.proofs.Laws.Put.{then-byte, then-put}
use Rattle.sheet_parts.specs.Printed.{judged_line}
use Rattle.sheet_parts.proofs.Written.{put_as}
use native.Mathlib.Omega.{arith}
use Rattle.sheet_parts.proofs.put_judged.Goals as goal

pub returns-in-Right : goal.returns-in-Right
unfolding judged_line
returns-in-Right c =
    let q = c.copy.ensures in
    record { put = put_as (ap judged_line (sym c.in-Right.is)) (record { ends = q.value; is = q.bytes }); upper_bound = omega (arith, q.value) }

pub returns-in-Wrong : goal.returns-in-Wrong
unfolding judged_line
returns-in-Wrong c =
    let w = c.put_whole-end.ensures in
    let q = c.copy-at.ensures in
    let j = c.in-Wrong in
    let p = then-byte c.copy-at.result (printed j.record) c.copy-at.new.to 10 w.value w.out_after (omega (arith, w.upper_bound)) in
    record {
      put = put_as (ap judged_line (sym j.is)) (then-put {a = 110 ∷ 111 ∷ 32 ∷ []} (record { ends = q.value; is = q.bytes }) (omega (arith, q.value, c.requires)) p);
      upper_bound = omega (arith, w.upper_bound, q.value);
    }

pub returns-in-Refused : goal.returns-in-Refused
unfolding judged_line
returns-in-Refused c =
    let q = c.put_line.ensures in record { put = put_as (ap judged_line (sym c.in-Refused.is)) q.put; upper_bound = omega (arith, q.upper_bound) }
