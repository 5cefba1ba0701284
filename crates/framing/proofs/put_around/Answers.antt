-- Each case has its line. Assumes nothing.
use mathlib.Core.Path.{sym, ap}
use native.Mathlib.Omega.{arith}
use Rattle.report.proofs.Laws.Put.{put-none}
use Rattle.framing.specs.Framing.{around_line}
use Rattle.framing.proofs.Laws.{put_as}
use Rattle.framing.proofs.put_around.Goals as goal

pub returns-in-Edges : goal.returns-in-Edges
unfolding around_line
returns-in-Edges c =
    let q = c.put_edges.ensures in record { put = put_as (ap around_line (sym c.in-Edges.is)) q.put; upper_bound = omega (arith, q.value) }

pub returns-in-Nothing : goal.returns-in-Nothing
unfolding around_line
returns-in-Nothing c = record { put = put_as (ap around_line (sym c.in-Nothing.is)) put-none; upper_bound = omega arith }

pub returns-in-Refused : goal.returns-in-Refused
unfolding around_line
returns-in-Refused c =
    let q = c.put_line.ensures in record { put = put_as (ap around_line (sym c.in-Refused.is)) q.put; upper_bound = omega (arith, q.upper_bound) }
