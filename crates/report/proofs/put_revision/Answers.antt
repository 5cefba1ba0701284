-- `report::put_revision` meets its contract: the revision, and its settings behind it. Assumes nothing.
use Rattle.report.proofs.Laws.Put.{then-put}
use native.Mathlib.Omega.{arith}
use Rattle.report.proofs.put_revision.Goals as goal

pub returns : goal.returns
returns c =
    let n = c.put_number-middle.ensures in
    let s = c.put_settings.ensures in record { put = then-put n.put (omega (arith, n.upper_bound)) s.put; upper_bound = omega (arith, n.upper_bound, s.upper_bound) }
