-- `report::put_name_and` meets its contract: the byte stands where the name ends. Assumes nothing.
use mathlib.Core.Path.{ap}
use Prim.Native.Nat.{ℕ, ◌+◌}
use Rattle.report.specs.Names.{name_bytes}
use Rattle.report.proofs.Laws.Put.{then-byte}
use Rattle.report.proofs.Laws.Part.{part-put}
use native.Mathlib.Omega.{arith}
use Rattle.report.proofs.put_name_and.Goals as goal

pub returns : goal.returns
returns c =
    let a = c.args in
    let q = c.put_name.ensures in
    let e = ap (λ (x : ℕ). a.at + x) q.value in
    let f = part-put a.out.now a.at (omega arith) (name_bytes a.code) q.room_after in record { put = then-byte a.at (name_bytes a.code) a.out.now a.byte e f (omega (arith, q.upper_bound)); upper_bound = omega (arith, q.upper_bound) }
