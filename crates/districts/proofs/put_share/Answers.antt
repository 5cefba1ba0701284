-- `districts::put_share` meets its contract: `done`, or the percentage, its sign and the line end. Assumes nothing.
use mathlib.Core.Path.{ap}
use mathlib.Core.List.{[], ◌∷◌, ◌++◌}
use Prim.Native.Nat.{ℕ, ◌+◌, ◌*◌, ◌/◌, ◌^◌}
use Rattle.decimal.specs.Decimal.{printed}
use Rattle.report.proofs.Laws.Put.{then-byte}
use Rattle.report.proofs.Laws.Part.{part-put}
use Rattle.districts.proofs.Lines.{put_as, share-done, share_part}
use native.Mathlib.Omega.{arith}
use Rattle.districts.proofs.put_share.Goals as goal

pub returns-then-count-eq-DISTRICT_SIZE : goal.returns-then-count-eq-DISTRICT_SIZE
returns-then-count-eq-DISTRICT_SIZE c =
    let s = c in
    let a = s.args in
    let q = c.copy.ensures in
    let f = part-put a.out.now a.at (omega (arith, s.requires.at_in_bounds)) (100 ∷ 111 ∷ 110 ∷ 101 ∷ 10 ∷ []) q.bytes in
    record { put = put_as (share-done a.count c.if-count-eq-DISTRICT_SIZE.true) (record { ends = ap (λ (n : ℕ). a.at + n) q.value; is = f }); upper_bound = omega (arith, q.value) }

pub returns : goal.returns
returns c =
    let s = c in
    let a = s.args in
    let q = c.put_number-end.ensures in
    let f = then-byte a.at (printed (a.count * 100 / 9 ^ 13) ++ (37 ∷ [])) a.out.now 10 q.put.ends q.put.is (omega (arith, q.upper_bound, s.requires.at_in_bounds)) in record { put = put_as (share_part a.count c.if-count-eq-DISTRICT_SIZE.false) f; upper_bound = omega (arith, q.upper_bound) }
