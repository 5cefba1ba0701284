-- `report::put_change` meets its contract: place, kind and words one behind the other. Assumes nothing.
use mathlib.Core.Path.{◌≡◌, ap, ◌∙◌}
use mathlib.Core.List.{List, ◌++◌}
use Prim.Native.Nat.{ℕ, ◌+◌, ◌-◌, ◌≤◌}
use lib.ListN.{length, take, drop}
use borrow.Rule.Slice.PartMut.{put_mid}
use Rattle.report.specs.Changes.{change_line}
use Rattle.report.specs.Put.{Put}
use Rattle.report.proofs.Laws.Put.{then-put}
use Rattle.report.proofs.Laws.Part.{part-put}
use native.Mathlib.Omega.{arith}
use Rattle.report.proofs.put_change.Goals as goal

-- bytes put in front of the part from a place on stand behind that place
behind :
    {m r : ℕ} {bytes out later : List ℕ} → m ≤ length out → Put 0 bytes (take (length out - m) (drop m out)) later r →
    Put m bytes out (put_mid m (length out - m) out later) (m + r)
behind {m} {r} {bytes} {out} h p =
    let e : r ≡ 0 + length bytes = p.ends in
    let z : 0 + length bytes ≡ length bytes = omega arith in
    let part : List ℕ = take (length out - m) (drop m out) in
    record { ends = omega arith; is = part-put out m h bytes (p.is ∙ ap (λ (i : ℕ). bytes ++ drop i part) z) }

pub returns : goal.returns
unfolding change_line
returns c =
    let k = c.put_kind in
    let n2 = c.put_number-end in
    let n1 = c.put_number-middle in
    let room = c.requires.at_in_bounds in
    let long1 = n1.auto.out in
    let long2 = n2.auto.out in
    let words = behind {m = n2.result} {out = n2.new.out} (omega (arith, room, long1, long2, n1.ensures.upper_bound, n2.ensures.upper_bound)) k.ensures.put in
    let rest = then-put n2.ensures.put (omega (arith, room, long1, n1.ensures.upper_bound, n2.ensures.upper_bound)) words in record { put = then-put n1.ensures.put (omega (arith, room, n1.ensures.upper_bound)) rest; upper_bound = omega (arith, n1.ensures.upper_bound, n2.ensures.upper_bound, k.ensures.upper_bound) }
