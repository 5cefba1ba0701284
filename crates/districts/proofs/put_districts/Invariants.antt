-- `districts::put_districts` meets its contract: one line more, or none, after each turn. Assumes nothing.
use mathlib.Core.Path.{◌≡◌}
use Prim.Native.Nat.{◌*◌, ◌≤◌}
use lib.ListN.{length, take}
use Rattle.report.specs.Put.{Put}
use Rattle.districts.specs.Districts.{district_lines}
use Rattle.districts.proofs.put_districts.Given as goal

abbrev pub invariant-loop-i : goal.invariant-loop-i
invariant-loop-i l = Put 0 (district_lines 0 (take l.i l.counters)) l.initial.out l.out l.end × (l.end ≤ 60 * l.i) × (length l.out ≡ length l.initial.out)
