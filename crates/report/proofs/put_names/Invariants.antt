-- `report::put_names` meets its contract: one name more after each turn. Assumes nothing.
use mathlib.Core.Path.{◌≡◌}
use Prim.Native.Nat.{◌≤◌}
use lib.ListN.{length, take}
use Rattle.report.specs.Put.{Put}
use Rattle.report.specs.Names.{names_of}
use Rattle.report.proofs.put_names.Given as goal

abbrev pub invariant-loop-count : goal.invariant-loop-count
invariant-loop-count l = Put 0 (names_of (take l.count l.codes)) l.initial.out l.out l.end × (l.end ≤ length l.initial.out) × (length l.out ≡ length l.initial.out)
