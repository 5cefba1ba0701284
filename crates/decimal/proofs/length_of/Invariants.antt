-- `decimal::length_of` meets its contract: the digits taken off, with those of what is left, are all. A number below 2^64 is below 10^20, so the
-- printing has fuel left where a digit is left. Assumes nothing.
use mathlib.Core.Path.{◌≡◌}
use Prim.Native.Nat.{◌+◌, ◌-◌, ◌^◌, ◌≤◌, ◌<◌}
use lib.ListN.{length}
use Rattle.decimal.specs.Decimal.{printed_from, printed}
use Rattle.decimal.proofs.length_of.Given as goal

abbrev pub invariant-loop-rest : goal.invariant-loop-rest
invariant-loop-rest l = (0 < l.n) × (l.n ≤ 20) × (l.rest < 10 ^ (21 - l.n)) × (l.n - 1 + length (printed_from (21 - l.n) l.rest) ≡ length (printed l.x))

abbrev pub decreases-loop-rest : goal.decreases-loop-rest
decreases-loop-rest l = l.rest
