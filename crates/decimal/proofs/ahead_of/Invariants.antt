-- `decimal::ahead_of` meets its contract: what is gone over, with what is ahead in the rest, is all that is ahead. Assumes nothing.
use mathlib.Core.Path.{◌≡◌}
use Prim.Native.Nat.{◌+◌}
use lib.ListN.{length, drop}
use Rattle.decimal.specs.Decimal.{ahead}
use Rattle.decimal.proofs.ahead_of.Given as goal

abbrev pub invariant-loop-i : goal.invariant-loop-i
invariant-loop-i l = l.i + length (ahead l.stop (drop l.i l.text)) ≡ length (ahead l.stop l.text)
