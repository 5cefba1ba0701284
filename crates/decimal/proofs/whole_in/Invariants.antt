-- `decimal::whole_in` meets its contract: what is read, with the digits that are left, is the whole; what is left decides. 19 digits stay
-- below 10^19, so nothing wraps. Assumes nothing.
use mathlib.Core.Path.{◌≡◌}
use Prim.Native.Nat.{◌^◌, ◌<◌}
use lib.ListN.{drop}
use Rattle.decimal.specs.Decimal.{all_decimal}
use Rattle.decimal.proofs.Laws.{read}
use Rattle.decimal.proofs.whole_in.Given as goal

abbrev pub invariant-loop-byte : goal.invariant-loop-byte
invariant-loop-byte l = (l.n < 10 ^ l.byte-index) × (all_decimal (drop l.byte-index l.text) ≡ all_decimal l.text) × (read l.n (drop l.byte-index l.text) ≡ read 0 l.text)
