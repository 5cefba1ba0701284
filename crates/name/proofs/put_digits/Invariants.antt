-- `name::put_digits` meets its contract: the digits still to write, and the bytes behind them, are the whole. Assumes nothing.
use mathlib.Core.Path.{◌≡◌}
use mathlib.Core.List.{◌++◌}
use Prim.Native.Nat.{◌+◌}
use lib.ListN.{length, take, drop}
use Rattle.ternary.specs.Digits.{digits}
use Rattle.name.specs.Name.{digit_bytes}
use Rattle.name.proofs.put_digits.Given as goal

abbrev pub invariant-loop-place : goal.invariant-loop-place
invariant-loop-place l = (length l.name ≡ length l.initial.name) × (take (l.place + 1) l.name ≡ take (l.place + 1) l.initial.name) × (digit_bytes (digits 9 l.place l.p) ++ drop (l.place + 1) l.name ≡ digit_bytes
    (digits 9 l.count l.path) ++ drop (l.count + 1) l.initial.name)
