-- `decimal::put_whole` meets its contract: the digits still to write, and the bytes behind them, are the whole. Assumes nothing.
use mathlib.Core.Path.{◌≡◌}
use mathlib.Core.List.{◌++◌}
use Prim.Native.Nat.{◌-◌, ◌≤◌}
use lib.ListN.{length, take, drop}
use Rattle.decimal.proofs.Laws.{last_bytes}
use Rattle.decimal.proofs.put_whole.Given as goal

abbrev pub invariant-loop-i : goal.invariant-loop-i
invariant-loop-i l = (l.at ≤ l.i) × (length l.out ≡ length l.initial.out) × (take l.i l.out ≡ take l.i l.initial.out) × (last_bytes (l.i - l.at) l.rest ++ drop l.i l.out ≡ last_bytes (l.end - l.at) l.x ++ drop l.end l.initial.out)
