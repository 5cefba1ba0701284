-- `division::scaled` meets its contract: after so many turns whole * d + rest is base^turns n, and rest is below d. Assumes nothing.
use mathlib.Core.Path.{◌≡◌}
use Prim.Native.Nat.{◌+◌, ◌*◌, ◌^◌, ◌<◌}
use Rattle.division.proofs.scaled.Given as goal

abbrev pub invariant-loop : goal.invariant-loop
invariant-loop l = (l.rest < l.d) × (l.whole * l.d + l.rest ≡ l.base ^ l.counter * l.n)
