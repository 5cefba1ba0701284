-- `ternary::woven` meets its contract: the turns that are left end in the same path. Assumes nothing.
use mathlib.Core.Path.{◌≡◌}
use Prim.Native.Nat.{◌-◌, ◌≤◌, ◌<◌}
use Rattle.ternary.proofs.ByFive.{turned}
use Rattle.ternary.proofs.woven.Given as goal

abbrev pub invariant-loop-turns : goal.invariant-loop-turns
invariant-loop-turns l = (l.this < 72057594037927936) × (l.other < 72057594037927936) × (1 ≤ l.by) × (l.by ≤ 19683) × (1 ≤ l.then) × (l.then ≤ 19683)
    × (turned l.turns l.this l.other l.by l.then l.path ≡ turned 6 l.row l.column 19683 3 0)

abbrev pub decreases-loop-turns : goal.decreases-loop-turns
decreases-loop-turns l = l.turns
