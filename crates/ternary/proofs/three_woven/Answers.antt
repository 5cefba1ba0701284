-- `ternary::three_woven` meets its contract: the table's rule at one entry. Assumes nothing.
use mathlib.Core.Path.{◌≡◌}
use Prim.Native.Nat.{◌+◌, ◌*◌}
use lib.ListN.{get_or}
use Rattle.ternary.specs.Weave.{weave}
use Rattle.ternary.proofs.Laws.Threes.{woven-entry}
use Rattle.ternary.proofs.three_woven.Goals as goal
use Rattle.ternary.proofs.three_woven.Goals.{Start}

entry : (s : Start) → get_or s.args.table.now (27 * s.args.row + s.args.column) 0 ≡ weave 3 s.args.row s.args.column
entry s = woven-entry s.requires.0 s.args.row s.args.column s.requires.1 s.requires.2

pub returns : goal.returns
returns c = entry (goal.at.returns c).Start
