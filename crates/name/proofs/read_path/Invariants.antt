-- `name::read_path` meets its contract: what is read, with the digits that are left, is the whole; what is left decides. Assumes nothing.
use mathlib.Core.Path.{◌≡◌}
use Prim.Native.Nat.{◌^◌, ◌<◌}
use lib.ListN.{drop}
use Rattle.name.specs.Name.{all_digits}
use Rattle.name.proofs.Laws.{read}
use Rattle.name.proofs.read_path.Given as goal

abbrev pub invariant-loop-b : goal.invariant-loop-b
invariant-loop-b l = (l.path < 9 ^ l.b-index) × (all_digits (drop l.b-index l.b-items) ≡ all_digits (drop 1 l.name)) × (read l.path (drop l.b-index l.b-items) ≡ read 0 (drop 1 l.name))
