-- `writing::start_at` meets its contract. Assumes nothing.
use native.Mathlib.Omega.{arith}
use Rattle.writing.specs.Internal.MeasureLaws.{code-at}
use Rattle.writing.proofs.start_at.Goals as goal

pub start_in-requires : goal.start_in-requires
start_in-requires c = let a = c in code-at a.args.codes.now a.args.at a.requires (omega arith)
