-- `say_refused` meets its contract. Assumes nothing.
use Rattle.record.proofs.Laws.{waits-full, waits-more}
use native.Mathlib.Omega.{arith}
use Rattle.record.proofs.say_refused.Goals as goal

pub returns-then-waits-lt3 : goal.returns-then-waits-lt3
returns-then-waits-lt3 c = waits-full _ _ _ (omega arith)

pub returns-then-taken-waits : goal.returns-then-taken-waits
returns-then-taken-waits c = waits-full _ _ _ (omega arith)

pub returns : goal.returns
returns c = waits-more _ _ _ (omega arith)
