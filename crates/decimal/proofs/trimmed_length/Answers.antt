-- `decimal::trimmed_length` meets its contract, by the last byte. Assumes nothing.
use mathlib.Core.Path.{sym}
use native.Mathlib.Omega.{arith}
use Rattle.decimal.proofs.Laws.{trimmed-return, trimmed-all}
use Rattle.decimal.proofs.trimmed_length.Goals as goal

pub returns-then-line-n-eq13 : goal.returns-then-line-n-eq13
returns-then-line-n-eq13 c = record { value = sym (trimmed-return c.args.line.now (omega arith) c.if-line-n-eq13.true); upper_bound = omega arith }

pub returns : goal.returns
returns c = record { value = sym (trimmed-all c.args.line.now (omega arith) c.if-line-n-eq13.false); upper_bound = omega arith }
