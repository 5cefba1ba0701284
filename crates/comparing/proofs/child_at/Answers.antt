-- `comparing::child_at` meets its contract. Assumes nothing.
use native.Mathlib.Omega.{arith}
use Rattle.comparing.proofs.Children.{list-child}
use Rattle.comparing.proofs.child_at.Goals as goal

pub returns : goal.returns
returns c = list-child c.if-portion-ne-LIST.false (omega arith) c.if-text-at.false (omega arith) c.if-text-next-ne40.false
