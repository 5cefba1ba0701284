-- `console::setting_in` meets its contract: what it hands on was judged. Assumes nothing.
use native.Mathlib.Omega.{arith}
use Rattle.std.proofs.lemmas.Grind.{common_steps}
use Rattle.console.proofs.Laws.Arguments.{judged-usable}
use Rattle.console.proofs.setting_in.Goals as goal

pub returns-then-is_kept : goal.returns-then-is_kept
returns-then-is_kept c = grind (arith, common_steps, judged-usable)

pub returns : goal.returns
returns c = grind (arith, common_steps, judged-usable)
