-- `look` meets its contract: each return is the case that the tests before it pick. Assumes nothing.
use mathlib.Core.Path.{◌∙◌}
use Rattle.loose.proofs.Answers.{long-answer}
use native.Mathlib.Omega.{arith}
use Rattle.loose.proofs.look.Goals as goal

pub returns-then-text-gt-LONGEST : goal.returns-then-text-gt-LONGEST
returns-then-text-gt-LONGEST c = c.refused.ensures ∙ long-answer c.args.text.now (omega arith)
