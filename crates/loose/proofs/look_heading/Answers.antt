-- `look_heading` meets its contract: each return is the case that the tests before it pick. Assumes nothing.
use native.Mathlib.Omega.{arith}
use mathlib.Core.Path.{◌∙◌}
use Rattle.loose.proofs.Answers.{head-cut, head-mark, head-turns, head-version}
use Rattle.loose.proofs.look_heading.Goals as goal

pub returns-then-text-lt5 : goal.returns-then-text-lt5
returns-then-text-lt5 c =
    let a = c in
    c.refused.ensures ∙ head-cut a.args.text.now a.requires.0 a.requires.1 a.requires.2 (omega arith)

pub returns-then-right-lt3 : goal.returns-then-right-lt3
returns-then-right-lt3 c =
    let a = c in
    c.refused-then-right-lt3.ensures ∙ head-mark a.args.text.now a.requires.0 a.requires.1 a.requires.2 (omega arith)

pub returns-then-right-lt5 : goal.returns-then-right-lt5
returns-then-right-lt5 c =
    let a = c in
    c.refused-then-right-lt5.ensures ∙ head-version a.args.text.now a.requires.0 a.requires.1 a.requires.2 (omega arith) (omega arith) (omega arith)

pub returns : goal.returns
returns c =
    let a = c in
    c.refused-2.ensures ∙ head-turns a.args.text.now a.requires.0 a.requires.1 a.requires.2 (omega arith)
