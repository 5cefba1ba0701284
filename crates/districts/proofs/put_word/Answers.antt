-- `districts::put_word` meets its contract: each answer has its line. Assumes nothing.
use Rattle.std.specs.Prelude.{Ok}
use mathlib.Core.Path.{sym, ap}
use mathlib.Core.Bool.{Bool}
use Rattle.districts.specs.Question.{question_line}
use Rattle.districts.proofs.Lines.{put_as}
use native.Mathlib.Omega.{arith}
use Rattle.districts.proofs.put_word.Goals as goal

pub returns-then-yes : goal.returns-then-yes
unfolding question_line
returns-then-yes c =
    let q = c.copy.ensures in
    record { put = put_as (ap (λ (b : Bool). question_line (Ok b)) (sym c.if-yes.true)) (record { ends = q.value; is = q.bytes }); upper_bound = omega (arith, q.value) }

pub returns : goal.returns
unfolding question_line
returns c =
    let q = c.copy-2.ensures in
    record { put = put_as (ap (λ (b : Bool). question_line (Ok b)) (sym c.if-yes.false)) (record { ends = q.value; is = q.bytes }); upper_bound = omega (arith, q.value) }
