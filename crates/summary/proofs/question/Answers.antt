-- `summary::question` meets its contract. Assumes nothing.
use mathlib.Core.Path.{◌≡◌, sym, ◌∙◌}
use mathlib.Core.Bool.{true}
use Rattle.code.specs.Code.{is_code}
use Rattle.summary.proofs.Answers.{question-refused, question-answered, asks-code, counters-within, as-full}
use native.Mathlib.Omega.{arith}
use Rattle.summary.proofs.question.Goals as goal
use Rattle.summary.proofs.question.Goals.{Else-refusal-ne0}

-- the code is a cell's where nothing was refused
a-code : (c : Else-refusal-ne0) → is_code c.args.code ≡ true
a-code c = let a = c.args in asks-code a.kept a.code (sym c.question_refusal-refusal.ensures ∙ c.if-refusal-ne0.false)

pub returns-then-refusal-ne0 : goal.returns-then-refusal-ne0
returns-then-refusal-ne0 c = let a = c.args in question-refused a.kept a.counters.now a.code c.question_refusal-refusal.ensures c.if-refusal-ne0.true

pub start_in-requires : goal.start_in-requires
start_in-requires c = a-code (goal.at.start_in-requires c).Else-refusal-ne0

pub all_full-requires : goal.all_full-requires
all_full-requires c =
    let b = c in
    let e = c.start_in.ensures in
    let f = c.size_in.ensures in
    omega (arith, counters-within b.args.code (a-code (goal.at.all_full-requires c).Else-refusal-ne0))

pub returns : goal.returns
returns c =
    let b = c in
    let a = b.args in
    question-answered a.kept a.counters.now a.code (sym b.if-refusal-ne0.false ∙ b.question_refusal-refusal.ensures)
    (as-full a.counters.now a.code c.start_in.ensures c.size_in.ensures c.all_full.ensures)
