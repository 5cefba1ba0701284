-- `summary::question_refusal` meets its contract: each return is the case that the tests before it pick. Assumes nothing.
use mathlib.Core.Path.{◌≡◌, sym, ◌∙◌}
use mathlib.Core.Bool.{true, false}
use lib.Dec.{ltb}
use Rattle.cell.specs.Cell.{arrangement_refusal}
use Rattle.cell.proofs.Laws.Cell.{is-arrangement}
use Rattle.code.specs.Code.{is_code, cell_of}
use Rattle.summary.proofs.Answers.{is-finer, not-finer, kept-five, no_code, finer, another, none-refused}
use Rattle.summary.proofs.question_refusal.Goals as goal
use Rattle.summary.proofs.question_refusal.Goals.{Else-not-is_code, Else-refusal-ne0, Else-size_in-lt-DISTRICT_SIZE}

-- what the tests before have shown
kept-good : (c : Else-refusal-ne0) → arrangement_refusal c.args.kept ≡ 0
kept-good c = sym c.refusal-refusal.ensures ∙ c.if-refusal-ne0.false

code-good : (c : Else-not-is_code) → is_code c.args.code ≡ true
code-good c = sym c.is_code.ensures ∙ c.if-not-is_code.false

coarse : (c : Else-size_in-lt-DISTRICT_SIZE) → ltb 2 (cell_of c.args.code).resolution ≡ false
coarse c = not-finer _ c.size_in.ensures c.if-size_in-lt-DISTRICT_SIZE.false

pub returns-then-refusal-ne0 : goal.returns-then-refusal-ne0
returns-then-refusal-ne0 c = let a = c.args in kept-five a.kept a.code c.refusal-refusal.ensures c.if-refusal-ne0.true

pub returns-then-not-is_code : goal.returns-then-not-is_code
returns-then-not-is_code c =
    let f = c in
    let a = f.args in
    no_code a.kept a.code (kept-good (goal.at.returns-then-not-is_code c).Else-refusal-ne0) (sym c.is_code.ensures ∙ c.if-not-is_code.true)

pub returns-then-size_in-lt-DISTRICT_SIZE : goal.returns-then-size_in-lt-DISTRICT_SIZE
returns-then-size_in-lt-DISTRICT_SIZE c =
    let g = c in
    let f = g in
    let a = f.args in
    finer a.kept a.code (kept-good (goal.at.returns-then-size_in-lt-DISTRICT_SIZE c).Else-refusal-ne0) (code-good (goal.at.returns-then-size_in-lt-DISTRICT_SIZE c).Else-not-is_code) (is-finer a.code c.size_in.ensures c.if-size_in-lt-DISTRICT_SIZE.true)

pub is_of-requires : goal.is_of-requires
is_of-requires c = is-arrangement (kept-good (goal.at.is_of-requires c).Else-refusal-ne0)

pub returns-then-not-is_of : goal.returns-then-not-is_of
returns-then-not-is_of c =
    let h = c in
    let g = h in
    let f = g in
    let a = f.args in
    another a.kept a.code (kept-good (goal.at.returns-then-not-is_of c).Else-refusal-ne0) (code-good (goal.at.returns-then-not-is_of c).Else-not-is_code) (coarse (goal.at.returns-then-not-is_of c).Else-size_in-lt-DISTRICT_SIZE) (sym c.is_of.ensures ∙ c.if-not-is_of.true)

pub returns : goal.returns
returns c =
    let h = c in
    let g = h in
    let f = g in
    let a = f.args in
    none-refused a.kept a.code (kept-good (goal.at.returns c).Else-refusal-ne0) (code-good (goal.at.returns c).Else-not-is_code) (coarse (goal.at.returns c).Else-size_in-lt-DISTRICT_SIZE) (sym c.is_of.ensures ∙ c.if-not-is_of.false)
