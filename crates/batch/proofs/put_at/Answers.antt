-- `batch::put_at` meets its contract. Assumes nothing.
use Rattle.std.specs.Prelude.{Result, ℕ}
use mathlib.Core.Path.{ap, ◌∙◌}
use lib.Seq.{sets}
use Rattle.batch.specs.Batch.{two_in}
use Rattle.batch.proofs.Laws.Batch.{read_at}
use Rattle.batch.proofs.put_at.Goals as goal

pub returns : goal.returns
returns c =
    let e = c in
    let a = e.args in
    c.put_coded.ensures ∙ ap (λ (x : Result ℕ ℕ). sets a.codes.now a.at (two_in x)) (e.coded_by.ensures ∙ read_at a.numbers.now a.i)
