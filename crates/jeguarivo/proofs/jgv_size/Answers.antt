-- `jgv_size` meets its contract. Assumes nothing.
use mathlib.Core.Path.{sym, ◌∙◌}
use Rattle.code.specs.Code.{cell_of, size_of}
use Rattle.code.proofs.Laws.Code.{code-passes, code-stops}
use Rattle.entries.specs.Entries.{cell_size}
use Rattle.jeguarivo.proofs.Laws.{value-given, zero-given}
use Rattle.jeguarivo.proofs.jgv_size.Goals as goal

pub returns-then-not-is_code : goal.returns-then-not-is_code
unfolding cell_size
returns-then-not-is_code c =
    let code = c.args.code in
    let u = code-stops code (sym c.is_code.ensures ∙ c.if-not-is_code.true) in
    λ i. record { refusal = sym u i; size = zero-given (size_of (cell_of code)) 0 u i }

pub returns : goal.returns
unfolding cell_size
returns c =
    let t = c in
    let p = code-passes t.args.code (sym t.is_code.ensures ∙ t.if-not-is_code.false) in
    λ i. record { refusal = sym p i; size = value-given 0 p c.size_in.ensures i }
