-- `kept` meets its contract. Assumes nothing.
use mathlib.Core.Path.{sym, ap, ◌∙◌, subst}
use Rattle.cell.specs.declared.Arrangement.{Arrangement}
use Rattle.cell.specs.Cell.{IsArrangement}
use Rattle.code.specs.Code.{code_of, coded}
use Rattle.code.proofs.Laws.Code.{code-arranged}
use Rattle.entries.specs.Entries.{code_answer}
use Rattle.jeguarivo.proofs.kept.Goals as goal

pub code_of-requires : goal.code_of-requires
code_of-requires c = record { arrangement = subst IsArrangement (sym c.arrangement_of.ensures) (code-arranged c.args.code); cell = c.requires }

pub returns : goal.returns
unfolding code_answer coded
returns c =
    let cell = c.args.cell in
    λ i. record { refusal = 0; code = (c.code_of.ensures ∙ ap (λ (a : Arrangement). code_of a cell) c.arrangement_of.ensures) i }
