-- `jgv_corner_count` meets its contract. Assumes nothing.
use mathlib.Core.Path.{sym, ap, ◌∙◌}
use Rattle.code.specs.Code.{cell_of}
use Rattle.corner.specs.Corner.{corner_number}
use Rattle.entries.specs.Entries.{corner_count}
use Rattle.code.proofs.Laws.Decoded.{decoded, undecoded}
use Rattle.jeguarivo.proofs.Laws.{value-given, zero-given}
use Rattle.jeguarivo.proofs.jgv_corner_count.Goals as goal

pub returns-in_default : goal.returns-in_default
unfolding corner_count
returns-in_default c =
    let code = c.args.code in
    let u = undecoded code c.cell_of.ensures c.in_default.is in
    λ i. record { refusal = sym u i; count = zero-given (corner_number (cell_of code)) 0 u i }

pub count-requires : goal.count-requires
count-requires c = (decoded _ c.cell_of.ensures c.in-Ok.is).cell

pub returns : goal.returns
unfolding corner_count
returns c =
    let x = c in
    let d = decoded _ x.cell_of.ensures x.in-Ok.is in
    λ i. record { refusal = sym d.allowed i; count = value-given 0 d.allowed (c.count.ensures ∙ ap corner_number d.is) i }
