-- `jgv_shape` meets its contract. Assumes nothing.
use mathlib.Core.Path.{sym, ap, ◌∙◌}
use Rattle.code.specs.Code.{cell_of}
use Rattle.shape.specs.Shape.{shape_of, shape_number}
use Rattle.entries.specs.Entries.{cell_shape}
use Rattle.code.proofs.Laws.Decoded.{decoded, undecoded}
use Rattle.jeguarivo.proofs.Laws.{value-given, zero-given}
use Rattle.jeguarivo.proofs.jgv_shape.Goals as goal

pub returns-in_default : goal.returns-in_default
unfolding cell_shape
returns-in_default c =
    let code = c.args.code in
    let u = undecoded code c.cell_of.ensures c.in_default.is in
    λ i. record { refusal = sym u i; shape = zero-given (shape_number (shape_of (cell_of code))) 0 u i }

pub shape_of-requires : goal.shape_of-requires
shape_of-requires c = (decoded _ c.cell_of.ensures c.in-Ok.is).cell

pub returns : goal.returns
unfolding cell_shape
returns c =
    let x = c in
    let d = decoded _ x.cell_of.ensures x.in-Ok.is in
    λ i. record { refusal = sym d.allowed i; shape = value-given 0 d.allowed (c.number.ensures ∙ ap shape_number (c.shape_of.ensures ∙ ap shape_of d.is)) i }
