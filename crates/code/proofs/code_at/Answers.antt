-- `code::code_at` meets its contract. Assumes nothing.
use mathlib.Core.Path.{ap, ◌∙◌}
use Prim.Native.Nat.{ℕ, ◌+◌, ◌*◌}
use Rattle.code.specs.Code.{code_at}
use Rattle.code.proofs.code_at.Goals as goal

pub returns : goal.returns
unfolding code_at
returns c =
    let a = c.args.arrangement in
    c.with_arrangement.ensures ∙ ap (λ (x : ℕ). 16 * x + (4 * a.north + a.south)) c.cell_code_at.ensures.0
