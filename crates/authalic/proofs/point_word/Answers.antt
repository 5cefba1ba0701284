-- `authalic::point_word` meets its contract. Assumes nothing.
use mathlib.Core.Path.{ap, ◌∙◌}
use Prim.Native.Nat.{ℕ}
use Rattle.wide.specs.High.{high_word}
use Rattle.authalic.specs.Computed.{point_word}
use Rattle.authalic.proofs.point_word.Goals as goal

pub returns : goal.returns
unfolding point_word
returns c =
    let e : ℕ = c.args.e in
    c.high.ensures ∙ ap (λ (z : ℕ). high_word z e) c.high-square.ensures
