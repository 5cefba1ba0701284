-- `root::minus_reaches` meets its contract. Assumes nothing.
use mathlib.Core.Path.{sym, ap₂, ◌∙◌}
use lib.Dec.{leb}
use Rattle.root.specs.Laws.Square.{minus-over, minus-second}
use Rattle.root.proofs.minus_reaches.Goals as goal

pub returns-then-m-v : goal.returns-then-m-v
returns-then-m-v c = sym (minus-over _ _ _ _ c.if-m-v.true)

pub returns : goal.returns
returns c =
    let a = c.args in
    c.at_most.ensures ∙ ap₂ leb c.reach-left.ensures c.edge-right.ensures
    ∙ minus-second a.m a.radicand a.g a.w c.if-m-v.false
