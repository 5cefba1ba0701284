-- `root::plus_reaches` meets its contract. Assumes nothing.
use mathlib.Core.Path.{sym, ap₂, ◌∙◌}
use lib.Dec.{leb}
use Rattle.root.specs.Laws.Square.{plus-under, plus-second}
use Rattle.root.proofs.plus_reaches.Goals as goal

pub returns-then-v-m : goal.returns-then-v-m
returns-then-v-m c = sym (plus-under _ _ _ _ c.if-v-m.true)

pub returns : goal.returns
returns c =
    let a = c.args in
    c.at_most.ensures ∙ ap₂ leb c.edge-left.ensures c.reach-right.ensures
    ∙ plus-second a.m a.radicand a.g a.w c.if-v-m.false
